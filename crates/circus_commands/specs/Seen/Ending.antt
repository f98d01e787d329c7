-- What the code's ending says, as plain data.
use Rattle.circus_commands.specs.declared.ending.Ending as coded
use Rattle.circus_commands.specs.Ending.{Ending}

abbrev pub ending_of : coded.Ending → Ending
ending_of e = record { status = e.status; text = e.text }
