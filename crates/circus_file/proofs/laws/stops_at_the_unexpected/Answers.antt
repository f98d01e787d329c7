use Rattle.std.proofs.Common.{refl}
use Rattle.circus_syntax.specs.Spelling.{most_levels}
use Rattle.circus_expression.proofs.Ends.{unexpected}
use Rattle.circus_file.proofs.Programs.{programs_lawful}
use Rattle.circus_file.proofs.laws.stops_at_the_unexpected.Goals as goal

pub returns : goal.returns
returns c = unexpected programs_lawful refl most_levels
