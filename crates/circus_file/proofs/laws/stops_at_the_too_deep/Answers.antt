use Rattle.std.proofs.Common.{refl}
use Rattle.circus_syntax.specs.Spelling.{most_levels}
use Rattle.circus_expression.proofs.Ends.{too_deep}
use Rattle.circus_file.proofs.Programs.{programs_lawful}
use Rattle.circus_file.proofs.laws.stops_at_the_too_deep.Goals as goal

pub returns : goal.returns
returns c = too_deep programs_lawful refl most_levels
