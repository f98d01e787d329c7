use Rattle.circus_syntax.specs.Spelling.{most_levels}
use Rattle.circus_expression.proofs.Ends.{filled_in}
use Rattle.circus_file.proofs.Programs.{programs_lawful}
use Rattle.circus_file.proofs.laws.a_stop_is_filled_in.Goals as goal

pub returns : goal.returns
returns c = filled_in programs_lawful most_levels
