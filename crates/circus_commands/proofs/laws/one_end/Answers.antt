use Rattle.circus_commands.proofs.OneEnding.{end_one}
use Rattle.circus_commands.proofs.laws.one_end.Goals as goal

pub returns : goal.returns
returns c = end_one
