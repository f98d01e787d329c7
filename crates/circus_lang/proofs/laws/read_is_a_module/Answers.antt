use Rattle.circus_syntax.specs.Spelling.{most_levels}
use Rattle.circus_expression.proofs.Ends.{read_whole}
use Rattle.circus_lang.proofs.Modules.{modules_lawful}
use Rattle.circus_lang.proofs.laws.read_is_a_module.Goals as goal

pub returns : goal.returns
returns c = read_whole modules_lawful most_levels
