use Rattle.circus_lang.proofs.Modules.{modules_lawful}
use Rattle.circus_lang.proofs.Whole.{one_tree}
use Rattle.circus_lang.proofs.laws.one_module.Goals as goal

pub returns : goal.returns
returns c = one_tree modules_lawful
