use Rattle.circus_syntax.specs.Spelling.{most_levels}
use Rattle.circus_expression.proofs.Ends.{reads}
use Rattle.circus_lang.proofs.Modules.{modules_lawful}
use Rattle.circus_lang.proofs.laws.modules_are_read.Goals as goal

pub returns : goal.returns
returns c = λ own rest w end are within. reads modules_lawful most_levels own rest w end are within tt
