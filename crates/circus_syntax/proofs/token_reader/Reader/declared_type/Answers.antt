use Rattle.circus_syntax.specs.Spelling.{most_levels}
use Rattle.circus_syntax.specs.TypeOf.{tree_of}
use Rattle.circus_syntax.proofs.ByLine.{declared_type_is}
use Rattle.circus_syntax.proofs.token_reader.Reader.declared_type.Goals as goal

pub returns : goal.returns
returns c = declared_type_is most_levels _ _ _ _ _ (tree_of c.in_ok-read.read) c.word.ensures c.sign.ensures c.in_ok-read.ensures c.sign-2.ensures
