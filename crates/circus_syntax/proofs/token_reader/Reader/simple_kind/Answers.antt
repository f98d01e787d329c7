use Rattle.circus_syntax.proofs.ByWord.{called_is}
use Rattle.circus_syntax.proofs.token_reader.Reader.simple_kind.Goals as goal

pub returns-in-Name : goal.returns-in-Name
returns-in-Name c = rw c.in-Name.is (called_is _ _ _ c.in_ok-name_of_type-in-Name.ensures.read c.in_ok-name_of_type-in-Name.ensures.at)
