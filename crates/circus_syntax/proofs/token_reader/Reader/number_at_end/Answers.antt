use Rattle.circus_syntax.proofs.ByLine.{numbered_is}
use Rattle.circus_syntax.proofs.token_reader.Reader.number_at_end.Goals as goal

pub returns : goal.returns
returns c = numbered_is _ _ _ _ _ c.sign.ensures c.number-number.ensures c.sign-2.ensures
