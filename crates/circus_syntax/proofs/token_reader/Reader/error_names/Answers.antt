use Rattle.circus_syntax.proofs.ByLine.{reported_is}
use Rattle.circus_syntax.proofs.token_reader.Reader.error_names.Goals as goal

pub returns : goal.returns
returns c = reported_is _ _ _ _ _ _ c.word.ensures c.sign.ensures c.in_ok-names.ensures c.sign-2.ensures
