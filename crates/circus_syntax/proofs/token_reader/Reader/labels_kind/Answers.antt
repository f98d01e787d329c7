use Rattle.circus_syntax.proofs.ByWord.{labels_is}
use Rattle.circus_syntax.proofs.token_reader.Reader.labels_kind.Goals as goal

pub returns : goal.returns
returns c = labels_is _ _ _ _ _ c.sign.ensures c.in_ok-labels.ensures c.sign-2.ensures
