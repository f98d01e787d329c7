use Rattle.circus_syntax.proofs.ByLine.{heading_is}
use Rattle.circus_syntax.proofs.token_reader.Reader.heading.Goals as goal

pub returns : goal.returns
returns c =
    heading_is _ _ _ _ _ _ _ _ _ _ _ _ c.in_ok-name.ensures c.sign.ensures c.word.ensures c.number-number.ensures c.word-2.ensures c.number-version.ensures c.sign-2.ensures c.word-3.ensures
