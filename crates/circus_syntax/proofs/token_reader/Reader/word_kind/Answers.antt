use Rattle.circus_syntax.proofs.ByWord.{cardinal_is, integer_is, text_is, boolean_is}
use Rattle.circus_syntax.proofs.token_reader.Reader.word_kind.Goals as goal

pub returns-in-Cardinal : goal.returns-in-Cardinal
returns-in-Cardinal c = rw c.in-Cardinal.is (cardinal_is _ _ c.word.ensures)

pub returns-in-Integer : goal.returns-in-Integer
returns-in-Integer c = rw c.in-Integer.is (integer_is _ _ c.word-in-Integer.ensures)

pub returns-in-Text : goal.returns-in-Text
returns-in-Text c = rw c.in-Text.is (text_is _ _ c.word-in-Text.ensures)

pub returns-in_default : goal.returns-in_default
returns-in_default c =
    boolean_is c.args.start _ _ c.word-in_default.ensures c.in_default.not-Cardinal c.in_default.not-Integer c.in_default.not-Text c.requires.long c.requires.labels c.requires.named
