use Rattle.std.proofs.Common.{true, false}
use Rattle.circus_syntax.proofs.ByWord.{long_is}
use Rattle.circus_syntax.proofs.token_reader.Reader.long_kind.Goals as goal

pub returns-then-is_long_integer : goal.returns-then-is_long_integer
returns-then-is_long_integer c = long_is _ _ _ _ true c.word.ensures c.is_long_integer.ensures c.if-is_long_integer.true

pub returns-else-is_long_integer : goal.returns-else-is_long_integer
returns-else-is_long_integer c = long_is _ _ _ _ false c.word.ensures c.is_long_integer.ensures c.if-is_long_integer.false
