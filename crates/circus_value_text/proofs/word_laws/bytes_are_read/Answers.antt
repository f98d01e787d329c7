use Rattle.circus_value_text.proofs.WordsInverse.{bytes_complete}
use Rattle.circus_value_text.proofs.word_laws.bytes_are_read.Goals as goal

pub returns : goal.returns
returns c = bytes_complete
