use Rattle.circus_value_text.proofs.WordsInverse.{asks_complete}
use Rattle.circus_value_text.proofs.word_laws.asks_are_read.Goals as goal

pub returns : goal.returns
returns c = asks_complete
