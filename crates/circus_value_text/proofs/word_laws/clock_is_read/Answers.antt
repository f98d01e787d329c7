use Rattle.circus_value_text.proofs.WordsInverse.{clock_complete}
use Rattle.circus_value_text.proofs.word_laws.clock_is_read.Goals as goal

pub returns : goal.returns
returns c = clock_complete
