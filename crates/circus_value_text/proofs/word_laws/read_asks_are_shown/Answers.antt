use Rattle.circus_value_text.proofs.WordsInverse.{asks_sound}
use Rattle.circus_value_text.proofs.word_laws.read_asks_are_shown.Goals as goal

pub returns : goal.returns
returns c = asks_sound
