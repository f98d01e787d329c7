use Rattle.circus_value_text.proofs.WordsInverse.{clock_sound}
use Rattle.circus_value_text.proofs.word_laws.read_clock_is_shown.Goals as goal

pub returns : goal.returns
returns c = clock_sound
