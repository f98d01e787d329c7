use Rattle.circus_value_text.proofs.WordsInverse.{bytes_sound}
use Rattle.circus_value_text.proofs.word_laws.read_bytes_are_shown.Goals as goal

pub returns : goal.returns
returns c = bytes_sound
