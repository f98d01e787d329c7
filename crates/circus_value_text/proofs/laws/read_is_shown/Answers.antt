use Rattle.circus_value_text.proofs.Inverse.{sound}
use Rattle.circus_value_text.proofs.laws.read_is_shown.Goals as goal

pub returns : goal.returns
returns c = sound
