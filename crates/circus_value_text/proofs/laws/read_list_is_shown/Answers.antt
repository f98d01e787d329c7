use Rattle.circus_value_text.proofs.Inverse.{list_sound}
use Rattle.circus_value_text.proofs.laws.read_list_is_shown.Goals as goal

pub returns : goal.returns
returns c = list_sound
