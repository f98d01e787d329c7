use Rattle.circus_value_text.proofs.Inverse.{list_complete}
use Rattle.circus_value_text.proofs.laws.shown_list_is_read.Goals as goal

pub returns : goal.returns
returns c = list_complete
