use Rattle.circus_value_text.proofs.Inverse.{complete}
use Rattle.circus_value_text.proofs.laws.shown_is_read.Goals as goal

pub returns : goal.returns
returns c = complete
