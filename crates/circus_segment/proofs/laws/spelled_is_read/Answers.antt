use Rattle.circus_segment.proofs.Spellings.{read_again}
use Rattle.circus_segment.proofs.laws.spelled_is_read.Goals as goal

pub returns : goal.returns
returns c = read_again
