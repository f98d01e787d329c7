use Rattle.circus_fault.proofs.LeastIs.{least_is}
use Rattle.circus_config.specs.Rank.{rank_of}
use Rattle.circus_config.proofs.laws.answer_is_least.Goals as goal

pub returns : goal.returns
returns c = least_is rank_of
