use Rattle.circus_place.proofs.OneAnswer.{one_answer}
use Rattle.circus_place.proofs.laws.one_refusal.Goals as goal

pub returns : goal.returns
returns c = one_answer
