use Rattle.circus_schedule.proofs.OneAnswer.{IsAnswer-one}
use Rattle.circus_schedule.proofs.laws.one_answer.Goals as goal

pub returns : goal.returns
returns c = IsAnswer-one
