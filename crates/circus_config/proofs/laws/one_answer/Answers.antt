use Rattle.circus_config.proofs.OneAnswer.{plan_one, refusal_one, not_both}
use Rattle.circus_config.proofs.laws.one_answer.Goals as goal

pub returns-clause-program : goal.returns-clause-program
returns-clause-program c = plan_one

pub returns-clause-refusal : goal.returns-clause-refusal
returns-clause-refusal c = refusal_one

pub returns-clause-either : goal.returns-clause-either
returns-clause-either c = not_both
