use Rattle.circus_config.proofs.PlanIs.{plan_is}
use Rattle.circus_config.proofs.laws.programs_are_plans.Goals as goal

pub returns : goal.returns
returns c = plan_is
