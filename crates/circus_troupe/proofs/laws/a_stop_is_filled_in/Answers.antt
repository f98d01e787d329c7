use Rattle.circus_expression.proofs.Ends.{filled_in}
use Rattle.circus_troupe.proofs.Deployments.{deployments_lawful}
use Rattle.circus_troupe.proofs.laws.a_stop_is_filled_in.Goals as goal

pub returns : goal.returns
returns c = filled_in deployments_lawful 0
