use Rattle.circus_troupe.proofs.Whole.{deployment_in_front}
use Rattle.circus_troupe.proofs.laws.stops_behind_a_deployment.Goals as goal

pub returns : goal.returns
returns c = deployment_in_front
