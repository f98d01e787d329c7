use Rattle.circus_troupe.proofs.Whole.{deployment_whole}
use Rattle.circus_troupe.proofs.laws.read_is_a_deployment.Goals as goal

pub returns : goal.returns
returns c = deployment_whole
