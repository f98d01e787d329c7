use Rattle.circus_troupe.proofs.Whole.{deployment_read}
use Rattle.circus_troupe.proofs.laws.deployments_are_read.Goals as goal

pub returns : goal.returns
returns c = deployment_read
