use Rattle.circus_troupe.proofs.Whole.{deployment_stops}
use Rattle.circus_troupe.proofs.laws.stops_at_the_unexpected.Goals as goal

pub returns : goal.returns
returns c = deployment_stops
