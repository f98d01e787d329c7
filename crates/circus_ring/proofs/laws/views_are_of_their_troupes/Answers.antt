use Rattle.circus_ring.proofs.Deploying.{deployed_are}
use Rattle.circus_ring.proofs.Staying.{views_are}
use Rattle.circus_ring.proofs.laws.views_are_of_their_troupes.Goals as goal

pub returns-clause-views : goal.returns-clause-views
returns-clause-views c = views_are

pub returns-clause-deployed : goal.returns-clause-deployed
returns-clause-deployed c = deployed_are
