use Rattle.circus_node.proofs.NodesAlike.{node_stepped_as}
use Rattle.circus_node.proofs.behaviour_laws.steps_depend_on_behaviours.Goals as goal

pub returns : goal.returns
returns g c = λ at event n. node_stepped_as g.M.Module.declared g.M.Module.turn g.M.Module.first at event n
