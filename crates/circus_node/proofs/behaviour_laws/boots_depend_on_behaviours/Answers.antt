use Rattle.circus_node.proofs.NodesAlike.{node_booted_as}
use Rattle.circus_node.proofs.behaviour_laws.boots_depend_on_behaviours.Goals as goal

pub returns : goal.returns
returns g c = λ d hosted node. node_booted_as g.M.Module.declared g.M.Module.turn g.M.Module.first d hosted node
