use Rattle.circus_node_command.proofs.ServingAlike.{serving_as}
use Rattle.circus_node_command.proofs.laws.serving_depends_on_behaviours.Goals as goal

pub returns : goal.returns
returns g c = λ d own booted gives takes. serving_as g.M.Module.declared g.M.Module.turn g.M.Module.first d own booted gives takes
