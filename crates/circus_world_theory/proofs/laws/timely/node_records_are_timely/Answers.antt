use Rattle.circus_world_theory.proofs.Timely.Nodes.{node_records_are_timely}
use Rattle.circus_world_theory.proofs.laws.timely.node_records_are_timely.Goals as goal

pub returns : goal.returns
returns g c = λ d own node events begun last life.
    node_records_are_timely g.M.Module.declared g.M.Module.turn g.M.Module.first
    (λ m. record { first_is_state = g.met.M.Module.first_is_state m; turns_are_lawful = g.met.M.Module.turns_are_lawful m }) d own node events begun last life
