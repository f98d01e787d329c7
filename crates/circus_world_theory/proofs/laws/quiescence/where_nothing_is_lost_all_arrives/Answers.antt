use Rattle.circus_world_theory.proofs.Quiescence.Lossless.{all_between}
use Rattle.circus_world_theory.proofs.laws.quiescence.where_nothing_is_lost_all_arrives.Goals as goal

pub returns : goal.returns
returns g c = λ d modules hosted lines booted last node other world quiet node_below other_below differs.
    all_between g.M.Module.declared g.M.Module.turn d g.M.Module.first hosted modules lines booted last
    world.deployment world.troupes world.hosts world.boots world.leads quiet node other node_below other_below differs
