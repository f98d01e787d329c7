use Rattle.circus_world_theory.proofs.Theorem.{records_stand}
use Rattle.circus_world_theory.proofs.laws.records_stand.Goals as goal

pub returns : goal.returns
returns g c = λ d modules hosted lines booted last world.
    records_stand g.M.Module.declared g.M.Module.turn g.M.Module.first
    (λ m. record { first_is_state = g.met.M.Module.first_is_state m; turns_are_lawful = g.met.M.Module.turns_are_lawful m }) d modules hosted lines booted last world
