use Rattle.circus_world_theory.proofs.Theorem.{none_differ}
use Rattle.circus_world_theory.proofs.laws.no_difference.Goals as goal

pub returns : goal.returns
returns g c = λ d modules hosted lines booted last world.
    none_differ g.M.Module.declared g.M.Module.turn g.M.Module.first
    (λ m. record { first_is_state = g.met.M.Module.first_is_state m; turns_are_lawful = g.met.M.Module.turns_are_lawful m }) d modules hosted lines booted last world
