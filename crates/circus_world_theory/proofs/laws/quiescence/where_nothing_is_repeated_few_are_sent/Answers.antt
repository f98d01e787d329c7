use Rattle.circus_world_theory.proofs.Quiescence.Bounding.{few_sent}
use Rattle.circus_world_theory.proofs.laws.quiescence.where_nothing_is_repeated_few_are_sent.Goals as goal

pub returns : goal.returns
returns g c = λ d modules hosted lines booted last world alone once.
    few_sent g.M.Module.declared g.M.Module.turn g.M.Module.first
    (λ m. record { first_is_state = g.met.M.Module.first_is_state m; turns_are_lawful = g.met.M.Module.turns_are_lawful m }) d modules hosted lines booted last world alone once
