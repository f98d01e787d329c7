use Rattle.circus_world_theory.proofs.Theorem.{asks_are_true, returns_are_true, others_cite_nothing}
use Rattle.circus_world_theory.proofs.laws.messages_are_true.Goals as goal

pub returns-clause-asks : goal.returns-clause-asks
returns-clause-asks g c = λ d modules hosted lines booted last world.
    asks_are_true g.M.Module.declared g.M.Module.turn g.M.Module.first
    (λ m. record { first_is_state = g.met.M.Module.first_is_state m; turns_are_lawful = g.met.M.Module.turns_are_lawful m }) d modules hosted lines booted last world

pub returns-clause-returns : goal.returns-clause-returns
returns-clause-returns g c = λ d modules hosted lines booted last world.
    returns_are_true g.M.Module.declared g.M.Module.turn g.M.Module.first
    (λ m. record { first_is_state = g.met.M.Module.first_is_state m; turns_are_lawful = g.met.M.Module.turns_are_lawful m }) d modules hosted lines booted last world

pub returns-clause-others : goal.returns-clause-others
returns-clause-others g c = λ d modules hosted lines booted last world.
    others_cite_nothing g.M.Module.declared g.M.Module.turn g.M.Module.first
    (λ m. record { first_is_state = g.met.M.Module.first_is_state m; turns_are_lawful = g.met.M.Module.turns_are_lawful m }) d modules hosted lines booted last world
