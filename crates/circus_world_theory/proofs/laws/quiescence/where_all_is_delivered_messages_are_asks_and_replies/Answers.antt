use Rattle.circus_world_theory.proofs.Quiescence.QuietWorlds.{calls_are_asks, returns_are_replies}
use Rattle.circus_world_theory.proofs.laws.quiescence.where_all_is_delivered_messages_are_asks_and_replies.Goals as goal

pub returns-clause-asks : goal.returns-clause-asks
returns-clause-asks g c = λ d modules hosted lines booted last world deliveries.
    calls_are_asks g.M.Module.declared g.M.Module.turn g.M.Module.first
    (λ m. record { first_is_state = g.met.M.Module.first_is_state m; turns_are_lawful = g.met.M.Module.turns_are_lawful m }) d modules hosted lines booted last world deliveries

pub returns-clause-replies : goal.returns-clause-replies
returns-clause-replies g c = λ d modules hosted lines booted last world deliveries.
    returns_are_replies g.M.Module.declared g.M.Module.turn g.M.Module.first
    (λ m. record { first_is_state = g.met.M.Module.first_is_state m; turns_are_lawful = g.met.M.Module.turns_are_lawful m }) d modules hosted lines booted last world deliveries
