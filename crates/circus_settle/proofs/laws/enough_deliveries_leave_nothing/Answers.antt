use Rattle.circus_settle.proofs.Sufficing.{none_left, roots_end}
use Rattle.circus_settle.proofs.laws.enough_deliveries_leave_nothing.Goals as goal

pub returns-clause-none : goal.returns-clause-none
returns-clause-none g c = λ d modules hosted most booted done world enough settled.
    none_left g.M.Module.declared g.M.Module.turn g.M.Module.first
    (λ m. record { first_is_state = g.met.M.Module.first_is_state m; turns_are_lawful = g.met.M.Module.turns_are_lawful m }) d modules hosted most booted done world enough settled

pub returns-clause-roots : goal.returns-clause-roots
returns-clause-roots g c = λ d modules hosted most booted done world enough settled asks.
    roots_end g.M.Module.declared g.M.Module.turn g.M.Module.first
    (λ m. record { first_is_state = g.met.M.Module.first_is_state m; turns_are_lawful = g.met.M.Module.turns_are_lawful m }) d modules hosted most booted done world enough settled asks
