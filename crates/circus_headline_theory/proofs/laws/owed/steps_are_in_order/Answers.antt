use Rattle.circus_headline_theory.proofs.Owed.Ordering.{in_order}
use Rattle.circus_headline_theory.proofs.laws.owed.steps_are_in_order.Goals as goal

pub returns : goal.returns
returns g c = λ place views beginning hosted p step o lived.
    in_order g.M.Module.declared g.M.Module.turn g.M.Module.first
    (λ h. record { first_is_state = g.met.M.Module.first_is_state h; turns_are_lawful = g.met.M.Module.turns_are_lawful h }) place views beginning hosted lived.home p step o
    lived.may
