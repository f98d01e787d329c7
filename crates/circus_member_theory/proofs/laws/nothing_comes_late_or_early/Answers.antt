use Rattle.circus_member_theory.proofs.Timely.Lived.{timely}
use Rattle.circus_member_theory.proofs.laws.nothing_comes_late_or_early.Goals as goal

pub returns : goal.returns
returns g c = λ place views beginning hosted p lived.
    timely g.M.Module.declared g.M.Module.turn g.M.Module.first
    (λ h. record { first_is_state = g.met.M.Module.first_is_state h; turns_are_lawful = g.met.M.Module.turns_are_lawful h }) place views hosted lived.home beginning p
    lived.may
