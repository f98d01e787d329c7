use Rattle.circus_headline_theory.proofs.Owed.Telling.{told_all}
use Rattle.circus_headline_theory.proofs.laws.owed.differences_are_told.Goals as goal

pub returns : goal.returns
returns g c = λ place views beginning hosted p lived.
    told_all g.M.Module.declared g.M.Module.turn g.M.Module.first (λ h. record { first_is_state = g.met.M.Module.first_is_state h; turns_are_lawful = g.met.M.Module.turns_are_lawful h }) place views beginning hosted lived.home
    p lived.may
