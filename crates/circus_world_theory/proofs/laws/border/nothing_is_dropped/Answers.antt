use Rattle.circus_world_theory.proofs.Border.Whole.{steps_hand_all}
use Rattle.circus_world_theory.proofs.laws.border.nothing_is_dropped.Goals as goal

pub returns : goal.returns
returns g c = λ d modules hosted lines booted last is node step.
    (steps_hand_all g.M.Module.declared g.M.Module.turn g.M.Module.first
    (λ m. record { first_is_state = g.met.M.Module.first_is_state m; turns_are_lawful = g.met.M.Module.turns_are_lawful m })
    d modules hosted lines booted last is step.before step.line step.behind step.world step.lines_are step.lead node step.event step.standing step.comes_it step.there).all
