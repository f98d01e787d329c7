use Rattle.circus_headline_theory.proofs.Owed.Handing.{worlds_hand_over}
use Rattle.circus_headline_theory.proofs.laws.node_owed.worlds_hand_over_what_is_made.Goals as goal

pub returns : goal.returns
returns g c = λ d modules hosted lines begun last world node own within found.
    worlds_hand_over g.M.Module.declared g.M.Module.turn g.M.Module.first
    (λ m. record { first_is_state = g.met.M.Module.first_is_state m; turns_are_lawful = g.met.M.Module.turns_are_lawful m }) d modules hosted lines begun last world node within own found
