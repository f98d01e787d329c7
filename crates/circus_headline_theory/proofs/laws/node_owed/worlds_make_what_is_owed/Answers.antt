use Rattle.circus_headline_theory.proofs.Owed.Worlds.{worlds_make_what_is_owed}
use Rattle.circus_headline_theory.proofs.laws.node_owed.worlds_make_what_is_owed.Goals as goal

pub returns : goal.returns
returns g c = λ d modules hosted lines begun last world.
    worlds_make_what_is_owed g.M.Module.declared g.M.Module.turn g.M.Module.first
    (λ m. record { first_is_state = g.met.M.Module.first_is_state m; turns_are_lawful = g.met.M.Module.turns_are_lawful m }) d modules hosted lines begun last world
