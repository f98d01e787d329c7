use Rattle.circus_headline_theory.proofs.Worlds.{nodes_send_what_they_give}
use Rattle.circus_headline_theory.proofs.laws.nodes_send_what_they_give.Goals as goal

pub returns : goal.returns
returns g c = λ d modules hosted lines begun last world.
    nodes_send_what_they_give g.M.Module.declared g.M.Module.turn g.M.Module.first
    (λ m. record { first_is_state = g.met.M.Module.first_is_state m; turns_are_lawful = g.met.M.Module.turns_are_lawful m }) d modules hosted lines begun last world
