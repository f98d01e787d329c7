use Rattle.circus_headline_theory.proofs.Runs.{worlds_keep_the_headline}
use Rattle.circus_headline_theory.proofs.laws.worlds_keep_the_headline.Goals as goal

pub returns : goal.returns
returns g c = λ d modules hosted lines begun last world.
    worlds_keep_the_headline g.M.Module.declared g.M.Module.turn g.M.Module.first
    (λ m. record { first_is_state = g.met.M.Module.first_is_state m; turns_are_lawful = g.met.M.Module.turns_are_lawful m }) d modules hosted lines begun last world
