use Rattle.circus_headline_theory.proofs.Datagrams.WorldTheorem.{steps_are_true}
use Rattle.circus_headline_theory.proofs.laws.datagrams.datagrams_are_true.Goals as goal

pub returns : goal.returns
returns g c = λ d modules hosted lines line begun w last node event before after outputs is.
    steps_are_true g.M.Module.declared g.M.Module.turn g.M.Module.first
    (λ m. record { first_is_state = g.met.M.Module.first_is_state m; turns_are_lawful = g.met.M.Module.turns_are_lawful m }) d modules hosted lines line begun w last node event before after outputs is
