use Rattle.circus_headline_theory.proofs.Datagrams.Theorem.{boots_justified, steps_justified}
use Rattle.circus_headline_theory.proofs.laws.datagrams.datagrams_are_justified.Goals as goal

pub returns-clause-boot : goal.returns-clause-boot
returns-clause-boot g c = λ d own node events begun last life.
    boots_justified g.M.Module.declared g.M.Module.turn g.M.Module.first
    (λ m. record { first_is_state = g.met.M.Module.first_is_state m; turns_are_lawful = g.met.M.Module.turns_are_lawful m }) d own node events begun last life

pub returns-clause-steps : goal.returns-clause-steps
returns-clause-steps g c = λ d own node events begun before step event ended next.
    steps_justified g.M.Module.declared g.M.Module.turn g.M.Module.first
    (λ m. record { first_is_state = g.met.M.Module.first_is_state m; turns_are_lawful = g.met.M.Module.turns_are_lawful m }) d own node events begun before step event ended next
