use Rattle.circus_headline_theory.proofs.Stood.{none_from_boot, none_from_step}
use Rattle.circus_headline_theory.proofs.laws.spent_nodes_have_no_run.Goals as goal

pub returns-clause-boot : goal.returns-clause-boot
returns-clause-boot g c = λ d own node number peer troupe lived kept can ends hosts there run.
    none_from_boot g.M.Module.declared g.M.Module.turn g.M.Module.first d own node
    (λ m. record { first_is_state = g.met.M.Module.first_is_state m; turns_are_lawful = g.met.M.Module.turns_are_lawful m }) can number troupe hosts there peer ends lived kept run

pub returns-clause-step : goal.returns-clause-step
returns-clause-step g c = λ d own node number peer troupe t n at event later lived kept can stands rises others rise other octets ends hosts there run.
    none_from_step g.M.Module.declared g.M.Module.turn g.M.Module.first d own node
    (λ m. record { first_is_state = g.met.M.Module.first_is_state m; turns_are_lawful = g.met.M.Module.turns_are_lawful m }) can number troupe hosts there t n at event peer stands rises others rise other octets ends later lived kept run
