use Rattle.circus_headline_theory.proofs.Stood.{is_run_of_core}
use Rattle.circus_headline_theory.proofs.laws.every_core_is_a_node_run.Goals as goal

pub returns : goal.returns
returns g c = λ d own node number troupe t last kept can stands rises others hosts there at.
    (is_run_of_core g.M.Module.declared g.M.Module.turn g.M.Module.first d own node
    (λ m. record { first_is_state = g.met.M.Module.first_is_state m; turns_are_lawful = g.met.M.Module.turns_are_lawful m }) can number troupe hosts there t last kept stands rises others at).run
