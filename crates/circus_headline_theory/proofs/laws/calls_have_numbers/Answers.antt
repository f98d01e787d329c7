use Rattle.circus_headline_theory.proofs.Ring.{ring_has_numbers}
use Rattle.circus_headline_theory.proofs.Stood.{core_has_numbers}
use Rattle.circus_headline_theory.proofs.laws.calls_have_numbers.Goals as goal

pub returns-clause-core : goal.returns-clause-core
returns-clause-core g c = λ d own node number troupe t last can stands rises others hosts there.
    core_has_numbers g.M.Module.declared g.M.Module.turn g.M.Module.first d own node
    (λ m. record { first_is_state = g.met.M.Module.first_is_state m; turns_are_lawful = g.met.M.Module.turns_are_lawful m }) can number troupe hosts there t last stands rises others

pub returns-clause-ring : goal.returns-clause-ring
returns-clause-ring g c = ring_has_numbers
