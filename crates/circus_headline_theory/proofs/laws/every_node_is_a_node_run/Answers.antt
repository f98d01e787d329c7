use Rattle.circus_headline_theory.proofs.Theorem.{node_is_a_node_run, trace_has_the_events}
use Rattle.circus_headline_theory.proofs.laws.every_node_is_a_node_run.Goals as goal

pub returns-clause-run : goal.returns-clause-run
returns-clause-run g c = λ d own node number troupe events begun last kept life others hosts there at.
    node_is_a_node_run g.M.Module.declared g.M.Module.turn g.M.Module.first
    (λ m. record { first_is_state = g.met.M.Module.first_is_state m; turns_are_lawful = g.met.M.Module.turns_are_lawful m }) d own node number troupe events begun last kept life others hosts there at

pub returns-clause-events : goal.returns-clause-events
returns-clause-events g c = λ d own node events begun last life.
    trace_has_the_events g.M.Module.declared g.M.Module.turn g.M.Module.first d own node events begun last life
