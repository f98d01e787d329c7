use Rattle.circus_headline_theory.proofs.PlainServed.{plain_served_is_a_node_run, plain_served_so_far}
use Rattle.circus_headline_theory.proofs.laws.plain_served_nodes_are_node_runs.Goals as goal

pub returns-clause-run : goal.returns-clause-run
returns-clause-run c = λ d b node number troupe begun outputs takes last kept is_module.
    plain_served_is_a_node_run d b is_module node number troupe begun outputs takes last kept

pub returns-clause-so_far : goal.returns-clause-so_far
returns-clause-so_far c = λ d b node number troupe begun outputs takes is_module.
    plain_served_so_far d b is_module node number troupe begun outputs takes
