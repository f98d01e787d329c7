use Rattle.circus_headline_theory.proofs.Served.{served_is_a_node_run, served_so_far}
use Rattle.circus_headline_theory.proofs.laws.served_nodes_are_node_runs.Goals as goal

pub returns-clause-run : goal.returns-clause-run
returns-clause-run g c = λ d own node number troupe begun outputs takes last kept can boots is octets hosts there at.
    served_is_a_node_run g.M.Module.declared g.M.Module.turn g.M.Module.first d own node
    (λ m. record { first_is_state = g.met.M.Module.first_is_state m; turns_are_lawful = g.met.M.Module.turns_are_lawful m })
    number troupe can hosts there begun outputs takes boots octets last kept is at

pub returns-clause-so_far : goal.returns-clause-so_far
returns-clause-so_far g c = λ d own node number troupe begun outputs takes can boots octets hosts there.
    served_so_far g.M.Module.declared g.M.Module.turn g.M.Module.first d own node
    (λ m. record { first_is_state = g.met.M.Module.first_is_state m; turns_are_lawful = g.met.M.Module.turns_are_lawful m })
    number troupe can hosts there begun outputs takes boots octets
