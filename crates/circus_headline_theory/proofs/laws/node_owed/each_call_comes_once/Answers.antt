use Rattle.circus_world_theory.proofs.Timely.Nodes.{life_numbers}
use Rattle.circus_world_theory.proofs.Timely.Worlds.{lives_so}
use Rattle.circus_headline_theory.proofs.laws.node_owed.each_call_comes_once.Goals as goal

pub returns-clause-node : goal.returns-clause-node
returns-clause-node g c = λ d own node events begun last life.
    (life_numbers g.M.Module.declared g.M.Module.turn g.M.Module.first d own node events begun last life).distinct

pub returns-clause-world : goal.returns-clause-world
returns-clause-world g c = λ d modules hosted lines begun last world node number troupe own s hosts_it is_at there at.
    ((lives_so g.M.Module.declared g.M.Module.turn g.M.Module.first
    (λ m. record { first_is_state = g.met.M.Module.first_is_state m; turns_are_lawful = g.met.M.Module.turns_are_lawful m }) d modules hosted lines begun last world node number troupe own hosts_it is_at there).numbers s at).distinct
