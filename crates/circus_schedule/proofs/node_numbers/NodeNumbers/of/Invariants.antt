use Rattle.std.proofs.Common.{◌≡◌, ℕ, List, drop}
use Rattle.std.specs.Prelude.{bytes_eq}
use Rattle.std.specs.List.{position_from}
use Rattle.circus_collate.specs.declared.deployment.Host.{Host}
use Rattle.circus_schedule.specs.Seen.Table.{number_in}
use Rattle.circus_schedule.proofs.node_numbers.NodeNumbers.of.Given as goal

-- the nodes from this number on are in the table
abbrev pub invariant-loop-number : goal.invariant-loop-number
invariant-loop-number l =
    (name : List ℕ) → number_in l.numbers name ≡ position_from (λ (node : Host). bytes_eq node.name name) l.number (drop l.number l.nodes)
