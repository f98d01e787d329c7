use Rattle.std.proofs.Common.{◌≡◌, ◌++◌, [], string_bytes, drop}
use Rattle.circus_record.specs.Naming.{names_of}
use Rattle.circus_simulation.specs.Summary.{count_lines, summary}
use Rattle.circus_simulation.proofs.summary.show_sample.Given as goal

-- what was written and the lines of the nodes that are left are the whole
abbrev pub invariant-loop-node : goal.invariant-loop-node
invariant-loop-node g l =
    let names = names_of l.world.deployment.nodes [] in
    string_bytes l.text ++ count_lines names l.node (drop l.node l.world.nodes) ≡ summary names l.fn.steps l.world
