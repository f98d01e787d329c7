use Rattle.std.proofs.Common.{◌≡◌, ◌++◌, string_bytes, drop}
use Rattle.circus_report.specs.Report.{members_lines}
use Rattle.circus_report.proofs.text.append_members.Given as goal

-- what is added and the lines of the nodes that are left are the lines of all
abbrev pub invariant-loop-node : goal.invariant-loop-node
invariant-loop-node g l =
    string_bytes l.text ++ members_lines (g.N.Naming.names l.names) l.node (drop l.node l.host-items) (drop l.node l.world.nodes)
    ≡ string_bytes l.fn.text ++ members_lines (g.N.Naming.names l.names) 0 l.world.deployment.nodes l.world.nodes
