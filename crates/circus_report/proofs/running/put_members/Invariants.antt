use Rattle.std.proofs.Common.{◌≡◌, drop}
use Rattle.circus_report.specs.Report.{members_lines}
use Rattle.circus_report.proofs.Leaving.{Leaves}
use Rattle.circus_report.proofs.running.put_members.Given as goal

-- the lines of the nodes that are left are left of the text, and the sink has not failed
abbrev pub invariant-loop-node : goal.invariant-loop-node
invariant-loop-node g l =
    let names = g.N.Naming.names l.names in
    let written = g.K.Sink.written in
    let faults = g.K.Sink.faults in
    record {
      leaves : Leaves (written l.fn.sink) (written l.sink) (members_lines names 0 l.world.deployment.nodes l.world.nodes) (members_lines names l.node (drop l.node l.host-items) (drop l.node l.world.nodes));
      count : faults l.sink ≡ faults l.fn.sink;
    }
