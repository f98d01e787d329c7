use Rattle.std.proofs.Common.{◌++◌, length, string_bytes, ap, arith}
use Rattle.circus_report.specs.Report.{members_lines}
use Rattle.circus_report.proofs.LinesAdded.{member_added}
use Rattle.circus_report.proofs.text.append_members.Goals as goal

pub loop-node-preserved : goal.loop-node-preserved
loop-node-preserved g c =
    let names = g.N.Naming.names c.args.names.now in
    let w = c.args.world.now in
    let hosts = c.as_slice-host-items.result.now in
    member_added names (string_bytes c.loop-node.text) (string_bytes c.append_member.new.text)
    (string_bytes c.args.text.now ++ members_lines names 0 w.deployment.nodes w.nodes)
    c.loop-node.node hosts w.nodes c.host-item.result c.loop-node-test.true c.host-item.is
    (omega (arith, c.loop-node-test.true, ap length c.as_slice-host-items.ensures, ap (λ d. length d.nodes) c.deployment.ensures.value, c.deployment.ensures.all))
    c.loop-node.invariant c.in_ok-append_member.ensures
