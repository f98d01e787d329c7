use Rattle.std.proofs.Common.{◌≡◌, ◌<◌, List, length, drop, refl, sym, ap, subst, ◌∙◌, arith}
use Rattle.std.proofs.lemmas.List.{drop_all}
use Rattle.circus_collate.specs.declared.deployment.Host.{Host}
use Rattle.circus_report.specs.Report.{members_lines}
use Rattle.circus_report.proofs.Leaving.{Leaves, leaves_all, leaves_none, member_put, member_cut}
use Rattle.circus_report.proofs.running.put_members.Goals as goal

pub loop-node-init : goal.loop-node-init
loop-node-init g c =
    let names = g.N.Naming.names c.args.names.now in
    let w = c.args.world.now in
    let old = g.K.Sink.written c.args.sink.now in
    let whole = members_lines names 0 w.deployment.nodes w.nodes in
    let hosts_are : w.deployment.nodes ≡ c.as_slice-host-items.result.now = sym (c.as_slice-host-items.ensures ∙ ap (λ d. d.nodes) c.deployment.ensures.value) in
    record {
      leaves = subst (λ (hosts : List Host). Leaves old old whole (members_lines names 0 hosts w.nodes)) hosts_are (leaves_all old whole);
      count = refl;
    }

pub loop-node-preserved : goal.loop-node-preserved
loop-node-preserved g c =
    let names = g.N.Naming.names c.args.names.now in
    let w = c.args.world.now in
    let written = g.K.Sink.written in
    let hosts = c.as_slice-host-items.result.now in
    let node = c.loop-node.node in
    let within : node < length w.nodes = omega (arith, c.loop-node-test.true, ap length c.as_slice-host-items.ensures, ap (λ d. length d.nodes) c.deployment.ensures.value, c.deployment.ensures.all) in
    record {
      leaves = member_put names (written c.args.sink.now) (written c.loop-node.sink) (written c.put_member.new.sink) (members_lines names 0 w.deployment.nodes w.nodes) node hosts w.nodes c.host-item.result c.loop-node-test.true c.host-item.is within
          c.loop-node.invariant.leaves c.in_ok-put_member.ensures.put;
      count = c.in_ok-put_member.ensures.count ∙ c.loop-node.invariant.count;
    }

pub returns-in_err-put_member-clause-put : goal.returns-in_err-put_member-clause-put
returns-in_err-put_member-clause-put g c =
    let names = g.N.Naming.names c.args.names.now in
    let w = c.args.world.now in
    let written = g.K.Sink.written in
    let hosts = c.as_slice-host-items.result.now in
    let node = c.loop-node.node in
    let within : node < length w.nodes = omega (arith, c.loop-node-test.true, ap length c.as_slice-host-items.ensures, ap (λ d. length d.nodes) c.deployment.ensures.value, c.deployment.ensures.all) in
    member_cut names (written c.args.sink.now) (written c.loop-node.sink) (written c.put_member.new.sink) (members_lines names 0 w.deployment.nodes w.nodes) node hosts w.nodes c.host-item.result c.loop-node-test.true c.host-item.is within
    c.loop-node.invariant.leaves c.from_residual.result c.put_member.result c.in_err-put_member.field-0.0 c.from_residual.ensures.1 c.in_err-put_member.was c.put_member.ensures.put

pub returns-clause-put : goal.returns-clause-put
returns-clause-put g c =
    let names = g.N.Naming.names c.args.names.now in
    let w = c.args.world.now in
    let written = g.K.Sink.written in
    let hosts = c.as_slice-host-items.result.now in
    let whole = members_lines names 0 w.deployment.nodes w.nodes in
    let node = c.loop-node.node in
    leaves_none (written c.args.sink.now) (written c.loop-node.sink) whole
    (subst (λ (left : List Host). Leaves (written c.args.sink.now) (written c.loop-node.sink) whole (members_lines names node left (drop node w.nodes))) (drop_all node hosts c.loop-node-test.false) c.loop-node.invariant.leaves)
