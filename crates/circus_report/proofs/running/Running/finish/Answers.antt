use Rattle.std.proofs.Common.{◌++◌, ap, subst, ◌∙◌}
use Rattle.circus_record.specs.Naming.{names_of}
use Rattle.circus_report.specs.Report.{members_lines, ring_text}
use Rattle.circus_report.specs.Run.{IsPut}
use Rattle.circus_report.proofs.Leaving.{leaves_all, leaves_cut, names_same, rest_same}
use Rattle.circus_report.proofs.PutLemmas.{IsPut-joined}
use Rattle.circus_report.proofs.running.Running.finish.Goals as goal

pub returns-in_err-put_ring-clause-put : goal.returns-in_err-put_ring-clause-put
returns-in_err-put_ring-clause-put g c =
    let names = c.args.names.now in
    let w = c.self.inside.world in
    let own = names_of c.new-names.result.0 c.new-names.result.1 in
    let ring = ring_text own w in
    let members = members_lines own 0 w.deployment.nodes w.nodes in
    let old = g.K.Sink.written c.args.sink.now in
    let new = g.K.Sink.written c.put_ring.new.sink in
    let own_is = names_same c.new-names.result c.as_slice.result.now w.deployment.nodes c.as_slice-2.result.now names c.new-names.ensures (c.as_slice.ensures ∙ ap (λ d. d.nodes) c.deployment.ensures.value) c.as_slice-2.ensures in
    subst (λ text. IsPut text old new c.from_residual.result) (rest_same own names w c.args.self own_is c.self.view_is)
    (leaves_cut old old new (ring ++ members) ring members (leaves_all old (ring ++ members)) c.from_residual.result c.put_ring.result c.in_err-put_ring.field-0.0 c.from_residual.ensures.1 c.in_err-put_ring.was c.put_ring.ensures.put)

pub returns-clause-put : goal.returns-clause-put
returns-clause-put g c =
    let names = c.args.names.now in
    let w = c.self.inside.world in
    let own = names_of c.new-names.result.0 c.new-names.result.1 in
    let ring = ring_text own w in
    let members = members_lines own 0 w.deployment.nodes w.nodes in
    let written = g.K.Sink.written in
    let own_is = names_same c.new-names.result c.as_slice.result.now w.deployment.nodes c.as_slice-2.result.now names c.new-names.ensures (c.as_slice.ensures ∙ ap (λ d. d.nodes) c.deployment.ensures.value) c.as_slice-2.ensures in
    subst (λ text. IsPut text (written c.args.sink.now) (written c.put_members.new.sink) c.put_members.result) (rest_same own names w c.args.self own_is c.self.view_is)
    (IsPut-joined c.put_members.result ring members (written c.args.sink.now) (written c.put_ring.new.sink) (written c.put_members.new.sink) c.in_ok-put_ring.ensures.put c.put_members.ensures.put)
