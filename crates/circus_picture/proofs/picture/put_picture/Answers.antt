use Rattle.std.proofs.Common.{◌≡◌, List, length, ap, subst, ◌∙◌, ℕ}
use Rattle.circus_collate.specs.declared.deployment.Host.{Host}
use Rattle.circus_record.specs.Naming.{names_of}
use Rattle.circus_report.specs.Run.{IsPut}
use Rattle.circus_picture.specs.Deeds.{deeds_of}
use Rattle.circus_picture.specs.Rows.{Scene, left_below}
use Rattle.circus_picture.proofs.SceneLemmas.{scene-is, picture-is}
use Rattle.circus_picture.proofs.picture.put_picture.Goals as goal

pub returns-clause-put : goal.returns-clause-put
returns-clause-put g c =
    let w = c.args.world.now in
    let lines = c.args.lines.now in
    let names = names_of w.deployment.nodes c.args.names.now in
    let procedures = c.args.procedures.now in
    let hosts : List Host = c.as_slice-hosts.result.now in
    let hosts_are : hosts ≡ w.deployment.nodes = c.as_slice-hosts.ensures ∙ ap (λ d. d.nodes) c.deployment.ensures.value in
    let own = names_of c.new-names.result.0 c.new-names.result.1 in
    let named : own ≡ names =
    ap (λ p. names_of p.0 p.1) c.new-names.ensures ∙ ap (λ h. names_of h c.as_slice.result.now) hosts_are ∙ ap (names_of w.deployment.nodes) c.as_slice.ensures in
    let columns = c.in_ok-columns.columns in
    let scene : Scene =
    record { names = own; procedures = c.as_slice-2.result.now; width = columns.width; crashes = columns.crashes; sent = c.sent-2.result.now } in
    let left = c.in_ok-left_below.field-0 in
    let left_is : left ≡ left_below lines (length w.sent) =
    c.in_ok-left_below.ensures ∙ ap (left_below lines) (c.len.ensures ∙ ap length c.sent.ensures) in
    subst (λ (text : List ℕ). IsPut text (g.K.Sink.written c.args.sink.now) (g.K.Sink.written c.put_parts.new.sink) c.put_parts.result)
    (picture-is names procedures w lines scene hosts left
    (scene-is names procedures w own c.as_slice-2.result.now columns.width columns.crashes c.sent-2.result.now
    named c.as_slice-2.ensures c.in_ok-columns.ensures.width c.in_ok-columns.ensures.crashes c.sent-2.ensures)
    hosts_are left_is)
    (c.put_parts.ensures.put (deeds_of 0 w.nodes) c.in_ok-deeds_of.ensures)
