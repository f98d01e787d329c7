use Rattle.std.proofs.Common.{◌≡◌, string_bytes, Err, refl, ap, subst}
use Rattle.circus_outside.specs.Faults.{Rose}
use Rattle.circus_report.specs.Report.{member_at}
use Rattle.circus_report.specs.Writing.{Writes, WritesPart}
use Rattle.circus_report.proofs.Leaving.{added_alone}
use Rattle.circus_report.proofs.ToldLemmas.{WritesPart-none}
use Rattle.circus_report.proofs.PutLemmas.{IsPut-no_memory, IsPut-stopped, Rose-stopped}
use Rattle.circus_report.proofs.running.put_member.Goals as goal

pub returns-in_err-append_member-clause-put : goal.returns-in_err-append_member-clause-put
returns-in_err-append_member-clause-put g c = λ s there.
    let text = member_at (g.N.Naming.names c.args.names.now) c.args.node c.args.host.now s in
    let old = g.K.Sink.written c.args.sink.now in
    IsPut-no_memory c.from_residual.result text old old c.from_residual.ensures.1 (WritesPart-none old old text refl)

pub returns-in_err-put_lines-clause-put : goal.returns-in_err-put_lines-clause-put
returns-in_err-put_lines-clause-put g c = λ s there.
    let text = member_at (g.N.Naming.names c.args.names.now) c.args.node c.args.host.now s in
    let old = g.K.Sink.written c.args.sink.now in
    let new = g.K.Sink.written c.put_lines.new.sink in
    let whole : c.as_bytes.result.now ≡ text = added_alone c.as_bytes.result.now (string_bytes c.new-text.result) (string_bytes c.append_member.new.text) text c.as_bytes.ensures.value (c.in_ok-append_member.ensures s there) c.new-text.ensures.bytes in
    IsPut-stopped c.from_residual-in_err-put_lines.result text old new c.in_err-put_lines.field-0.0 c.from_residual-in_err-put_lines.ensures.1
    (subst (WritesPart old new) whole c.in_err-put_lines.ensures.part)

pub returns-in_err-put_lines-clause-rose : goal.returns-in_err-put_lines-clause-rose
returns-in_err-put_lines-clause-rose g c =
    Rose-stopped (Rose (g.K.Sink.faults c.args.sink.now) (g.K.Sink.faults c.put_lines.new.sink)) c.from_residual-in_err-put_lines.result c.in_err-put_lines.field-0.0
    c.from_residual-in_err-put_lines.ensures.1 (λ e. c.in_err-put_lines.ensures.rose (ap Err e))

pub returns-clause-put : goal.returns-clause-put
returns-clause-put g c = λ s there.
    let text = member_at (g.N.Naming.names c.args.names.now) c.args.node c.args.host.now s in
    let whole : c.as_bytes.result.now ≡ text = added_alone c.as_bytes.result.now (string_bytes c.new-text.result) (string_bytes c.append_member.new.text) text c.as_bytes.ensures.value (c.in_ok-append_member.ensures s there) c.new-text.ensures.bytes in
    subst (Writes (g.K.Sink.written c.args.sink.now) (g.K.Sink.written c.put_lines.new.sink)) whole c.in_ok-put_lines.ensures.written
