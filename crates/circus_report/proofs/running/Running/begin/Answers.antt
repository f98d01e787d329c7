use Rattle.std.proofs.Common.{Err, ap, subst}
use Rattle.circus_outside.specs.Faults.{Rose}
use Rattle.circus_report.specs.Report.{first_line}
use Rattle.circus_report.specs.Writing.{Writes, WritesPart}
use Rattle.circus_report.specs.Run.{sent_from, beginning}
use Rattle.circus_report.proofs.ToldLemmas.{Writes-joined, WritesPart-longer}
use Rattle.circus_report.proofs.PutLemmas.{IsPut-stopped, IsPut-behind, Rose-stopped}
use Rattle.circus_report.proofs.running.Running.begin.Goals as goal

pub returns-in_err-put_line-clause-put : goal.returns-in_err-put_line-clause-put
returns-in_err-put_line-clause-put g c =
    let w = c.args.world in
    let old = g.K.Sink.written c.args.sink.now in
    let new = g.K.Sink.written c.put_line.new.sink in
    IsPut-stopped c.from_residual.result (beginning w) old new c.in_err-put_line.field-0.0 c.from_residual.ensures.1
    (WritesPart-longer old new first_line (sent_from 0 w) (subst (WritesPart old new) c.as_bytes.ensures.value c.in_err-put_line.ensures.part))

pub returns-in_err-put_line-clause-rose : goal.returns-in_err-put_line-clause-rose
returns-in_err-put_line-clause-rose g c =
    Rose-stopped (Rose (g.K.Sink.faults c.args.sink.now) (g.K.Sink.faults c.put_line.new.sink)) c.from_residual.result c.in_err-put_line.field-0.0
    c.from_residual.ensures.1 (λ e. c.in_err-put_line.ensures.rose (ap Err e))

pub returns-in_err-put_sent-clause-put : goal.returns-in_err-put_sent-clause-put
returns-in_err-put_sent-clause-put g c =
    let old = g.K.Sink.written c.args.sink.now in
    let middle = g.K.Sink.written c.put_line.new.sink in
    let new = g.K.Sink.written c.put_sent.new.sink in
    IsPut-behind c.from_residual-in_err-put_sent.result c.put_sent.result c.in_err-put_sent.field-0.0 first_line (sent_from 0 c.args.world) old middle new
    c.from_residual-in_err-put_sent.ensures.1 c.in_err-put_sent.was
    (subst (Writes old middle) c.as_bytes.ensures.value c.in_ok-put_line.ensures.written) c.put_sent.ensures.put

pub returns-clause-put : goal.returns-clause-put
returns-clause-put g c =
    let old = g.K.Sink.written c.args.sink.now in
    let middle = g.K.Sink.written c.put_line.new.sink in
    Writes-joined old middle (g.K.Sink.written c.put_sent.new.sink) first_line (sent_from 0 c.args.world)
    (subst (Writes old middle) c.as_bytes.ensures.value c.in_ok-put_line.ensures.written) c.in_ok-put_sent.ensures.put
