use Rattle.std.proofs.Common.{◌≡◌, [], inl, refl, ap, subst, ◌∙◌}
use Rattle.circus_record.specs.Naming.{names_of}
use Rattle.circus_report.specs.Writing.{Writes, WritesPart}
use Rattle.circus_commands.specs.HistoryLines.{history_text}
use Rattle.circus_commands.specs.Seen.Upshot.{end_of_performance}
use Rattle.circus_program.proofs.Following.{put-stopped}
use Rattle.circus_program.proofs.history.put_history.Goals as goal

pub returns-in-Ok : goal.returns-in-Ok
returns-in-Ok g c =
    let own = names_of c.new-names.result.0 c.new-names.result.1 in
    let named : own ≡ names_of [] c.args.performance.names =
    ap (λ p. names_of p.0 p.1) c.new-names.ensures ∙ ap (names_of []) c.as_slice.ensures in
    let old = g.K.Sink.written c.args.sink.now in
    let new = g.K.Sink.written c.put_all.new.sink in
    inl (refl, subst (Writes old new) (λ i. history_text (named i) (c.as_slice-2.ensures i)) c.in-Ok.ensures.put, c.in-Ok.ensures.count)

pub returns : goal.returns
returns g c =
    let own = names_of c.new-names.result.0 c.new-names.result.1 in
    let named : own ≡ names_of [] c.args.performance.names =
    ap (λ p. names_of p.0 p.1) c.new-names.ensures ∙ ap (names_of []) c.as_slice.ensures in
    let old = g.K.Sink.written c.args.sink.now in
    let new = g.K.Sink.written c.put_all.new.sink in
    put-stopped (history_text own c.as_slice-2.result.now) (end_of_performance c.args.performance) old old new (g.K.Sink.faults c.args.sink.now) (g.K.Sink.faults c.put_all.new.sink) c.in-Err.fault
    c.end_of_stop.result c.end_of_stop.ensures.sink c.end_of_stop.ensures.memory c.in-Err.ensures.put c.in-Err.ensures.rose
    (subst (WritesPart old new) (λ i. history_text (named i) (c.as_slice-2.ensures i)))
