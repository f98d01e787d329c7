use Rattle.std.proofs.Common.{◌≡◌, ℕ, List, length, ap, subst, ◌∙◌, Err}
use Rattle.circus_model.specs.declared.history.Run.{Run}
use Rattle.circus_report.specs.Writing.{Writes}
use Rattle.circus_report.specs.Run.{IsPut}
use Rattle.circus_report.proofs.PutLemmas.{at_fault}
use Rattle.circus_commands.specs.HistoryLines.{heading, runs_lines, module_lines}
use Rattle.circus_picture.proofs.Begun.{begun-none, begun-more, begun-put, begun-stopped}
use Rattle.circus_program.proofs.history.put_module.Goals as goal

pub returns-clause-put : goal.returns-clause-put
returns-clause-put g c =
    let names = g.N.Naming.names c.args.names.now in
    let first = heading (names.troupe c.args.number) (length c.args.runs.now) in
    let named : heading c.troupe.result.now c.len.result ≡ first =
    ap (λ name. heading name c.len.result) c.troupe.ensures ∙ ap (heading (names.troupe c.args.number)) c.len.ensures in
    let rest = runs_lines names 0 c.args.runs.now in
    let whole = module_lines names c.args.number c.args.runs.now in
    let old = g.K.Sink.written c.args.sink.now in
    let middle = g.K.Sink.written c.put_heading.new.sink in
    let new = g.K.Sink.written c.put_runs.new.sink in
    begun-put whole old rest middle new c.put_runs.result
    (begun-more whole old first rest old middle (begun-none whole old) (subst (Writes old middle) named c.in_ok-put_heading.ensures.put))
    (subst (λ (runs : List Run). IsPut {A = Unit {0}} (runs_lines names 0 runs) middle new c.put_runs.result) c.as_slice.ensures c.put_runs.ensures.put)

pub returns-in_err-put_heading-clause-put : goal.returns-in_err-put_heading-clause-put
returns-in_err-put_heading-clause-put g c =
    let names = g.N.Naming.names c.args.names.now in
    let first = heading (names.troupe c.args.number) (length c.args.runs.now) in
    let named : heading c.troupe.result.now c.len.result ≡ first =
    ap (λ name. heading name c.len.result) c.troupe.ensures ∙ ap (heading (names.troupe c.args.number)) c.len.ensures in
    let rest = runs_lines names 0 c.args.runs.now in
    let whole = module_lines names c.args.number c.args.runs.now in
    let old = g.K.Sink.written c.args.sink.now in
    let new = g.K.Sink.written c.put_heading.new.sink in
    at_fault (IsPut whole old new) c.from_residual.result c.in_err-put_heading.field-0.0 c.from_residual.ensures.1
    (begun-stopped whole old (Unit {0}) (Unit {0}) first rest old new c.in_err-put_heading.field-0.0 (begun-none whole old)
    (subst (λ (piece : List ℕ). IsPut {A = Unit {0}} piece old new (Err c.in_err-put_heading.field-0.0)) named c.in_err-put_heading.ensures.put))
