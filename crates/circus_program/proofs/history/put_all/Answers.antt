use Rattle.std.proofs.Common.{codes}
use Rattle.circus_record.specs.Line.{line}
use Rattle.circus_report.specs.Run.{IsPut}
use Rattle.circus_report.proofs.PutLemmas.{at_fault}
use Rattle.circus_commands.specs.HistoryLines.{modules_lines, history_text}
use Rattle.circus_picture.proofs.Begun.{begun-none, begun-more, begun-put, begun-stopped}
use Rattle.circus_program.proofs.history.put_all.Goals as goal

pub returns-clause-put : goal.returns-clause-put
returns-clause-put g c =
    let names = g.N.Naming.names c.args.names.now in
    let first = line (codes "circus history 1") in
    let rest = modules_lines names 0 c.args.modules.now in
    let whole = history_text names c.args.modules.now in
    let old = g.K.Sink.written c.args.sink.now in
    let middle = g.K.Sink.written c.put_added.new.sink in
    let new = g.K.Sink.written c.put_modules.new.sink in
    begun-put whole old rest middle new c.put_modules.result
    (begun-more whole old first rest old middle (begun-none whole old) (c.in_ok-put_added.ensures.put first c.as_bytes.ensures.value))
    c.put_modules.ensures.put

pub returns-in_err-put_added-clause-put : goal.returns-in_err-put_added-clause-put
returns-in_err-put_added-clause-put g c =
    let names = g.N.Naming.names c.args.names.now in
    let first = line (codes "circus history 1") in
    let rest = modules_lines names 0 c.args.modules.now in
    let whole = history_text names c.args.modules.now in
    let old = g.K.Sink.written c.args.sink.now in
    let new = g.K.Sink.written c.put_added.new.sink in
    at_fault (IsPut whole old new) c.from_residual.result c.in_err-put_added.field-0.0 c.from_residual.ensures.1
    (begun-stopped whole old (Unit {0}) (Unit {0}) first rest old new c.in_err-put_added.field-0.0 (begun-none whole old) (c.in_err-put_added.ensures.put first c.as_bytes.ensures.value))
