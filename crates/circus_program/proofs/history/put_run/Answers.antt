use Rattle.std.proofs.Common.{List, ◌++◌, append_assoc, subst, Err}
use Rattle.circus_model.specs.declared.history.Ask.{Ask}
use Rattle.circus_report.specs.Writing.{Writes}
use Rattle.circus_report.specs.Run.{IsPut}
use Rattle.circus_report.proofs.PutLemmas.{at_fault}
use Rattle.circus_commands.specs.HistoryLines.{entry_line, asks_lines, ending_line, run_lines}
use Rattle.circus_picture.proofs.Begun.{begun-none, begun-as, begun-more, begun-put, begun-stopped}
use Rattle.circus_program.proofs.history.put_run.Goals as goal

pub returns-in_err-put_entry-clause-put : goal.returns-in_err-put_entry-clause-put
returns-in_err-put_entry-clause-put g c =
    let names = g.N.Naming.names c.args.names.now in
    let run = c.args.run.now in
    let first = entry_line names c.args.place run in
    let second = asks_lines names 0 run.asks in
    let third = ending_line c.args.place run in
    let whole = run_lines names c.args.place run in
    let old = g.K.Sink.written c.args.sink.now in
    let new = g.K.Sink.written c.put_entry.new.sink in
    at_fault (IsPut whole old new) c.from_residual.result c.in_err-put_entry.field-0.0 c.from_residual.ensures.1
    (begun-stopped whole old (Unit {0}) (Unit {0}) first (second ++ third) old new c.in_err-put_entry.field-0.0
    (begun-as whole old whole (first ++ (second ++ third)) old (append_assoc first second third) (begun-none whole old))
    c.in_err-put_entry.ensures.put)

pub returns-in_err-put_asks-clause-put : goal.returns-in_err-put_asks-clause-put
returns-in_err-put_asks-clause-put g c =
    let names = g.N.Naming.names c.args.names.now in
    let run = c.args.run.now in
    let first = entry_line names c.args.place run in
    let second = asks_lines names 0 run.asks in
    let third = ending_line c.args.place run in
    let whole = run_lines names c.args.place run in
    let old = g.K.Sink.written c.args.sink.now in
    let between = g.K.Sink.written c.put_entry.new.sink in
    let new = g.K.Sink.written c.put_asks.new.sink in
    at_fault (IsPut whole old new) c.from_residual-in_err-put_asks.result c.in_err-put_asks.field-0.0 c.from_residual-in_err-put_asks.ensures.1
    (begun-stopped whole old (Unit {0}) (Unit {0}) second third between new c.in_err-put_asks.field-0.0
    (begun-more whole old first (second ++ third) old between
    (begun-as whole old whole (first ++ (second ++ third)) old (append_assoc first second third) (begun-none whole old))
    c.in_ok-put_entry.ensures.put)
    (subst (λ (asks : List Ask). IsPut {A = Unit {0}} (asks_lines names 0 asks) between new (Err c.in_err-put_asks.field-0.0)) c.as_slice.ensures c.in_err-put_asks.ensures.put))

pub returns-clause-put : goal.returns-clause-put
returns-clause-put g c =
    let names = g.N.Naming.names c.args.names.now in
    let run = c.args.run.now in
    let first = entry_line names c.args.place run in
    let second = asks_lines names 0 run.asks in
    let third = ending_line c.args.place run in
    let whole = run_lines names c.args.place run in
    let old = g.K.Sink.written c.args.sink.now in
    let between = g.K.Sink.written c.put_entry.new.sink in
    let behind = g.K.Sink.written c.put_asks.new.sink in
    let new = g.K.Sink.written c.put_end.new.sink in
    begun-put whole old third behind new c.put_end.result
    (begun-more whole old second third between behind
    (begun-more whole old first (second ++ third) old between
    (begun-as whole old whole (first ++ (second ++ third)) old (append_assoc first second third) (begun-none whole old))
    c.in_ok-put_entry.ensures.put)
    (subst (λ (asks : List Ask). Writes between behind (asks_lines names 0 asks)) c.as_slice.ensures c.in_ok-put_asks.ensures.put))
    c.put_end.ensures.put
