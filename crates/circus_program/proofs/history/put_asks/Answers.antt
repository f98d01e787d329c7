use Rattle.std.proofs.Common.{refl, ◌∙◌}
use Rattle.circus_report.specs.Run.{IsPut}
use Rattle.circus_report.proofs.PutLemmas.{at_fault}
use Rattle.circus_commands.specs.HistoryLines.{ask_lines, asks_lines}
use Rattle.circus_program.proofs.Putting.{item-put, item-cut}
use Rattle.circus_program.proofs.history.put_asks.Goals as goal

pub returns-in_err-put_ask-clause-put : goal.returns-in_err-put_ask-clause-put
returns-in_err-put_ask-clause-put g c =
    let names = g.N.Naming.names c.args.names.now in
    let asks = c.args.asks.now in
    at_fault (IsPut (asks_lines names 0 asks) (g.K.Sink.written c.args.sink.now) (g.K.Sink.written c.put_ask.new.sink)) c.from_residual.result c.in_err-put_ask.field-0.0 c.from_residual.ensures.1
    (item-cut (asks_lines names) (ask_lines names) (λ n x xs. refl) (asks_lines names 0 asks) (g.K.Sink.written c.args.sink.now) (g.K.Sink.written c.loop-number.sink) (g.K.Sink.written c.put_ask.new.sink)
    asks c.loop-number.number c.index-asks-number.result c.loop-number-test.true c.index-asks-number.is c.loop-number.invariant.put c.in_err-put_ask.field-0.0 c.in_err-put_ask.ensures.put)

pub loop-number-preserved : goal.loop-number-preserved
loop-number-preserved g c =
    let names = g.N.Naming.names c.args.names.now in
    let asks = c.args.asks.now in
    record {
      put =
          item-put (asks_lines names) (ask_lines names) (λ n x xs. refl) (asks_lines names 0 asks) (g.K.Sink.written c.args.sink.now) (g.K.Sink.written c.loop-number.sink) (g.K.Sink.written c.put_ask.new.sink)
          asks c.loop-number.number c.index-asks-number.result c.loop-number-test.true c.index-asks-number.is c.loop-number.invariant.put c.in_ok-put_ask.ensures.put;
      count = c.in_ok-put_ask.ensures.count ∙ c.loop-number.invariant.count;
    }
