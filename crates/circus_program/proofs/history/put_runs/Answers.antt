use Rattle.std.proofs.Common.{refl, ◌∙◌}
use Rattle.circus_report.specs.Run.{IsPut}
use Rattle.circus_report.proofs.PutLemmas.{at_fault}
use Rattle.circus_commands.specs.HistoryLines.{run_lines, runs_lines}
use Rattle.circus_program.proofs.Putting.{item-put, item-cut}
use Rattle.circus_program.proofs.history.put_runs.Goals as goal

pub returns-in_err-put_run-clause-put : goal.returns-in_err-put_run-clause-put
returns-in_err-put_run-clause-put g c =
    let names = g.N.Naming.names c.args.names.now in
    let runs = c.args.runs.now in
    at_fault (IsPut (runs_lines names 0 runs) (g.K.Sink.written c.args.sink.now) (g.K.Sink.written c.put_run.new.sink)) c.from_residual.result c.in_err-put_run.field-0.0 c.from_residual.ensures.1
    (item-cut (runs_lines names) (run_lines names) (λ n x xs. refl) (runs_lines names 0 runs) (g.K.Sink.written c.args.sink.now) (g.K.Sink.written c.loop-place.sink) (g.K.Sink.written c.put_run.new.sink)
    runs c.loop-place.place c.index-runs-place.result c.loop-place-test.true c.index-runs-place.is c.loop-place.invariant.put c.in_err-put_run.field-0.0 c.in_err-put_run.ensures.put)

pub loop-place-preserved : goal.loop-place-preserved
loop-place-preserved g c =
    let names = g.N.Naming.names c.args.names.now in
    let runs = c.args.runs.now in
    record {
      put =
          item-put (runs_lines names) (run_lines names) (λ n x xs. refl) (runs_lines names 0 runs) (g.K.Sink.written c.args.sink.now) (g.K.Sink.written c.loop-place.sink) (g.K.Sink.written c.put_run.new.sink)
          runs c.loop-place.place c.index-runs-place.result c.loop-place-test.true c.index-runs-place.is c.loop-place.invariant.put c.in_ok-put_run.ensures.put;
      count = c.in_ok-put_run.ensures.count ∙ c.loop-place.invariant.count;
    }
