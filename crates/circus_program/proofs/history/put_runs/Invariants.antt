use Rattle.std.proofs.Common.{◌≡◌, drop}
use Rattle.circus_commands.specs.HistoryLines.{runs_lines}
use Rattle.circus_picture.proofs.Begun.{IsBegun}
use Rattle.circus_program.proofs.history.put_runs.Given as goal

-- the runs before this one are put, and the sink has not failed
abbrev pub invariant-loop-place : goal.invariant-loop-place
invariant-loop-place g l =
    let names = g.N.Naming.names l.names in
    let written = g.K.Sink.written in
    let faults = g.K.Sink.faults in
    record {
      put : IsBegun (runs_lines names 0 l.runs) (runs_lines names l.place (drop l.place l.runs)) (written l.fn.sink) (written l.sink);
      count : faults l.sink ≡ faults l.fn.sink;
    }
