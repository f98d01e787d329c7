use Rattle.std.proofs.Common.{◌≡◌, []}
use Rattle.circus_record.specs.Naming.{names_of}
use Rattle.circus_report.specs.Writing.{Writes}
use Rattle.circus_report.proofs.SentLines.{lines_before}
use Rattle.circus_report.proofs.running.put_sent.Given as goal

-- the lines before this number are written, and the sink has not failed
abbrev pub invariant-loop-number : goal.invariant-loop-number
invariant-loop-number g l =
    let written = g.K.Sink.written in
    let faults = g.K.Sink.faults in
    record {
      written : Writes (written l.fn.sink) (written l.sink) (lines_before (names_of l.world.deployment.nodes []) l.from l.sent l.number);
      count : faults l.sink ≡ faults l.fn.sink;
    }
