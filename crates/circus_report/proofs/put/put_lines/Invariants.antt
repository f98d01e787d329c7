use Rattle.std.proofs.Common.{◌≡◌, ◌≤◌, ◌-◌, length, take}
use Rattle.circus_outside.specs.Told.{told_more}
use Rattle.circus_report.proofs.put.put_lines.Given as goal

-- the front of the text is written, and the sink has not failed
abbrev pub invariant-loop-at : goal.invariant-loop-at
invariant-loop-at g l =
    let written = g.K.Sink.written in
    let faults = g.K.Sink.faults in
    record {
      within : l.at ≤ length l.text;
      written : written l.sink ≡ told_more (written l.fn.sink) (take l.at l.text);
      count : faults l.sink ≡ faults l.fn.sink;
    }

abbrev pub decreases-loop-at : goal.decreases-loop-at
decreases-loop-at g l = length l.text - l.at
