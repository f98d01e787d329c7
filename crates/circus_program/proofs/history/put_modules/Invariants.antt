use Rattle.std.proofs.Common.{◌≡◌, drop}
use Rattle.circus_commands.specs.HistoryLines.{modules_lines}
use Rattle.circus_picture.proofs.Begun.{IsBegun}
use Rattle.circus_program.proofs.history.put_modules.Given as goal

-- the modules before this one are put, and the sink has not failed
abbrev pub invariant-loop-number : goal.invariant-loop-number
invariant-loop-number g l =
    let names = g.N.Naming.names l.names in
    let written = g.K.Sink.written in
    let faults = g.K.Sink.faults in
    record {
      put : IsBegun (modules_lines names 0 l.modules) (modules_lines names l.number (drop l.number l.modules)) (written l.fn.sink) (written l.sink);
      count : faults l.sink ≡ faults l.fn.sink;
    }
