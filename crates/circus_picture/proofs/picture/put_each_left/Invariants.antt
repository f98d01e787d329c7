use Rattle.std.proofs.Common.{◌≡◌, drop}
use Rattle.std.specs.List.{flat_map}
use Rattle.circus_picture.specs.Rows.{left_row}
use Rattle.circus_picture.specs.Seen.Drawing.{scene_of}
use Rattle.circus_picture.proofs.Begun.{IsBegun}
use Rattle.circus_picture.proofs.picture.put_each_left.Given as goal

-- the rows of the datagrams before this one are put, and the sink has not failed
abbrev pub invariant-loop-number : goal.invariant-loop-number
invariant-loop-number g l =
    let written = g.K.Sink.written in
    let faults = g.K.Sink.faults in
    let scene = scene_of g.N.Naming.names l.scene in
    record {
      put : IsBegun (flat_map (left_row scene l.step) l.left) (flat_map (left_row scene l.step) (drop l.number-index l.left))
          (written l.fn.sink) (written l.sink);
      count : faults l.sink ≡ faults l.fn.sink;
    }
