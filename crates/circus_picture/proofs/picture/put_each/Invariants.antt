use Rattle.std.proofs.Common.{◌≡◌, drop, map}
use Rattle.std.specs.List.{flat_map}
use Rattle.circus_picture.specs.Rows.{deed_row}
use Rattle.circus_picture.specs.Seen.Kept.{deed_at}
use Rattle.circus_picture.specs.Seen.Drawing.{scene_of}
use Rattle.circus_picture.proofs.Begun.{IsBegun}
use Rattle.circus_picture.proofs.picture.put_each.Given as goal

-- the rows of the deeds before this one are put, and the sink has not failed
abbrev pub invariant-loop-deed : goal.invariant-loop-deed
invariant-loop-deed g l =
    let written = g.K.Sink.written in
    let faults = g.K.Sink.faults in
    let scene = scene_of g.N.Naming.names l.scene in
    record {
      put : IsBegun (flat_map (deed_row scene) (map (deed_at l.step) l.deeds)) (flat_map (deed_row scene) (map (deed_at l.step) (drop l.deed-index l.deeds)))
          (written l.fn.sink) (written l.sink);
      count : faults l.sink ≡ faults l.fn.sink;
    }
