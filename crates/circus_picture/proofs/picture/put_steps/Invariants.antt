use Rattle.std.proofs.Common.{◌≡◌, ◌+◌, List, length, drop, map}
use Rattle.circus_picture.specs.Deeds.{Deed}
use Rattle.circus_picture.specs.Picture.{steps_rows}
use Rattle.circus_picture.specs.Seen.Kept.{AreKept}
use Rattle.circus_picture.specs.Seen.Drawing.{scene_of}
use Rattle.circus_picture.proofs.Begun.{IsBegun}
use Rattle.circus_picture.proofs.picture.put_steps.Given as goal

-- the rows of the lines before this one are put, and the sink has not failed
abbrev pub invariant-loop-place : goal.invariant-loop-place
invariant-loop-place g l =
    let written = g.K.Sink.written in
    let faults = g.K.Sink.faults in
    let scene = scene_of g.N.Naming.names l.scene in
    record {
      put : (deeds : List Deed) → AreKept (length l.lines + 1) deeds (map (λ own. own.items) l.steps)
          → IsBegun (steps_rows scene deeds 1 l.lines) (steps_rows scene deeds (l.place + 1) (drop l.place l.lines)) (written l.fn.sink) (written l.sink);
      count : faults l.sink ≡ faults l.fn.sink;
    }
