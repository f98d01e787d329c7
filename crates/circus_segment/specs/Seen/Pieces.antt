-- Segments as the code has them, without where their data lies in memory.
use Rattle.std.specs.Prelude.{◌≡◌, Result, Ok, Err}
use Rattle.circus_segment.specs.declared.segment.Segment.{Segment}
use Rattle.circus_segment.specs.declared.fault.SegmentFault.{SegmentFault}
use Rattle.circus_segment.specs.Segment.{Piece}

abbrev pub piece : Segment → Piece
piece s = record { format = s.format; kind = s.kind; control = s.control; total = s.total; number = s.number; call = s.call; part = s.part.now }

-- the code's answer is this one
abbrev pub Reads : Result Segment SegmentFault → Result Piece SegmentFault → Type 0
Reads (Ok s) read = read ≡ Ok (piece s)
Reads (Err fault) read = read ≡ Err fault
