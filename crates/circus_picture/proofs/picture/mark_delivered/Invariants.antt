use Rattle.std.proofs.Common.{take}
use Rattle.circus_picture.specs.Seen.Drawing.{AreMarked}
use Rattle.circus_picture.proofs.picture.mark_delivered.Given as goal

-- by the lines before this one
abbrev pub invariant-loop-line : goal.invariant-loop-line
invariant-loop-line l = AreMarked l.count (take l.line-index l.lines) l.marks
