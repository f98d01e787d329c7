use Rattle.std.proofs.Common.{◌≡◌}
use Rattle.circus_picture.specs.Rows.{left_below}
use Rattle.circus_picture.proofs.picture.left_below.Given as goal

-- those below this number
abbrev pub invariant-loop-number : goal.invariant-loop-number
invariant-loop-number l = l.left ≡ left_below l.lines l.number
