use Rattle.std.proofs.Common.{◌≡◌}
use Rattle.circus_check.specs.Seen.Tables.{those_there}
use Rattle.circus_check.proofs.procedures.bodies.Given as goal

-- those of the places so far
abbrev pub invariant-loop-slot : goal.invariant-loop-slot
invariant-loop-slot l = l.bodies ≡ those_there l.yielded
