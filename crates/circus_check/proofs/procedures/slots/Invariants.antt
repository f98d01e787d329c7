use Rattle.std.proofs.Common.{◌≡◌, replicate, None}
use Rattle.circus_check.proofs.procedures.slots.Given as goal

-- so many places so far
abbrev pub invariant-loop : goal.invariant-loop
invariant-loop l = l.slots.items ≡ replicate l.counter None
