use Rattle.std.proofs.Common.{◌≡◌, drop, nat_eq}
use Rattle.std.specs.Cmp.Lexicographic.{pointwise}
use Rattle.circus_value.proofs.tail.same_parts.Given as goal

-- the parts that are left decide
abbrev pub invariant-loop-place : goal.invariant-loop-place
invariant-loop-place l = pointwise (pointwise nat_eq) (drop l.place l.parts) (drop l.place l.others) ≡ pointwise (pointwise nat_eq) l.parts l.others
