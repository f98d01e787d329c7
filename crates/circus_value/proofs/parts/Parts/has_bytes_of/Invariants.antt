use Rattle.std.proofs.Common.{◌≡◌, drop, nat_eq}
use Rattle.std.specs.Cmp.Lexicographic.{pointwise}
use Rattle.circus_value.proofs.parts.Parts.has_bytes_of.Given as goal

-- the bytes that are left decide
abbrev pub invariant-loop-at : goal.invariant-loop-at
invariant-loop-at l = pointwise nat_eq (drop l.at l.self) (drop l.at l.other) ≡ pointwise nat_eq l.self l.other
