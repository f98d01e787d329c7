use Rattle.std.proofs.Common.{◌≡◌, ℕ, ◌<◌}
use Rattle.std.specs.List.{HoldsAt}
use Rattle.circus_schedule.specs.declared.line.Line.TheVariants.{Deliver}
use Rattle.circus_settle.proofs.quietness.is_delivered.Given as goal

-- none of the lines before this one delivers the datagram
abbrev pub invariant-loop-line : goal.invariant-loop-line
invariant-loop-line l = (k : ℕ) → k < l.line-index → HoldsAt (λ line. line ≡ Deliver l.number → ⊥) l.lines k
