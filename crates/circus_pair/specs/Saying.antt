-- What a datagram that an end sends may say.
use Rattle.std.specs.Prelude.{◌≡◌, ℕ, ◌≤◌, true, false, List, Option, None, Some}
use Rattle.circus_segment.specs.Segment.{Piece, IsSegment, is_acknowledgement}
use Rattle.circus_pair.specs.Taken.{total_in, count_in, has_arrived, IsOf}
use Rattle.circus_pair.specs.Acts.{Acts}
use Rattle.circus_pair.specs.TwoEnds.{handed_over}

-- a segment has its part of that message
abbrev pub IsOfSome : Option (List ℕ) → Piece → Type 0
IsOfSome None p = ⊥
IsOfSome (Some m) p = IsOf m p

-- a segment of the format, which acknowledges no more than was taken, or has its place in a message that was handed over, a return to a call that has arrived
pub record IsSaid (first format : ℕ) (acts : Acts) (ts : List Piece) (p : Piece) : Type 0 where
  pub segment : IsSegment p
  pub format_is : p.format ≡ format
  pub acknowledges : is_acknowledgement p ≡ true → (total_in ts p.kind p.call ≡ Some p.total) × (p.number ≤ count_in ts p.kind p.call p.total)
  pub speaks : is_acknowledgement p ≡ false → IsOfSome (handed_over first acts p.kind p.call) p
  pub answers : is_acknowledgement p ≡ false → p.kind ≡ 1 → has_arrived ts 0 p.call ≡ true
