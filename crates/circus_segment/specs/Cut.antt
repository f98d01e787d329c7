-- How a message is cut into segments.
use Rattle.std.specs.Prelude.{ℕ, zero, suc, ◌+◌, ◌-◌, ◌*◌, ◌/◌, List, [], ◌∷◌, ◌++◌, length, take, drop}
use Rattle.circus_segment.specs.Segment.{Piece, part_size, spelling}

-- how many segments a message has
abbrev pub segment_count : List ℕ → ℕ
segment_count message = (length message + (part_size - 1)) / part_size

-- the data of a segment by its number, which counts from 1
unfoldable pub part_at : List ℕ → ℕ → List ℕ
part_at message number = take part_size (drop (part_size * (number - 1)) message)

-- a message on its way: in which format, of which kind, under which call's number, in how many segments
pub record Outgoing : Type 0 where
  pub format : ℕ
  pub kind : ℕ
  pub call : ℕ
  pub total : ℕ
  pub message : List ℕ

-- one of its segments, with a control
abbrev pub segment_of : Outgoing → ℕ → ℕ → Piece
segment_of m control number = record { format = m.format; kind = m.kind; control = control; total = m.total; number = number; call = m.call; part = part_at m.message number }

-- the datagrams of its first segments, in order
unfoldable pub first_datagrams : Outgoing → ℕ → List (List ℕ)
first_datagrams m zero = []
first_datagrams m (suc n) = first_datagrams m n ++ spelling (segment_of m 0 (suc n)) ∷ []

-- the datagrams of the whole message
abbrev pub whole : Outgoing → List (List ℕ)
whole m = first_datagrams m m.total
