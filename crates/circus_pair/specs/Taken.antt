-- What the segments say that one end has taken. A list of them begins with the newest.
use Rattle.std.specs.Prelude.{◌≡◌, ℕ, ◌<◌, ◌≤◌, Bool, true, false, not, ◌&&◌, List, [], ◌∷◌, Option, None, Some, unwrap_or, is_some, ◌==◌, if◌then◌else◌}
use Rattle.circus_segment.specs.Segment.{Piece, is_acknowledgement, has_data}
use Rattle.circus_segment.specs.Cut.{segment_count, part_at}
use Rattle.circus_exchange.specs.Inbox.{front, data_up_to}

-- a segment, or a probe, of the message of this kind and call
abbrev pub is_of : ℕ → ℕ → Piece → Bool
is_of kind call s = (s.kind == kind) && ((s.call == call) && not (is_acknowledgement s))

abbrev pub first_of : Option ℕ → Bool → ℕ → Option ℕ
first_of (Some total) says new = Some total
first_of None says new = if says then Some new else None

-- the total of a message: that of the first segment taken for it
unfoldable pub total_in : List Piece → ℕ → ℕ → Option ℕ
total_in [] kind call = None
total_in (s ∷ ts) kind call = first_of (total_in ts kind call) (is_of kind call s) s.total

abbrev pub first_part : Option (List ℕ) → Bool → List ℕ → Option (List ℕ)
first_part (Some part) says new = Some part
first_part None says new = if says then Some new else None

-- the data of a number of a message: that of the first segment taken with it
unfoldable pub data_in : List Piece → ℕ → ℕ → ℕ → Option (List ℕ)
data_in [] kind call number = None
data_in (s ∷ ts) kind call number = first_part (data_in ts kind call number) (is_of kind call s && (has_data s && (s.number == number))) s.part

-- whether a segment with that number was taken
unfoldable pub is_there : List Piece → ℕ → ℕ → ℕ → Bool
is_there ts kind call number = is_some (data_in ts kind call number)

-- how many segments of a message of some total are there, from the first on without a gap
unfoldable pub count_in : List Piece → ℕ → ℕ → ℕ → ℕ
count_in ts kind call total = front (is_there ts kind call) total

abbrev pub is_reached : Option ℕ → (ℕ → ℕ) → Bool
is_reached None count_to = false
is_reached (Some total) count_to = count_to total == total

-- the message has arrived: all its segments were taken
unfoldable pub has_arrived : List Piece → ℕ → ℕ → Bool
has_arrived ts kind call = is_reached (total_in ts kind call) (count_in ts kind call)

-- the joined data of the segments of a message of some total
unfoldable pub message_in : List Piece → ℕ → ℕ → ℕ → List ℕ
message_in ts kind call total = data_up_to (λ number. unwrap_or (data_in ts kind call number) []) total

abbrev pub IsTotal : Option ℕ → ℕ → Type 0
IsTotal None new = Unit {0}
IsTotal (Some total) new = total ≡ new

-- a segment may be taken after these: it has the total of its message, its number is within, and data has a number
pub record MayFollow (ts : List Piece) (s : Piece) : Type 0 where
  pub total : not (is_acknowledgement s) ≡ true → IsTotal (total_in ts s.kind s.call) s.total
  pub some : 0 < s.total
  pub within : s.number ≤ s.total
  pub numbered : has_data s ≡ true → 0 < s.number

-- each segment may be taken after those before it
abbrev pub AreTaken : List Piece → Type 0
AreTaken [] = Unit {0}
AreTaken (s ∷ ts) = MayFollow ts s × AreTaken ts

-- a segment, or a probe, of a message
pub record IsOf (message : List ℕ) (s : Piece) : Type 0 where
  pub total : s.total ≡ segment_count message
  pub part : has_data s ≡ true → s.part ≡ part_at message s.number

-- each segment for the message of this kind and call is one of this message
abbrev pub AreOf : ℕ → ℕ → List ℕ → List Piece → Type 0
AreOf kind call message [] = Unit {0}
AreOf kind call message (s ∷ ts) = (is_of kind call s ≡ true → IsOf message s) × AreOf kind call message ts
