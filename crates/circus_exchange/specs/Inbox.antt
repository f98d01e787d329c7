-- Messages of one kind that come in.
use Rattle.std.specs.Prelude.{ℕ, zero, suc, Bool, not, ◌&&◌, ◌||◌, List, [], ◌∷◌, ◌++◌, Option, None, Some, is_some, unwrap_or, nat_lt, nat_le, ◌==◌, if◌then◌else◌}
use Rattle.std.specs.Ordering.{nat_cmp}
use Rattle.std.specs.FinMap.{FinMap, empty, get, insert, remove}
use Rattle.circus_exchange.specs.declared.progress.Progress.{Progress}
use Rattle.circus_segment.specs.Segment.{Piece, has_data, spelling}

-- how far each message has come, by the number of its call, and the data of those that are begun and not whole, by the numbers of their segments
pub record Arriving : Type 0 where
  pub progress : FinMap nat_cmp Progress
  pub parts : FinMap nat_cmp (FinMap nat_cmp (List ℕ))

-- how many of the numbers 1 to m pass, from 1 on without a gap
abbrev pub front : (ℕ → Bool) → ℕ → ℕ
front passes zero = 0
front passes (suc m) = if (front passes m == m) && passes (suc m) then suc m else front passes m

-- what is known of the message of a segment: what the first of its segments said
unfoldable pub progress_so_far : Arriving → Piece → Progress
progress_so_far box s = unwrap_or (get box.progress s.call) (record { total = s.total; count = 0 })

-- the segment has the total of its message
unfoldable pub fits : Arriving → Piece → Bool
fits box s = (progress_so_far box s).total == s.total

abbrev pub part_of : Option (FinMap nat_cmp (List ℕ)) → ℕ → Option (List ℕ)
part_of None number = None
part_of (Some parts) number = get parts number

-- the data of a number is there, of a message that has come so far and of which these parts are there
abbrev pub is_there : Progress → Option (FinMap nat_cmp (List ℕ)) → ℕ → Bool
is_there progress parts number = nat_le number progress.count || is_some (part_of parts number)

-- the data of a number of its message is there already
unfoldable pub has : Arriving → Piece → ℕ → Bool
has box s number = is_there (progress_so_far box s) (get box.parts s.call) number

-- the segment has data that is not there yet
unfoldable pub is_new : Arriving → Piece → Bool
is_new box s = has_data s && not (has box s s.number)

-- the data of a number is there with this segment
unfoldable pub has_with : Arriving → Piece → ℕ → Bool
has_with box s number = has box s number || number == s.number

-- how many segments of its message are there with this one, from the first on without a gap
unfoldable pub count_with : Arriving → Piece → ℕ
count_with box s = if is_new box s then front (has_with box s) s.total else (progress_so_far box s).count

-- the segment is the last that its message lacked
unfoldable pub completes : Arriving → Piece → Bool
completes box s = is_new box s && (count_with box s == s.total)

-- the data of a number of its message, with this segment
unfoldable pub data_with : Arriving → Piece → ℕ → List ℕ
data_with box s number = if number == s.number then s.part else unwrap_or (part_of (get box.parts s.call) number) []

-- the data of the numbers 1 to m, joined
abbrev pub data_up_to : (ℕ → List ℕ) → ℕ → List ℕ
data_up_to data_at zero = []
data_up_to data_at (suc m) = data_up_to data_at m ++ data_at (suc m)

-- parts with one more, of a segment of a call
abbrev pub with_part : FinMap nat_cmp (FinMap nat_cmp (List ℕ)) → ℕ → ℕ → List ℕ → FinMap nat_cmp (FinMap nat_cmp (List ℕ))
with_part parts call number part = insert parts call (insert (unwrap_or (get parts call) empty) number part)

-- the parts once a segment was added: those of a message that is whole are given up
unfoldable pub parts_with : Arriving → Piece → FinMap nat_cmp (FinMap nat_cmp (List ℕ))
parts_with box s =
    if is_new box s
    then (if count_with box s == s.total then remove box.parts s.call else with_part box.parts s.call s.number s.part)
    else box.parts

-- with one more segment
unfoldable pub add_segment : Arriving → Piece → Arriving
add_segment box s = record { progress = insert box.progress s.call (record { total = s.total; count = count_with box s }); parts = parts_with box s }

-- the acknowledgement that a segment gets which completes its message or doesn't, and with which so many are there from the first on without a gap: where it asks for one, completes its message, or leaves a smaller number missing, and the other end isn't down
unfoldable pub acknowledgement_for : Bool → Piece → Bool → ℕ → List (List ℕ)
acknowledgement_for stopped s complete count =
    if not stopped && (s.control == 2 || (complete || nat_lt count s.number))
    then spelling (record { format = s.format; kind = s.kind; control = 1; total = s.total; number = count; call = s.call; part = [] }) ∷ []
    else []

abbrev pub acknowledgement : Bool → Arriving → Piece → List (List ℕ)
acknowledgement stopped box s = acknowledgement_for stopped s (completes box s) (count_with box s)
