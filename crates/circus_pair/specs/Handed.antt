-- What was handed over at one end, what is acknowledged of it, and which segments are taken.
use Rattle.std.specs.Prelude.{ℕ, ◌+◌, Bool, true, false, ◌&&◌, List, [], ◌∷◌, Option, None, Some, is_some, max, nat_lt, ◌==◌, if◌then◌else◌}
use Rattle.circus_segment.specs.Segment.{Piece, is_acknowledgement}
use Rattle.circus_segment.specs.Cut.{segment_count}
use Rattle.circus_pair.specs.Taken.{total_in}
use Rattle.circus_pair.specs.Acts.{Call, Return, Acts, none_yet, more}

-- how many calls were handed over
unfoldable pub calls_made : Acts → ℕ
calls_made none_yet = 0
calls_made (more acts (Call message)) = calls_made acts + 1
calls_made (more acts act) = calls_made acts

-- the call of a number, where the first one has this number
unfoldable pub call_at : ℕ → Acts → ℕ → Option (List ℕ)
call_at first none_yet call = None
call_at first (more acts (Call message)) call = if call == first + calls_made acts then Some message else call_at first acts call
call_at first (more acts act) call = call_at first acts call

-- the return to a call
unfoldable pub return_at : Acts → ℕ → Option (List ℕ)
return_at none_yet call = None
return_at (more acts (Return returned message)) call = if call == returned then Some message else return_at acts call
return_at (more acts act) call = return_at acts call

-- how many segments of a message of some total a segment says are acknowledged: an acknowledgement its number, a segment of a return the whole of its call
abbrev pub says : Piece → ℕ → ℕ → ℕ → ℕ
says s kind call total =
    if is_acknowledgement s
    then (if s.kind == kind && s.call == call then s.number else 0)
    else (if kind == 0 && (s.kind == 1 && s.call == call) then total else 0)

-- how many are acknowledged by all segments taken
unfoldable pub reached_in : List Piece → ℕ → ℕ → ℕ → ℕ
reached_in [] kind call total = 0
reached_in (s ∷ ts) kind call total = max (says s kind call total) (reached_in ts kind call total)

abbrev pub agrees_with : Option (List ℕ) → ℕ → Bool
agrees_with None total = false
agrees_with (Some message) total = segment_count message == total

abbrev pub fits_with : Option ℕ → ℕ → Bool
fits_with None total = true
fits_with (Some first) total = first == total

-- the calls that were sent: those below a number that were handed over
abbrev pub sent_below : ℕ → ℕ → Acts → ℕ → Bool
sent_below limit first acts call = nat_lt call limit && is_some (call_at first acts call)

-- a segment is taken: it has the format; an acknowledgement speaks of a message that was sent, with its total; another one has the total of its message, and a return answers a call that was sent
abbrev pub is_taken : ℕ → ℕ → Acts → List Piece → (ℕ → Bool) → Piece → Bool
is_taken first format acts ts is_sent s =
    (s.format == format) && (
    if is_acknowledgement s
    then (if s.kind == 0 then is_sent s.call && agrees_with (call_at first acts s.call) s.total else agrees_with (return_at acts s.call) s.total)
    else (if s.kind == 0 then fits_with (total_in ts s.kind s.call) s.total else is_sent s.call && fits_with (total_in ts s.kind s.call) s.total))
