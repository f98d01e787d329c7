-- What happened at one end, oldest first, and what it knows then.
use Rattle.std.specs.Prelude.{ℕ, Bool, not, ◌&&◌, ◌||◌, nat_lt, List, [], ◌∷◌, ◌==◌, if◌then◌else◌}
use Rattle.circus_exchange.specs.declared.exchange.Exchange.{Exchange}
use Rattle.circus_exchange.specs.declared.taken.Arrived.{Arrived}
use Rattle.circus_exchange.specs.declared.taken.Arrived.TheVariants.{Nothing, ArrivedCall, ArrivedReturn}
use Rattle.circus_segment.specs.Segment.{Piece, IsSegment, is_acknowledgement, spelling}
use Rattle.circus_exchange.specs.Exchange.{send_call, send_return, takes, after, count_tick, stop_exchange}
use Rattle.circus_pair.specs.Taken.{count_in, has_arrived, message_in}

-- a call or a return is handed over, a datagram comes that is a segment, a tick comes, the other end is declared down
pub data Act : Type 0 where
  Call : (message : List ℕ) → Act
  Return : (call : ℕ) → (message : List ℕ) → Act
  Came : (segment : Piece) → Act
  Tick : Act
  Stop : Act

pub data Acts : Type 0 where
  none_yet : Acts
  more : Acts → Act → Acts

abbrev pub happens : Exchange → Act → Exchange
happens e (Call message) = send_call e message
happens e (Return call message) = send_return e call message
happens e (Came s) = after e s
happens e Tick = count_tick e
happens e Stop = stop_exchange e

-- an end that began as e, after these acts
abbrev pub end_after : Exchange → Acts → Exchange
end_after e none_yet = e
end_after e (more acts act) = happens (end_after e acts) act

abbrev pub with_taken : Exchange → Act → List Piece → List Piece
with_taken e (Came s) ts = if takes e s then s ∷ ts else ts
with_taken e (Call message) ts = ts
with_taken e (Return call message) ts = ts
with_taken e Tick ts = ts
with_taken e Stop ts = ts

-- the segments that it took, the newest first
abbrev pub taken_by : Exchange → Acts → List Piece
taken_by e none_yet = []
taken_by e (more acts act) = with_taken (end_after e acts) act (taken_by e acts)

abbrev pub IsAct : Act → Type 0
IsAct (Came s) = IsSegment s
IsAct (Call message) = Unit {0}
IsAct (Return call message) = Unit {0}
IsAct Tick = Unit {0}
IsAct Stop = Unit {0}

-- each datagram that came is a segment
abbrev pub AreActs : Acts → Type 0
AreActs none_yet = Unit {0}
AreActs (more acts act) = AreActs acts × IsAct act

-- a segment is the last that its message lacked
abbrev pub arrives_by : List Piece → Piece → Bool
arrives_by ts s = not (is_acknowledgement s) && (has_arrived (s ∷ ts) s.kind s.call && not (has_arrived ts s.kind s.call))

-- what arrives by a segment that is taken after these
abbrev pub arrival_by : List Piece → Piece → Arrived
arrival_by ts s =
    if arrives_by ts s
    then (if s.kind == 0 then ArrivedCall s.call (message_in (s ∷ ts) s.kind s.call s.total) else ArrivedReturn s.call (message_in (s ∷ ts) s.kind s.call s.total))
    else Nothing

-- how many segments of its message are there with a segment, from the first on without a gap
abbrev pub count_by : List Piece → Piece → ℕ
count_by ts s = count_in (s ∷ ts) s.kind s.call s.total

-- the acknowledgement that a segment gets: where it asks for one, is the last that its message lacked, or leaves a smaller number missing
abbrev pub acknowledged_by : Bool → List Piece → Piece → List (List ℕ)
acknowledged_by is_down ts s =
    if not is_down && (s.control == 2 || ((has_arrived (s ∷ ts) s.kind s.call && not (has_arrived ts s.kind s.call)) || nat_lt (count_by ts s) s.number))
    then spelling (record { format = s.format; kind = s.kind; control = 1; total = s.total; number = count_by ts s; call = s.call; part = [] }) ∷ []
    else []
