-- One end of an exchange of calls and returns with another node, and what each act does to it.
use Rattle.std.specs.Prelude.{ℕ, ◌+◌, ◌-◌, ◌*◌, ◌^◌, ◌<◌, ◌≤◌, Bool, true, false, not, ◌&&◌, List, [], ◌++◌, length, Option, None, Some, is_some, nat_lt, ◌==◌, if◌then◌else◌}
use Rattle.std.specs.FinMap.{get, len}
use Rattle.std.specs.FinMap as map
use Rattle.circus_exchange.specs.declared.progress.Progress.{Progress}
use Rattle.circus_exchange.specs.declared.exchange.Exchange.{Exchange}
use Rattle.circus_exchange.specs.declared.taken.Arrived.{Arrived}
use Rattle.circus_exchange.specs.declared.taken.Arrived.TheVariants.{Nothing, ArrivedCall, ArrivedReturn}
use Rattle.circus_segment.specs.Segment.{Piece, part_size, most_segments, is_acknowledgement}
use Rattle.circus_segment.specs.Cut.{Outgoing, segment_count, whole}
use Rattle.circus_exchange.specs.Limits.{window, patience}
use Rattle.circus_exchange.specs.Inbox.{fits, completes, data_with, data_up_to, acknowledgement, add_segment}
use Rattle.circus_exchange.specs.Outbox.{agrees, outgoing_at, whole_of, hand_over, acknowledge_up_to, becomes_whole, drop_bytes, forget_message, reminders}

-- a message that can be sent in a format
abbrev pub IsSendable : ℕ → List ℕ → Type 0
IsSendable format message = (0 < length message) × (length message ≤ part_size * most_segments format)

-- an end before anything happened
abbrev pub start : ℕ → ℕ → Exchange
start number format = record {
  format = format;
  next = number;
  sent = number;
  in_flight = 0;
  calls = record { progress = map.empty; messages = map.empty };
  returns = record { progress = map.empty; messages = map.empty };
  arriving_calls = record { progress = map.empty; parts = map.empty };
  arriving_returns = record { progress = map.empty; parts = map.empty };
  ticks = 0;
  stopped = false;
}

-- ---- a call is handed over

-- a call that is handed over is sent at once
unfoldable pub sends_at_once : Exchange → Bool
sends_at_once e = nat_lt e.in_flight window && (e.sent == e.next)

unfoldable pub send_call : Exchange → List ℕ → Exchange
send_call e message = record e {
  next = e.next + 1;
  sent = if sends_at_once e then e.sent + 1 else e.sent;
  in_flight = if sends_at_once e then e.in_flight + 1 else e.in_flight;
  calls = hand_over e.calls e.next (segment_count message) message;
  ticks = if len e.calls.messages == 0 then 0 else e.ticks;
}

abbrev pub message_out : Exchange → ℕ → ℕ → List ℕ → Outgoing
message_out e kind call message = record { format = e.format; kind = kind; call = call; total = segment_count message; message = message }

unfoldable pub datagrams_of_call : Exchange → List ℕ → List (List ℕ)
datagrams_of_call e message = if sends_at_once e then whole (message_out e 0 e.next message) else []

-- ---- a return is handed over

unfoldable pub send_return : Exchange → ℕ → List ℕ → Exchange
send_return e call message = record e { returns = hand_over e.returns call (segment_count message) message }

unfoldable pub datagrams_of_return : Exchange → ℕ → List ℕ → List (List ℕ)
datagrams_of_return e call message = whole (message_out e 1 call message)

-- the call has arrived whole
abbrev pub is_whole : Option Progress → Bool
is_whole None = false
is_whole (Some p) = p.count == p.total

-- the call has arrived whole and no return was sent
unfoldable pub awaits_return : Exchange → ℕ → Bool
awaits_return e call = is_whole (get e.arriving_calls.progress call) && not (is_some (get e.returns.progress call))

-- ---- a segment comes

-- the call was sent
unfoldable pub was_sent : Exchange → ℕ → Bool
was_sent e call = nat_lt call e.sent && is_some (get e.calls.progress call)

-- the segment is taken, and not dropped
unfoldable pub takes : Exchange → Piece → Bool
takes e s =
    (s.format == e.format) && (
    if is_acknowledgement s
    then (if s.kind == 0 then was_sent e s.call && agrees e.calls s else agrees e.returns s)
    else (if s.kind == 0 then fits e.arriving_calls s else was_sent e s.call && fits e.arriving_returns s))

-- a call that waits may go
unfoldable pub lets_go : Exchange → ℕ → Bool
lets_go e in_flight = not e.stopped && (nat_lt in_flight window && nat_lt e.sent e.next)

-- with the first call that waits sent, if it may go
unfoldable pub let_go : Exchange → Exchange
let_go e = if lets_go e e.in_flight then record e { sent = e.sent + 1; in_flight = e.in_flight + 1 } else e

unfoldable pub datagrams_let_go : Exchange → ℕ → List (List ℕ)
datagrams_let_go e in_flight = if lets_go e in_flight then whole_of (outgoing_at e.calls e.format 0 e.sent) else []

-- how many calls are sent and not acknowledged whole, once the segments 1 to count of one are acknowledged
unfoldable pub in_flight_after : Exchange → ℕ → ℕ → ℕ
in_flight_after e call count = if becomes_whole e.calls call count then e.in_flight - 1 else e.in_flight

-- the segments 1 to count of a call are acknowledged
unfoldable pub call_reached : Exchange → ℕ → ℕ → Exchange
call_reached e call count = record e {
  calls = if becomes_whole e.calls call count then drop_bytes (acknowledge_up_to e.calls call count) call else acknowledge_up_to e.calls call count;
  in_flight = in_flight_after e call count;
}

-- the segments 1 to count of a return are acknowledged
unfoldable pub return_reached : Exchange → ℕ → ℕ → Exchange
return_reached e call count = record e { returns = if becomes_whole e.returns call count then forget_message (acknowledge_up_to e.returns call count) call else acknowledge_up_to e.returns call count }

abbrev pub total_or_none : Option Progress → ℕ
total_or_none None = 0
total_or_none (Some p) = p.total

-- the segments of a call
unfoldable pub total_of : Exchange → ℕ → ℕ
total_of e call = total_or_none (get e.calls.progress call)

-- a call whose return is complete is forgotten
unfoldable pub end_call : Exchange → ℕ → Bool → Exchange
end_call e call complete = record e { calls = if complete then forget_message e.calls call else e.calls }

-- with a segment of a return added, which acknowledges its call whole, and ends it where the return is complete
unfoldable pub return_added : Exchange → Piece → Exchange
return_added e s =
    end_call (call_reached (record e { arriving_returns = add_segment e.arriving_returns s }) s.call (total_of e s.call)) s.call (completes e.arriving_returns s)

-- once a segment was taken
unfoldable pub after_taken : Exchange → Piece → Exchange
after_taken e s =
    record (
    if is_acknowledgement s
    then (if s.kind == 0 then let_go (call_reached e s.call s.number) else return_reached e s.call s.number)
    else (if s.kind == 0 then record e { arriving_calls = add_segment e.arriving_calls s } else let_go (return_added e s))
    ) { ticks = 0 }

-- once a segment came
abbrev pub after : Exchange → Piece → Exchange
after e s = if takes e s then after_taken e s else e

-- what is sent when a segment was taken
unfoldable pub datagrams_of_taken : Exchange → Piece → List (List ℕ)
datagrams_of_taken e s =
    if is_acknowledgement s
    then (if s.kind == 0 then datagrams_let_go e (in_flight_after e s.call s.number) else [])
    else (if s.kind == 0 then acknowledgement e.stopped e.arriving_calls s
    else acknowledgement e.stopped e.arriving_returns s ++ datagrams_let_go e (in_flight_after e s.call (total_of e s.call)))

abbrev pub datagrams_after : Exchange → Piece → List (List ℕ)
datagrams_after e s = if takes e s then datagrams_of_taken e s else []

-- the message that a segment completes
unfoldable pub arrived_of_taken : Exchange → Piece → Arrived
arrived_of_taken e s =
    if s.kind == 0
    then (if completes e.arriving_calls s then ArrivedCall s.call (data_up_to (data_with e.arriving_calls s) s.total) else Nothing)
    else (if completes e.arriving_returns s then ArrivedReturn s.call (data_up_to (data_with e.arriving_returns s) s.total) else Nothing)

abbrev pub arrived_after : Exchange → Piece → Arrived
arrived_after e s = if takes e s && not (is_acknowledgement s) then arrived_of_taken e s else Nothing

-- ---- a tick

-- a call waits for its return
abbrev pub is_waiting : Exchange → Bool
is_waiting e = not (len e.calls.messages == 0)

unfoldable pub count_tick : Exchange → Exchange
count_tick e = record e { ticks = if is_waiting e && nat_lt e.ticks patience then e.ticks + 1 else e.ticks }

unfoldable pub is_suspect : Exchange → Bool
is_suspect e = is_waiting e && (e.ticks + 1 == patience)

unfoldable pub datagrams_of_tick : Exchange → List (List ℕ)
datagrams_of_tick e = reminders e.calls e.format 0 e.sent ++ reminders e.returns e.format 1 (2 ^ 32)

-- ---- the other end is down

abbrev pub stop_exchange : Exchange → Exchange
stop_exchange e = record e { stopped = true }
