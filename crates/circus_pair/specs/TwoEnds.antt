-- Two ends of a pair: what happens at them, oldest first, and what they know, have sent and have received then.
use Rattle.std.specs.Prelude.{◌≡◌, ℕ, ◌<◌, ◌≤◌, Bool, true, false, not, ◌&&◌, List, [], ◌∷◌, ◌++◌, length, All, count_by, Option, None, Some, Result, Ok, Err, slice_get, nat_lt, ◌==◌, if◌then◌else◌}
use Rattle.circus_exchange.specs.declared.exchange.Exchange.{Exchange}
use Rattle.circus_segment.specs.declared.fault.SegmentFault.{SegmentFault}
use Rattle.circus_exchange.specs.declared.taken.Arrived.{Arrived}
use Rattle.circus_exchange.specs.declared.taken.Arrived.TheVariants.{Nothing, ArrivedCall, ArrivedReturn}
use Rattle.circus_pair.specs.declared.two_ends.Act.{Act}
use Rattle.circus_pair.specs.declared.two_ends.Act.TheVariants.{Call, Return, Deliver, Tick}
use Rattle.circus_segment.specs.Segment.{Piece, reading, spelling}
use Rattle.circus_exchange.specs.Exchange.{start, IsSendable, datagrams_of_call, datagrams_of_return, datagrams_after, datagrams_of_tick, arrived_after, awaits_return}
use Rattle.circus_exchange.specs.Limits.{never_used}
use Rattle.circus_pair.specs.Acts.{Act as OneAct, Call as Calls, Return as Returns, Came, Tick as Ticks, Stop as Stops, Acts, none_yet, more, happens, end_after, taken_by}
use Rattle.circus_pair.specs.Taken.{has_arrived}
use Rattle.circus_segment.specs.Cut.{segment_count}
use Rattle.circus_pair.specs.Handed.{calls_made, call_at, return_at, reached_in}
use Rattle.circus_pair.specs.Lawful.{MayFollow}

-- the acts of both ends, oldest first
pub data History : Type 0 where
  begun : History
  then_came : History → Act → History

-- ---- one end

-- what an act sends
abbrev pub datagrams_by : Exchange → OneAct → List (List ℕ)
datagrams_by e (Calls message) = datagrams_of_call e message
datagrams_by e (Returns call message) = datagrams_of_return e call message
datagrams_by e (Came s) = datagrams_after e s
datagrams_by e Ticks = datagrams_of_tick e
datagrams_by e Stops = []

-- the datagrams that an end which began as e has sent in these acts, oldest first
abbrev pub sent_by : Exchange → Acts → List (List ℕ)
sent_by e none_yet = []
sent_by e (more acts act) = sent_by e acts ++ datagrams_by (end_after e acts) act

-- what arrives by an act
abbrev pub arrival_of : Exchange → OneAct → Arrived
arrival_of e (Came s) = arrived_after e s
arrival_of e (Calls message) = Nothing
arrival_of e (Returns call message) = Nothing
arrival_of e Ticks = Nothing
arrival_of e Stops = Nothing

-- a message that has arrived, of a call (kind 0) or a return (kind 1)
pub record Arrival : Type 0 where
  pub kind : ℕ
  pub call : ℕ
  pub message : List ℕ

abbrev pub arrivals_of : Arrived → List Arrival
arrivals_of Nothing = []
arrivals_of (ArrivedCall call message) = record { kind = 0; call = call; message = message } ∷ []
arrivals_of (ArrivedReturn call message) = record { kind = 1; call = call; message = message } ∷ []

-- the messages that have arrived at an end which began as e, oldest first
abbrev pub arrived_in : Exchange → Acts → List Arrival
arrived_in e none_yet = []
arrived_in e (more acts act) = arrived_in e acts ++ arrivals_of (arrival_of (end_after e acts) act)

-- the message that was handed over, of a call (kind 0) or as the return to one (kind 1)
abbrev pub handed_over : ℕ → Acts → ℕ → ℕ → Option (List ℕ)
handed_over first acts kind call = if kind == 0 then call_at first acts call else return_at acts call

-- ---- what an act of both ends is at one of them

abbrev pub is_same : Bool → Bool → Bool
is_same true end = end
is_same false end = not end

-- a datagram comes, which is dropped where it is no segment
abbrev pub act_of_datagram : Result Piece SegmentFault → Option OneAct
act_of_datagram (Ok s) = Some (Came s)
act_of_datagram (Err fault) = None

abbrev pub act_of_delivery : Option (List ℕ) → Option OneAct
act_of_delivery None = None
act_of_delivery (Some bytes) = act_of_datagram (reading bytes)

-- the act at an end, where the other one has sent these datagrams, or none where the other end acts
abbrev pub act_at : Bool → List (List ℕ) → Act → Option OneAct
act_at end sent (Call at message) = if is_same end at then Some (Calls message) else None
act_at end sent (Return at call message) = if is_same end at then Some (Returns call message) else None
act_at end sent (Deliver at number) = if is_same end at then act_of_delivery (slice_get sent number) else None
act_at end sent (Tick at) = if is_same end at then Some Ticks else None

abbrev pub with_act : Acts → Option OneAct → Acts
with_act acts None = acts
with_act acts (Some act) = more acts act

-- what has happened at an end
abbrev pub acts_of : Bool → ℕ → History → Acts
acts_of end format begun = none_yet
acts_of end format (then_came history act) = with_act (acts_of end format history) (act_at end (sent_by (start 0 format) (acts_of (not end) format history)) act)

-- ---- both ends

-- what an end knows, and the datagrams that it has sent, oldest first
pub record End : Type 0 where
  pub exchange : Exchange
  pub sent : List (List ℕ)

-- the end that false names, and the one that true names
pub record Both : Type 0 where
  pub low : End
  pub high : End

abbrev pub end_at : Both → Bool → End
end_at both end = if end then both.high else both.low

-- an end that began as e, after these acts
abbrev pub end_of : Exchange → Acts → End
end_of e acts = record { exchange = end_after e acts; sent = sent_by e acts }

-- both ends after these acts
abbrev pub both_after : ℕ → History → Both
both_after format history = record {
  low = end_of (start 0 format) (acts_of false format history);
  high = end_of (start 0 format) (acts_of true format history);
}

-- ---- one act more

-- an end after an act of its own, or after none
abbrev pub move_end : End → Option OneAct → End
move_end end None = end
move_end end (Some act) = record { exchange = happens end.exchange act; sent = end.sent ++ datagrams_by end.exchange act }

-- both ends after an act more
unfoldable pub step_both : Both → Act → Both
step_both both act = record {
  low = move_end both.low (act_at false both.high.sent act);
  high = move_end both.high (act_at true both.low.sent act);
}

abbrev pub arrived_by : Exchange → Option OneAct → Arrived
arrived_by e None = Nothing
arrived_by e (Some act) = arrival_of e act

-- what arrives by an act
abbrev pub arrives : Both → Act → Arrived
arrives both (Call at message) = Nothing
arrives both (Return at call message) = Nothing
arrives both (Deliver at number) = arrived_by (end_at both at).exchange (act_of_delivery (slice_get (end_at both (not at)).sent number))
arrives both (Tick at) = Nothing

-- the end that acts, or to which is delivered
abbrev pub acting_end : Act → Bool
acting_end (Call at message) = at
acting_end (Return at call message) = at
acting_end (Deliver at number) = at
acting_end (Tick at) = at

-- the messages of an act can be sent
abbrev pub CanBeSent : Both → Act → Type 0
CanBeSent both (Call at message) = IsSendable (end_at both at).exchange.format message
CanBeSent both (Return at call message) = IsSendable (end_at both at).exchange.format message
CanBeSent both (Deliver at number) = Unit {0}
CanBeSent both (Tick at) = Unit {0}

-- an act names no call that waits for its return, or no datagram that was sent
abbrev pub names_none : Both → Act → Bool
names_none both (Call at message) = false
names_none both (Return at call message) = not (awaits_return (end_at both at).exchange call)
names_none both (Deliver at number) = not (nat_lt number (length (end_at both (not at)).sent))
names_none both (Tick at) = false

-- an act is a call for which no number is left
abbrev pub has_no_number : Both → Act → Bool
has_no_number both (Call at message) = (end_at both at).exchange.next == never_used
has_no_number both (Return at call message) = false
has_no_number both (Deliver at number) = false
has_no_number both (Tick at) = false

-- ---- which acts may follow

-- the segments that an end has taken, the newest first
abbrev pub taken_at : Bool → ℕ → History → List Piece
taken_at end format history = taken_by (start 0 format) (acts_of end format history)

-- the messages that have arrived at an end, oldest first
abbrev pub arrived_at : Bool → ℕ → History → List Arrival
arrived_at end format history = arrived_in (start 0 format) (acts_of end format history)

-- an act may come after these: messages can be sent, a number is left for a call, a return answers a call that has arrived and had none, and a datagram was sent
abbrev pub MayHappen : ℕ → History → Act → Type 0
MayHappen format history (Call at message) = IsSendable format message × (calls_made (acts_of at format history) < never_used)
MayHappen format history (Return at call message) = IsSendable format message × (has_arrived (taken_at at format history) 0 call ≡ true) × (return_at (acts_of at format history) call ≡ None)
MayHappen format history (Deliver at number) = number < length (sent_by (start 0 format) (acts_of (not at) format history))
MayHappen format history (Tick at) = Unit {0}

-- each act may come after those before it
abbrev pub IsLawfulHistory : ℕ → History → Type 0
IsLawfulHistory format begun = Unit {0}
IsLawfulHistory format (then_came history act) = IsLawfulHistory format history × MayHappen format history act

-- ---- what two ends owe each other

-- between an end after its acts and the other one after its own: each message has arrived here at most once, and is the one that was handed over there; one counts here as acknowledged whole only where it has arrived there
pub record Agrees (format : ℕ) (here there : Acts) : Type 0 where
  pub once : (kind call : ℕ) → count_by (λ a. (a.kind == kind) && (a.call == call)) (arrived_in (start 0 format) here) ≤ 1
  pub sent : All (λ a. handed_over 0 there a.kind a.call ≡ Some a.message) (arrived_in (start 0 format) here)
  pub acknowledged : (kind call : ℕ) (message : List ℕ) → handed_over 0 here kind call ≡ Some message → reached_in (taken_by (start 0 format) here) kind call (segment_count message) ≡ segment_count message → has_arrived (taken_by (start 0 format) there) kind call ≡ true

-- both ways
abbrev pub Agree : ℕ → Acts → Acts → Type 0
Agree format here there = Agrees format here there × Agrees format there here

-- what happens at two ends, oldest first: an act at the first one, or at the second
pub data Talk : Type 0 where
  silent : Talk
  at_first : Talk → OneAct → Talk
  at_second : Talk → OneAct → Talk

abbrev pub acts_at_first : Talk → Acts
acts_at_first silent = none_yet
acts_at_first (at_first talk act) = more (acts_at_first talk) act
acts_at_first (at_second talk act) = acts_at_first talk

abbrev pub acts_at_second : Talk → Acts
acts_at_second silent = none_yet
acts_at_second (at_first talk act) = acts_at_second talk
acts_at_second (at_second talk act) = more (acts_at_second talk) act

-- what comes is among the datagrams that the other end has sent
abbrev pub WasSent : List (List ℕ) → OneAct → Type 0
WasSent sent (Came s) = (number : ℕ) × (slice_get sent number ≡ Some (spelling s))
WasSent sent (Calls message) = Unit {0}
WasSent sent (Returns call message) = Unit {0}
WasSent sent Ticks = Unit {0}
WasSent sent Stops = Unit {0}

-- each act may come at its end after those before it
abbrev pub IsTalk : ℕ → Talk → Type 0
IsTalk format silent = Unit {0}
IsTalk format (at_first talk act) = IsTalk format talk × MayFollow 0 format (acts_at_first talk) act × WasSent (sent_by (start 0 format) (acts_at_second talk)) act
IsTalk format (at_second talk act) = IsTalk format talk × MayFollow 0 format (acts_at_second talk) act × WasSent (sent_by (start 0 format) (acts_at_first talk)) act
