-- What an end sends, by the acts that it was given.
use Rattle.std.specs.Prelude.{ℕ, zero, suc, ◌+◌, ◌^◌, Bool, false, not, ◌&&◌, ◌||◌, List, [], ◌∷◌, ◌++◌, Option, None, Some, is_some, if◌then◌else◌}
use Rattle.circus_exchange.specs.declared.exchange.Exchange.{Exchange}
use Rattle.circus_segment.specs.Segment.{Piece, is_acknowledgement, spelling}
use Rattle.circus_segment.specs.Cut.{segment_count, segment_of, whole}
use Rattle.circus_exchange.specs.Outbox.{probe}
use Rattle.circus_exchange.specs.Exchange.{message_out}
use Rattle.circus_pair.specs.Taken.{has_arrived}
use Rattle.circus_pair.specs.Acts.{Act, Call, Return, Came, Tick, Stop, Acts, none_yet, more, taken_by, acknowledged_by}
use Rattle.circus_pair.specs.Handed.{calls_made, call_at, return_at, reached_in, is_taken}
use Rattle.circus_pair.specs.Lawful.{is_stopped_after}
use Rattle.circus_pair.specs.Window.{call_is_whole, return_is_whole, may_go}

-- an end that began as e has sent a call: the window let it go at the end of some act, from its making on and before a stop
unfoldable pub is_sent : Exchange → Acts → ℕ → Bool
is_sent e none_yet call = false
is_sent e (more acts act) call =
    is_sent e acts call || (is_some (call_at e.next (more acts act) call) && (not (is_stopped_after (more acts act)) && may_go e.next (more acts act) (taken_by e (more acts act)) call))

-- it takes a segment after these acts
abbrev pub takes_after : Exchange → Acts → Piece → Bool
takes_after e acts s = is_taken e.next e.format acts (taken_by e acts) (is_sent e acts) s

-- what there is for the numbers below one, in order
unfoldable pub in_order : (ℕ → List (List ℕ)) → ℕ → List (List ℕ)
in_order of_number zero = []
in_order of_number (suc n) = in_order of_number n ++ of_number n

-- ---- calls that are let go

-- the datagrams of a whole call
abbrev pub whole_call : Exchange → ℕ → Option (List ℕ) → List (List ℕ)
whole_call e call None = []
whole_call e call (Some message) = whole (message_out e 0 call message)

-- those of a call that an act sends, and none of another one
unfoldable pub let_go_by : Exchange → Acts → Act → ℕ → List (List ℕ)
let_go_by e acts act call = if is_sent e (more acts act) call && not (is_sent e acts call) then whole_call e call (call_at e.next (more acts act) call) else []

-- ---- what a tick sends again

-- of a message of which some segments are acknowledged, the first that isn't, which asks for an acknowledgement
abbrev pub first_open : Exchange → ℕ → ℕ → List ℕ → ℕ → List (List ℕ)
first_open e kind call message count = spelling (segment_of (message_out e kind call message) 2 (count + 1)) ∷ []

-- of a call that was sent and whose return hasn't arrived: the first open segment, or the probe where it is acknowledged whole
abbrev pub call_again : Exchange → Acts → ℕ → Option (List ℕ) → List (List ℕ)
call_again e acts call None = []
call_again e acts call (Some message) =
    if is_sent e acts call && not (has_arrived (taken_by e acts) 1 call)
    then (if call_is_whole e.next acts (taken_by e acts) call
    then spelling (probe e.format 0 (segment_count message) call) ∷ []
    else first_open e 0 call message (reached_in (taken_by e acts) 0 call (segment_count message)))
    else []

-- of a return that isn't acknowledged whole: the first open segment
abbrev pub return_again : Exchange → Acts → ℕ → Option (List ℕ) → List (List ℕ)
return_again e acts call None = []
return_again e acts call (Some message) =
    if return_is_whole acts (taken_by e acts) call
    then []
    else first_open e 1 call message (reached_in (taken_by e acts) 1 call (segment_count message))

-- first what the calls need, and then what the returns need, by number: the numbers are below 2 ^ 32
unfoldable pub again_after : Exchange → Acts → List (List ℕ)
again_after e acts =
    in_order (λ call. call_again e acts call (call_at e.next acts call)) (e.next + calls_made acts)
    ++ in_order (λ call. return_again e acts call (return_at acts call)) (2 ^ 32)

-- ---- what each act sends

-- what an act sends after these: a call and a segment send the calls that they let go, and a segment that is taken is acknowledged before that
unfoldable pub outputs : Exchange → Acts → Act → List (List ℕ)
outputs e acts (Call message) = in_order (let_go_by e acts (Call message)) (e.next + calls_made (more acts (Call message)))
outputs e acts (Return call message) = whole (message_out e 1 call message)
outputs e acts (Came s) =
    (if takes_after e acts s && not (is_acknowledgement s) then acknowledged_by (is_stopped_after acts) (taken_by e acts) s else [])
    ++ in_order (let_go_by e acts (Came s)) (e.next + calls_made acts)
outputs e acts Tick = again_after e acts
outputs e acts Stop = []
