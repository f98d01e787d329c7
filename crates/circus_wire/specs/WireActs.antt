-- What happened at the pairs of a node, oldest first, and what of it happened at each of them.
use Rattle.std.specs.Prelude.{ℕ, ◌+◌, Bool, not, ◌&&◌, List, Option, None, Some, is_some, ◌==◌, if◌then◌else◌}
use Rattle.circus_segment.specs.Segment.{Piece}
use Rattle.circus_exchange.specs.declared.exchange.Exchange.{Exchange}
use Rattle.circus_pair.specs.Taken.{has_arrived}
use Rattle.circus_pair.specs.Acts.{Act, Call, Return, Came, Tick, Stop, Acts, none_yet, taken_by}
use Rattle.circus_pair.specs.Handed.{calls_made, return_at}
use Rattle.circus_pair.specs.Lawful.{is_stopped_after}
use Rattle.circus_pair.specs.TwoEnds.{with_act}
use Rattle.circus_value.specs.declared.caller.Caller.{Caller}

-- a call to a node is handed over for a purpose, a return is handed over to a caller, a datagram of a node comes that is a segment, a tick comes, a node is declared down; an act that names no other node is none at every pair
pub data WireAct (P : Type 0) : Type 0 where
  CallTo : (to : ℕ) → (message : List ℕ) → (purpose : P) → WireAct P
  AnswerTo : (caller : Caller) → (message : List ℕ) → WireAct P
  CameFrom : (from : ℕ) → (segment : Piece) → WireAct P
  TickAll : WireAct P
  StopOf : (node : ℕ) → WireAct P

pub data WireActs (P : Type 0) : Type 0 where
  begun : WireActs P
  followed_by : WireActs P → WireAct P → WireActs P

-- a call has arrived whole at a pair that began as e, and has had no return
abbrev pub awaits_after : Exchange → Acts → ℕ → Bool
awaits_after e acts call = has_arrived (taken_by e acts) 0 call && not (is_some (return_at acts call))

module _ {P : Type 0} where
  -- what an act is at the pair with a node, after what has happened there: an answer is none where its call awaits no return, and a tick where the node was declared down
  abbrev pub act_at : Exchange → ℕ → Acts → WireAct P → Option Act
  act_at e node acts (CallTo to message purpose) = if to == node then Some (Call message) else None
  act_at e node acts (AnswerTo caller message) = if caller.node == node && awaits_after e acts caller.number then Some (Return caller.number message) else None
  act_at e node acts (CameFrom from s) = if from == node then Some (Came s) else None
  act_at e node acts TickAll = if is_stopped_after acts then None else Some Tick
  act_at e node acts (StopOf down) = if down == node then Some Stop else None

  -- what has happened at the pair with a node, which began as e
  abbrev pub acts_at : Exchange → ℕ → WireActs P → Acts
  acts_at e node begun = none_yet
  acts_at e node (followed_by acts act) = with_act (acts_at e node acts) (act_at e node (acts_at e node acts) act)

  -- how many calls to a node were handed over
  unfoldable pub made_to : ℕ → WireActs P → ℕ
  made_to node begun = 0
  made_to node (followed_by acts (CallTo to message purpose)) = if to == node then made_to node acts + 1 else made_to node acts
  made_to node (followed_by acts act) = made_to node acts

  -- what the call of a number to a node was made for
  abbrev pub purpose_of : Exchange → ℕ → WireActs P → ℕ → Option P
  purpose_of e node begun number = None
  purpose_of e node (followed_by acts (CallTo to message purpose)) number = if to == node && (number == e.next + calls_made (acts_at e node acts)) then Some purpose else purpose_of e node acts number
  purpose_of e node (followed_by acts act) number = purpose_of e node acts number

  -- what it was made for, where its return has not arrived
  abbrev pub purpose_kept : Exchange → ℕ → WireActs P → ℕ → Option P
  purpose_kept e node acts number = if has_arrived (taken_by e (acts_at e node acts)) 1 number then None else purpose_of e node acts number
