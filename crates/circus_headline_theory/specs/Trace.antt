-- What stands in a trace, what may come, and what happened at the pairs of the node by it: what was handed over, what is heard, and what
-- is owed.
use Rattle.std.specs.Prelude.{ℕ, ◌≡◌, ◌<◌, ◌&&◌, not, if◌then◌else◌, List, [], ◌∷◌, ◌++◌, Result, Ok, Err}
use Rattle.std.specs.List.{flat_map}
use Rattle.circus_segment.specs.Segment.{Piece}
use Rattle.circus_segment.specs.declared.fault.SegmentFault.{SegmentFault}
use Rattle.circus_collate.specs.declared.deployment.Deployment.{Deployment}
use Rattle.circus_pair.specs.Lawful.{is_stopped_after}
use Rattle.circus_wire.specs.Wire.{Beginning}
use Rattle.circus_wire.specs.WireActs.{WireAct, WireActs, begun, followed_by, CallTo, AnswerTo, CameFrom, TickAll, StopOf, acts_at}
use Rattle.circus_wire.specs.WireStanding.{pair_of, owed_to, ticks_owed, suspects_owed, heard_after}
use Rattle.circus_wire.specs.declared.delivery.Heard.{Heard}
use Rattle.circus_wire.specs.declared.delivery.Heard.TheVariants.{Dropped}
use Rattle.circus_member_rules.specs.declared.occurrence.Difference.{Difference}
use Rattle.circus_member_rules.specs.declared.occurrence.Effect.{Effect}
use Rattle.circus_member_rules.specs.declared.occurrence.Effect.TheVariants as makes
use Rattle.circus_member_rules.specs.declared.occurrence.Purpose.{Purpose}
use Rattle.circus_node.specs.Trace.{Trace, booted, stepped}
use Rattle.circus_node.specs.Sending.{gives_of, is_sendable}
use Rattle.circus_node.specs.declared.event.Event.{Event}
use Rattle.circus_node.specs.declared.event.Event.TheVariants as comes
use Rattle.circus_node.specs.declared.event.Give.{Give}
use Rattle.circus_world_theory.specs.NodeActs.{with_all, came_by}
use Rattle.circus_headline_theory.specs.Owed.Living.{made_in, told_in}
use Rattle.circus_world_theory.specs.NodeLives.{Events, IsOfBytes}
use Rattle.circus_headline_theory.specs.Datagrams.Lives.{IsOfOther}

-- ---- what stands in it, each with its step

abbrev pub events_of : Trace → Events
events_of (booted made outputs) = []
events_of (stepped t at event made outputs) = events_of t ++ (at, event) ∷ []

-- the calls and returns that were made
abbrev pub made_of : Trace → List (ℕ × Effect)
made_of (booted made outputs) = made_in 0 made
made_of (stepped t at event made outputs) = made_of t ++ made_in at made

-- the differences that were told
abbrev pub told_of : Trace → List (ℕ × Difference)
told_of (booted made outputs) = told_in 0 outputs.differences
told_of (stepped t at event made outputs) = told_of t ++ told_in at outputs.differences

-- ---- what may come

-- its last step
abbrev pub now : Trace → ℕ
now (booted made outputs) = 0
now (stepped t at event made outputs) = at

-- steps rise
abbrev pub Rises : Trace → Type 0
Rises (booted made outputs) = Unit {0}
Rises (stepped t at event made outputs) = Rises t × (now t < at)

-- what came is of other nodes of the program, and says of others that they are down; datagrams are bytes
abbrev pub ComesFromOthers : Deployment → ℕ → Trace → Type 0
ComesFromOthers d node (booted made outputs) = Unit {0}
ComesFromOthers d node (stepped t at event made outputs) =
    ComesFromOthers d node t × IsOfOther d node event × IsOfBytes event

-- of a node whose pairs began so
module _ (b : Beginning) where
  -- ---- at the pairs

  -- what was made is handed over: a call to a node that isn't down, and a return
  abbrev pub handed_over : WireActs Purpose → Effect → List (WireAct Purpose)
  handed_over acts (makes.Call to message purpose) =
      if not (is_stopped_after (acts_at (pair_of b) to acts)) && is_sendable b.format message
      then CallTo to message purpose ∷ []
      else []
  handed_over acts (makes.Answer caller message) =
      if is_sendable b.format message then AnswerTo caller message ∷ [] else []

  -- what happens at the pairs in a step, behind these acts: what comes, and then what is made
  abbrev pub acts_in_step : WireActs Purpose → List (WireAct Purpose) → List Effect → List (WireAct Purpose)
  acts_in_step acts came made = came ++ flat_map (handed_over (with_all acts came)) made

  -- all that has happened there
  abbrev pub acts_of : Trace → WireActs Purpose
  acts_of (booted made outputs) = with_all begun (acts_in_step begun [] made)
  acts_of (stepped t at event made outputs) =
      with_all (acts_of t) (acts_in_step (acts_of t) (came_by event) made)

  -- what is owed for an act
  abbrev pub gives_for : WireActs Purpose → WireAct Purpose → List Give
  gives_for acts (CallTo to message purpose) = gives_of (owed_to b acts (CallTo to message purpose) to)
  gives_for acts (AnswerTo caller message) = gives_of (owed_to b acts (AnswerTo caller message) caller.node)
  gives_for acts (CameFrom from s) = gives_of (owed_to b acts (CameFrom from s) from)
  gives_for acts TickAll = flat_map gives_of (ticks_owed b acts)
  gives_for acts (StopOf node) = []

  -- and for acts, one behind the other
  abbrev pub gives_for_all : WireActs Purpose → List (WireAct Purpose) → List Give
  gives_for_all acts [] = []
  gives_for_all acts (act ∷ others) = gives_for acts act ++ gives_for_all (followed_by acts act) others

  -- whom a step suspects
  abbrev pub suspects_in : WireActs Purpose → Event → List ℕ
  suspects_in acts (comes.Datagram from bytes) = []
  suspects_in acts comes.Tick = suspects_owed b acts
  suspects_in acts (comes.Down node) = []
  suspects_in acts comes.Join = []

  -- what is heard of a datagram of a node
  abbrev pub heard_in : WireActs Purpose → ℕ → Result Piece SegmentFault → Heard Purpose
  heard_in acts from (Ok s) = heard_after b acts from s
  heard_in acts from (Err fault) = Dropped

  -- the pairs send in each step what they owe for what comes and what is made, in order, and suspect whom they are to
  abbrev pub SendsWhatIsOwed : Trace → Type 0
  SendsWhatIsOwed (booted made outputs) =
      (outputs.gives ≡ gives_for_all begun (acts_in_step begun [] made)) × (outputs.suspects ≡ [])
  SendsWhatIsOwed (stepped t at event made outputs) =
      SendsWhatIsOwed t
      × (outputs.gives ≡ gives_for_all (acts_of t) (acts_in_step (acts_of t) (came_by event) made))
      × (outputs.suspects ≡ suspects_in (acts_of t) event)
