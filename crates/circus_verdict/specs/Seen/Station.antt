-- The pairs of a node of a program: what happened at them, what comes of an event there, and what is made of it.
use Rattle.std.specs.Prelude.{◌≡◌, ◌⊎◌, ℕ, ◌-◌, ◌<◌, ◌≤◌, Bool, true, false, List, [], length, Result, Ok, Err}
use Rattle.std.specs.List.{flat_map}
use Rattle.circus_segment.specs.Segment.{reading}
use Rattle.circus_collate.specs.declared.deployment.Deployment.{Deployment}
use Rattle.circus_exchange.specs.Limits.{never_used}
use Rattle.circus_wire.specs.Wire.{WireState, IsOther, after_datagram, sent_by_datagram, heard_from, all_ticked, sent_by_tick, suspected_by_tick, stopped_at}
use Rattle.circus_wire.specs.WireActs.{WireAct, WireActs, made_to}
use Rattle.circus_wire.specs.WireStanding.{WireStands}
use Rattle.circus_wire.specs.declared.delivery.Heard.{Heard}
use Rattle.circus_wire.specs.declared.delivery.Heard.TheVariants.{Taken}
use Rattle.circus_member_rules.specs.declared.occurrence.Difference.{Difference}
use Rattle.circus_member_rules.specs.declared.occurrence.Effect.{Effect}
use Rattle.circus_member_rules.specs.declared.occurrence.Purpose.{Purpose}
use Rattle.circus_node.specs.Sending.{gives_of}
use Rattle.circus_node.specs.declared.event.Event.{Event}
use Rattle.circus_node.specs.declared.event.Event.TheVariants.{Datagram, Tick, Down, Join}
use Rattle.circus_node.specs.declared.event.Give.{Give}
use Rattle.circus_node.specs.declared.event.StepFault.{StepFault}
use Rattle.circus_node.specs.declared.event.StepFault.TheVariants as fault
use Rattle.circus_world_theory.specs.Histories.{beginning_of}
use Rattle.circus_world_theory.specs.NodeActs.{with_all, came_by}
use Rattle.circus_headline_theory.specs.Peers.{ComeOfPeers}
use Rattle.circus_headline_theory.specs.Trace.{acts_in_step, gives_for_all, suspects_in, heard_in}
use Rattle.circus_audit.specs.declared.given.GivenEvent.{GivenEvent}
use Rattle.circus_verdict.specs.declared.station.Pairs.{Pairs}
use Rattle.circus_verdict.specs.declared.station.Came.{Came}

-- they are in one of the formats
pub record IsFormatted (p : Pairs) : Type 0 where
  pub one : (p.format ≡ 1) ⊎ (p.format ≡ 2)
  pub same : p.wire.format ≡ p.format

-- there is one with each other node of a program
pub record AreOf (d : Deployment) (node : ℕ) (p : Pairs) : Type 0 where
  pub own : p.wire.own ≡ node
  pub pairs : length p.wire.peers ≡ length d.nodes - 1

-- they are those of a node of a program, and this has happened at them
pub record StandFor (d : Deployment) (node : ℕ) (acts : WireActs Purpose) (p : Pairs) : Type 0 where
  pub stands : WireStands p.wire (beginning_of d node) acts
  pub of_peers : ComeOfPeers (beginning_of d node) acts

-- ---- an event comes

-- it is of another node
abbrev pub MayComeTo : WireState Purpose → Event → Type 0
MayComeTo w (Datagram from bytes) = IsOther w from
MayComeTo w Tick = Unit {0}
MayComeTo w (Down node) = IsOther w node
MayComeTo w Join = Unit {0}

-- what comes of it, by what the pairs know
abbrev pub nothing_came : Came
nothing_came = record { gives = []; suspects = []; heard = Taken }

abbrev pub datagram_came : WireState Purpose → ℕ → List ℕ → Came
datagram_came w from bytes =
    record {
      gives = gives_of (sent_by_datagram w from (reading bytes));
      suspects = [];
      heard = heard_from w from (reading bytes);
    }

abbrev pub tick_came : WireState Purpose → Came
tick_came w = record { gives = flat_map gives_of (sent_by_tick w); suspects = suspected_by_tick w; heard = Taken }

abbrev pub came_to : WireState Purpose → Event → Came
came_to w (Datagram from bytes) = datagram_came w from bytes
came_to w Tick = tick_came w
came_to w (Down node) = nothing_came
came_to w Join = nothing_came

-- and the pairs then
abbrev pub behind_datagram : WireState Purpose → ℕ → List ℕ → WireState Purpose
behind_datagram w from bytes = after_datagram w from (reading bytes)

abbrev pub behind_tick : WireState Purpose → WireState Purpose
behind_tick w = all_ticked w

abbrev pub wire_behind : WireState Purpose → Event → WireState Purpose
wire_behind w (Datagram from bytes) = behind_datagram w from bytes
wire_behind w Tick = behind_tick w
wire_behind w (Down node) = stopped_at w node
wire_behind w Join = w

-- what is heard of an event, by what has happened
abbrev pub heard_of : Deployment → ℕ → WireActs Purpose → Event → Heard Purpose
heard_of d node acts (Datagram from bytes) = heard_in (beginning_of d node) acts from (reading bytes)
heard_of d node acts Tick = Taken
heard_of d node acts (Down other) = Taken
heard_of d node acts Join = Taken

-- what comes of an event is what is owed
pub record IsOwed (d : Deployment) (node : ℕ) (acts : WireActs Purpose) (event : Event) (came : Came) : Type 0 where
  pub gives : came.gives ≡ gives_for_all (beginning_of d node) acts (came_by event)
  pub suspects : came.suspects ≡ suspects_in (beginning_of d node) acts event
  pub heard : came.heard ≡ heard_of d node acts event

-- ---- what is made is handed over

-- behind what came: the pairs stand for the step, this was sent in it, and each call had a number
pub record IsStep (d : Deployment) (node : ℕ) (acts : WireActs Purpose) (came : List (WireAct Purpose)) (made : List Effect) (p : Pairs) (gives : List Give) : Type 0 where
  pub stand : StandFor d node (with_all acts (acts_in_step (beginning_of d node) acts came made)) p
  pub gives_are : gives ≡ gives_for_all (beginning_of d node) acts (acts_in_step (beginning_of d node) acts came made)
  pub numbers : (to : ℕ) → made_to to (with_all acts (acts_in_step (beginning_of d node) acts came made)) ≤ never_used

-- else a node is named to which there were more calls than numbers
abbrev pub IsHanded : {A : Type 0} → Deployment → ℕ → WireActs Purpose → List (WireAct Purpose) → List Effect → Result A StepFault → Pairs → List Give → Type 0
IsHanded d node acts came made (Ok _) p gives = IsStep d node acts came made p gives
IsHanded d node acts came made (Err (fault.Spent to)) p gives =
    never_used < made_to to (with_all acts (acts_in_step (beginning_of d node) acts came made))
IsHanded d node acts came made (Err fault.NoMemory) p gives = Unit {0}

-- whether each call of what is made has a number
abbrev pub IsHandedOver : Deployment → ℕ → WireActs Purpose → List (WireAct Purpose) → List Effect → Pairs → List Give → Bool → Type 0
IsHandedOver d node acts came made p gives true = IsStep d node acts came made p gives
IsHandedOver d node acts came made p gives false = ((to : ℕ) → made_to to (with_all acts (acts_in_step (beginning_of d node) acts came made)) ≤ never_used) → ⊥

-- ---- what a record tells of an event

-- behind what came this was made, which differed so: each call has a number, and the record tells what was sent and what differed
pub record IsToldOf (d : Deployment) (node : ℕ) (acts : WireActs Purpose) (came : List (WireAct Purpose)) (made : List Effect) (differ : List Difference) (told : GivenEvent) : Type 0 where
  pub numbers : (to : ℕ) → made_to to (with_all acts (acts_in_step (beginning_of d node) acts came made)) ≤ never_used
  pub gives : told.gives ≡ gives_for_all (beginning_of d node) acts (acts_in_step (beginning_of d node) acts came made)
  pub differences : told.differences ≡ differ

-- then the pairs stand for the step
pub record IsToldRightly (d : Deployment) (node : ℕ) (acts : WireActs Purpose) (came : List (WireAct Purpose)) (made : List Effect) (differ : List Difference) (told : GivenEvent) (p : Pairs) : Type 0 where
  pub is : IsToldOf d node acts came made differ told
  pub stand : StandFor d node (with_all acts (acts_in_step (beginning_of d node) acts came made)) p

abbrev pub TellsOf : Deployment → ℕ → WireActs Purpose → List (WireAct Purpose) → List Effect → List Difference → GivenEvent → Pairs → Bool → Type 0
TellsOf d node acts came made differ told p true = IsToldRightly d node acts came made differ told p
TellsOf d node acts came made differ told p false = IsToldOf d node acts came made differ told → ⊥
