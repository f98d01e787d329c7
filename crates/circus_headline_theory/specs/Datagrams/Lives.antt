-- What has happened at the pairs of a node by itself, and the step that it takes next.
use Rattle.std.specs.Prelude.{◌≡◌, ◌≢◌, ℕ, ◌<◌, Bool, true, false, List, [], ◌∷◌, length, All, Some, Ok, Err, slice_get}
use Rattle.circus_value.specs.ValueTree.{ValueTree}
use Rattle.circus_value.specs.declared.outcome.Outcome.{Outcome}
use Rattle.circus_collate.specs.declared.deployment.Deployment.{Deployment}
use Rattle.circus_collate.specs.declared.deployment.Troupe.{Troupe}
use Rattle.circus_ring.specs.RingTable.{boot_views}
use Rattle.circus_model.specs.NextTurn.{NextTurn}
use Rattle.circus_model.specs.declared.signature.Signature.{Signature}
use Rattle.circus_record.specs.declared.record.MemberRecord.{MemberRecord}
use Rattle.circus_wire.specs.WireActs.{WireActs, begun}
use Rattle.circus_member_rules.specs.declared.occurrence.Purpose.{Purpose}
use Rattle.circus_node.specs.Accepting.{troupe_at}
use Rattle.circus_node.specs.Booting.{beginning_in, home_in}
use Rattle.circus_node.specs.NodeState.{NodeState, member_record}
use Rattle.circus_node.specs.Step.{Ended, step_node}
use Rattle.circus_node.specs.declared.event.Event.{Event}
use Rattle.circus_node.specs.declared.event.Event.TheVariants as comes
use Rattle.circus_node.specs.declared.event.Give.{Give}
use Rattle.circus_node.specs.declared.event.Outputs.{Outputs}
use Rattle.circus_world_theory.specs.NodeActs.{with_all, acts_in, acts_at_boot}
use Rattle.circus_world_theory.specs.Histories.{beginning_of}
use Rattle.circus_member_theory.specs.Past.{Past, booted}
use Rattle.circus_member_theory.specs.Living.{phase_at_boot}
use Rattle.circus_world_theory.specs.Happened.{happens_by, with_one}
use Rattle.circus_world_theory.specs.NodeLives.{Events, IsOfBytes, past_behind, IsLife}
use Rattle.circus_headline_theory.specs.Datagrams.TrueDatagram.{IsJustified}

-- what comes is of another node of the program, or says of one that it is down
abbrev pub IsOfOther : Deployment → ℕ → Event → Type 0
IsOfOther d own (comes.Datagram from bytes) = (from ≢ own) × (from < length d.nodes)
IsOfOther d own comes.Tick = Unit {0}
IsOfOther d own (comes.Down node) = (node ≢ own) × (node < length d.nodes)
IsOfOther d own comes.Join = Unit {0}

abbrev pub is_tick : Event → Bool
is_tick (comes.Datagram from bytes) = false
is_tick comes.Tick = true
is_tick (comes.Down node) = false
is_tick comes.Join = false

-- behind events, the last step; the first comes behind this one
abbrev pub last_step : ℕ → Events → ℕ
last_step step [] = step
last_step step (next ∷ events) = last_step next.0 events

module _ {M X : Type 0} where
  -- and then what others give, from the node on that a step came to, if it came to one
  abbrev pub with_rest : (NodeState M → X) → X → Ended M → X
  with_rest others given (Ok ended) = others ended.0
  with_rest others given (Err node) = given

module _ {M : Type 0} (declared : M → Signature) (turn : M → List ValueTree → ℕ → List ValueTree → List Outcome → NextTurn) where
  -- what has happened at the pairs behind events, as far as they are stepped
  abbrev pub with_events : WireActs Purpose → Events → NodeState M → WireActs Purpose
  with_events acts [] n = acts
  with_events acts (next ∷ events) n =
      with_rest (with_events (with_all acts (acts_in declared turn next.0 next.1 n)) events) acts (step_node declared turn next.0 next.1 n)

module _ {M : Type 0} (declared : M → Signature) (turn : M → List ValueTree → ℕ → List ValueTree → List Outcome → NextTurn) (first : M → List ValueTree)
    (d : Deployment) (own : M) (node : ℕ) where
  -- at boot, and behind events from then on
  abbrev pub boot_acts : WireActs Purpose
  boot_acts = with_all begun (acts_at_boot declared turn first d (Some own) node)

  abbrev pub acts_behind : Events → NodeState M → WireActs Purpose
  acts_behind events n = with_events declared turn boot_acts events n

  -- it takes one step more, by what comes from another node
  pub record IsNext (events : Events) (begun before : NodeState M) (step : ℕ) (event : Event) (ended : NodeState M × Outputs) : Type 0 where
    pub life : IsLife declared turn first d own node events begun before
    pub others : All (λ (e : ℕ × Event). IsOfOther d node e.1) events
    pub later : last_step 0 events < step
    pub octets : IsOfBytes event
    pub other : IsOfOther d node event
    pub ends : step_node declared turn step event before ≡ Ok ended

  -- ---- what its member sends is justified

  -- by its record at the end of the step, what happened to it, and what happened at its pairs
  abbrev pub AreJustified : MemberRecord → Past → WireActs Purpose → Bool → List Give → Type 0
  AreJustified kept p acts ticks gives =
      (number : ℕ) (troupe : Troupe) → troupe_at d node ≡ Some number → slice_get d.troupes number ≡ Some troupe
      → All (IsJustified (home_in d node number troupe).place (boot_views d.troupes) (phase_at_boot (beginning_in troupe node)) (first own) kept p (beginning_of d node) acts ticks) gives

  -- at boot
  abbrev pub BootIsJustified : NodeState M → Outputs → Type 0
  BootIsJustified n outputs = (kept : MemberRecord) → member_record n.acting ≡ Some kept → AreJustified kept booted boot_acts false outputs.gives

  -- and in a step
  abbrev pub StepIsJustified : Events → NodeState M → NodeState M → ℕ → Event → NodeState M × Outputs → Type 0
  StepIsJustified events n before step event ended =
      (kept : MemberRecord) → member_record ended.0.acting ≡ Some kept
      → AreJustified kept (with_one (past_behind declared turn events n) step (happens_by declared event before)) (with_all (acts_behind events n) (acts_in declared turn step event before)) (is_tick event)
      ended.1.gives
