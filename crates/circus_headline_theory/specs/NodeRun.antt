-- When a trace and a record are a run of a node: whatever came to it, its member did what it may, in time, made what it owes, and
-- its pairs sent what they owe.
use Rattle.std.specs.Prelude.{ℕ, ◌≡◌, ◌==◌, if◌then◌else◌, List, [], Option, None, Some, length, option_map, option_and_then}
use Rattle.circus_value.specs.ValueTree.{ValueTree}
use Rattle.circus_segment.specs.Segment.{reading}
use Rattle.circus_collate.specs.declared.deployment.Deployment.{Deployment}
use Rattle.circus_collate.specs.declared.deployment.Troupe.{Troupe}
use Rattle.circus_transfer.specs.declared.joiner.Joiner.{Joiner}
use Rattle.circus_ring.specs.RingTable.{boot_views}
use Rattle.circus_model.specs.Behaviour.{Behaviour}
use Rattle.circus_model.specs.declared.signature.Signature.{Signature}
use Rattle.circus_record.specs.declared.record.MemberRecord.{MemberRecord}
use Rattle.circus_performing.specs.Performing.{is_active}
use Rattle.circus_performing.specs.Record.{IsRecord}
use Rattle.circus_wire.specs.WireActs.{WireActs}
use Rattle.circus_wire.specs.declared.delivery.Heard.{Heard}
use Rattle.circus_member_rules.specs.declared.place.Place.{Place}
use Rattle.circus_member_rules.specs.declared.occurrence.Effect.{Effect}
use Rattle.circus_member_rules.specs.declared.occurrence.Occurrence.{Occurrence}
use Rattle.circus_member_rules.specs.declared.occurrence.Occurrence.TheVariants as occurs
use Rattle.circus_member_rules.specs.declared.occurrence.Purpose.{Purpose}
use Rattle.circus_node.specs.Accepting.{recorded_ask, return_by, occurrence_by}
use Rattle.circus_node.specs.Booting.{beginning_in, home_in}
use Rattle.circus_node.specs.declared.event.Event.{Event}
use Rattle.circus_node.specs.declared.event.Event.TheVariants as comes
use Rattle.circus_world_theory.specs.Histories.{beginning_of}
use Rattle.circus_member_theory.specs.Past.{Past, booted, snapshot_fetched}
use Rattle.circus_member_theory.specs.First.{first_given}
use Rattle.circus_member_theory.specs.Timely.{IsTimely}
use Rattle.circus_member_theory.specs.Living.{phase_at_boot}
use Rattle.circus_member_theory.specs.Order.{IsInOrder}
use Rattle.circus_member_theory.specs.Snapshots.{began}
use Rattle.circus_world_theory.specs.Happened.{with_one}
use Rattle.circus_headline_theory.specs.Owed.Owes.{MakesWhatIsOwed}
use Rattle.circus_node.specs.Trace as trace
use Rattle.circus_headline_theory.specs.Trace.{made_of, told_of, acts_of, heard_in, SendsWhatIsOwed}
use Rattle.circus_node.specs.Trace.{Trace}

-- ---- what is accepted, by the record of the member in the end: an ask of a name is looked up there, and not among the asks that are
-- open then, as where a node decides it (circus_node/specs/Accepting.antt)

-- a return of a node to a call that was made for a purpose
abbrev pub accepted_return : Deployment → Signature → MemberRecord → ℕ → Purpose → List ℕ → Option Occurrence
accepted_return d declared kept from purpose message = return_by d declared (recorded_ask kept) from purpose message

-- what happens to a member of a troupe by what its node hears of another one
abbrev pub occurrence_by_record : Deployment → Signature → ℕ → MemberRecord → ℕ → Heard Purpose → Option Occurrence
occurrence_by_record d declared own kept from heard = occurrence_by d declared (recorded_ask kept) own from heard

-- and by what comes to it
abbrev pub happens_by : Deployment → Signature → ℕ → ℕ → MemberRecord → WireActs Purpose → Event → Option Occurrence
happens_by d declared node own kept acts (comes.Datagram from bytes) =
    occurrence_by_record d declared own kept from (heard_in (beginning_of d node) acts from (reading bytes))
happens_by d declared node own kept acts comes.Tick = None
happens_by d declared node own kept acts (comes.Down other) = Some (occurs.Declared other)
happens_by d declared node own kept acts comes.Join = Some occurs.Joins

-- ---- a member of a troupe, at a node of a program

module _ (d : Deployment) (b : Behaviour) (node number : ℕ) (troupe : Troupe) where
  abbrev pub place : Place
  place = (home_in d node number troupe).place

  abbrev pub begins : Joiner
  begins = phase_at_boot (beginning_in troupe node)

  -- what happened to the member
  abbrev pub past_of : MemberRecord → Trace → Past
  past_of kept (trace.booted made outputs) = booted
  past_of kept (trace.stepped t at event made outputs) =
      with_one (past_of kept t) at
      (happens_by d b.declared node number kept (acts_of (beginning_of d node) t) event)

  -- the state with which the member became active: that of the first snapshot that came to it as a spare, else the first one of its module
  abbrev pub state_at_activation : MemberRecord → Trace → List ValueTree
  state_at_activation kept t = began begins b.first (past_of kept t)

  -- one run is entered at boot where the member is a founder of a root
  abbrev pub runs_at_boot : ℕ
  runs_at_boot = if is_active begins then (if b.declared.root then 1 else 0) else 0

  -- what is made of an occurrence stands in its order; where nothing happens nothing is made. (At boot calls of one ask are made alone,
  -- which stand as they are owed)
  abbrev pub IsOrderedFor : MemberRecord → Past → ℕ → List Effect → Option Occurrence → Type 0
  IsOrderedFor kept p at made None = made ≡ []
  IsOrderedFor kept p at made (Some o) = IsInOrder place (boot_views d.troupes) begins b.first kept p at o made

  abbrev pub IsOrdered : MemberRecord → Trace → Type 0
  IsOrdered kept (trace.booted made outputs) = Unit {0}
  IsOrdered kept (trace.stepped t at event made outputs) =
      IsOrdered kept t
      × IsOrderedFor kept (past_of kept t) at made
      (happens_by d b.declared node number kept (acts_of (beginning_of d node) t) event)

  pub record IsNodeRun (t : Trace) (kept : MemberRecord) : Type 0 where
    -- each start, answer and activation came in the first step that allows it, and what may come has come
    pub timely : IsTimely place (boot_views d.troupes) begins b.declared.procedures runs_at_boot kept (past_of kept t)
    -- one that took no state performs from the first call on, since boot
    pub from_first : first_given (snapshot_fetched begins) (past_of kept t) ≡ None → (kept.from ≡ 0) × (kept.active_at ≡ 0)
    -- runs, asks, outcomes and states are turns of the module on the replies so far, from the state with which it became active; one
    -- that isn't active has done nothing
    pub follows : IsRecord b (state_at_activation kept t) kept
    -- what it made and told are what it owes, and what differed
    pub makes : MakesWhatIsOwed d node number troupe b.first kept (past_of kept t) (made_of t) (told_of t)
    pub ordered : IsOrdered kept t
    -- and what was sent is what the pairs owe
    pub sends : SendsWhatIsOwed (beginning_of d node) t
