-- When a trace and a record are a run of a node, step by step: what is to be found in each step of the trace, and what of the whole.
use Rattle.std.specs.Prelude.{◌≡◌, ℕ, ◌<◌, ◌⊎◌, false, List, [], Option, None, Some, IsSomeAnd, slice_get}
use Rattle.circus_value.specs.ValueTree.{ValueTree}
use Rattle.circus_collate.specs.declared.deployment.Deployment.{Deployment}
use Rattle.circus_collate.specs.declared.deployment.Troupe.{Troupe}
use Rattle.circus_collate.specs.declared.view.View.{View}
use Rattle.circus_ring.specs.RingTable.{boot_views}
use Rattle.circus_transfer.specs.declared.joiner.Joiner.{Joiner}
use Rattle.circus_model.specs.Behaviour.{Behaviour}
use Rattle.circus_record.specs.declared.record.MemberRecord.{MemberRecord}
use Rattle.circus_performing.specs.Performing.{is_active}
use Rattle.circus_performing.specs.Record.{IsRecord}
use Rattle.circus_member_rules.specs.declared.place.Place.{Place}
use Rattle.circus_member_rules.specs.declared.occurrence.Difference.{Difference}
use Rattle.circus_member_rules.specs.declared.occurrence.Effect.{Effect}
use Rattle.circus_member_rules.specs.declared.occurrence.Occurrence.{Occurrence}
use Rattle.circus_node.specs.Booting.{beginning_in, home_in}
use Rattle.circus_node.specs.Trace as trace
use Rattle.circus_node.specs.Trace.{Trace}
use Rattle.circus_node.specs.declared.event.Event.{Event}
use Rattle.circus_node.specs.declared.event.Outputs.{Outputs}
use Rattle.circus_member_theory.specs.Differences.{differences_now}
use Rattle.circus_member_theory.specs.First.{first_given}
use Rattle.circus_member_theory.specs.Living.{phase_at_boot}
use Rattle.circus_member_theory.specs.Past.{Past, booted, followed, phase, snapshot_fetched}
use Rattle.circus_member_theory.specs.Timely.{IsMain}
use Rattle.circus_world_theory.specs.Histories.{beginning_of}
use Rattle.circus_headline_theory.specs.NodeRun.{happens_by, past_of, state_at_activation, runs_at_boot, IsOrderedFor}
use Rattle.circus_headline_theory.specs.Owed.OrderedMakes.{BeginsRight}
use Rattle.circus_headline_theory.specs.Trace.{acts_of, SendsWhatIsOwed}
use Rattle.circus_dues.specs.Walk.{IsTimelyStep, IsWithin}

-- of a member of a troupe, at a node of a program, that has this record in the end
module _ (d : Deployment) (b : Behaviour) (node number : ℕ) (troupe : Troupe) (kept : MemberRecord) where
  abbrev pub here : Place
  here = (home_in d node number troupe).place

  abbrev pub known : List View
  known = boot_views d.troupes

  abbrev pub begins : Joiner
  begins = phase_at_boot (beginning_in troupe node)

  abbrev pub at_boot : ℕ
  at_boot = runs_at_boot d b node number troupe

  abbrev pub lived : Trace → Past
  lived t = past_of d b node number troupe kept t

  -- what happens to it by an event, behind a trace
  abbrev pub happens : Trace → Event → Option Occurrence
  happens t event = happens_by d b.declared node number kept (acts_of (beginning_of d node) t) event

  abbrev pub IsTimelyAt : Past → Type 0
  IsTimelyAt p = IsTimelyStep here known begins b.declared.procedures at_boot kept p

  -- ---- boot

  -- the first calls of the asks of boot were made, and nothing else; nothing differed; and it was in time
  pub record BootsSo (made : List Effect) (outputs : Outputs) : Type 0 where
    pub made_so : BeginsRight here known kept made
    pub told_so : outputs.differences ≡ []
    pub timely : IsTimelyAt booted

  -- ---- a step, behind a past

  -- what is told is what differs, and nothing where nothing happens
  abbrev pub TellsFor : Past → ℕ → List Difference → Option Occurrence → Type 0
  TellsFor p at told None = told ≡ []
  TellsFor p at told (Some o) = told ≡ differences_now here known kept (followed p at o)

  -- what happens makes a step that is in time
  abbrev pub IsTimelyFor : Past → ℕ → Option Occurrence → Type 0
  IsTimelyFor p at None = Unit {0}
  IsTimelyFor p at (Some o) = IsTimelyAt (followed p at o)

  pub record StepsSo (p : Past) (at : ℕ) (made : List Effect) (told : List Difference) (o : Option Occurrence) : Type 0 where
    pub made_so : IsOrderedFor d b node number troupe kept p at made o
    pub told_so : TellsFor p at told o
    pub timely : IsTimelyFor p at o

  -- each step of a trace, from boot on
  abbrev pub GoesSo : Trace → Type 0
  GoesSo (trace.booted made outputs) = BootsSo made outputs
  GoesSo (trace.stepped t at event made outputs) = GoesSo t × StepsSo (lived t) at made outputs.differences (happens t event)

  -- ---- the end

  -- what the record says by itself of what happened, from boot to the end
  pub record EndsSo (p : Past) : Type 0 where
    -- each run that is entered at boot is there
    pub boots : (place : ℕ) → place < at_boot → IsSomeAnd (slice_get kept.runs place) (IsMain here.troupe known)
    -- what it says came in the steps that there were
    pub within : IsWithin here known begins b.declared.procedures at_boot kept p
    pub phase_is : kept.phase ≡ phase begins p
    -- a spare is active from the first step in which it has a state, with that; one that took none performs from the first call on, since boot
    pub active : is_active begins ≡ false
        → (step : ℕ) (state : List ValueTree) (count : ℕ)
        → first_given (snapshot_fetched begins) p ≡ Some (step, (state, count))
        → (kept.active_at ≡ step) × (kept.from ≡ count)
    pub from_first : first_given (snapshot_fetched begins) p ≡ None → (kept.from ≡ 0) × (kept.active_at ≡ 0)

  -- ---- all of it

  pub record IsEvaluated (t : Trace) : Type 0 where
    pub goes : GoesSo t
    pub ends : EndsSo (lived t)
    -- runs, asks, outcomes and states are turns of the module, from the state with which it became active
    pub follows : IsRecord b (state_at_activation d b node number troupe kept t) kept
    -- and what was sent is what the pairs owe
    pub sends : SendsWhatIsOwed (beginning_of d node) t

-- ---- two traces with the same events, in the same steps, for which the same was given and told

abbrev pub SaySame : Trace → Trace → Type 0
SaySame (trace.booted made outputs) (trace.booted others sent) = (outputs.gives ≡ sent.gives) × (outputs.differences ≡ sent.differences)
SaySame (trace.booted made outputs) (trace.stepped u step other others sent) = ⊥
SaySame (trace.stepped t at event made outputs) (trace.booted others sent) = ⊥
SaySame (trace.stepped t at event made outputs) (trace.stepped u step other others sent) =
    SaySame t u × (at ≡ step) × (event ≡ other) × (outputs.gives ≡ sent.gives) × (outputs.differences ≡ sent.differences)

-- a trace begins with one: it is that, or has grown from it
abbrev pub BeginsWith : Trace → Trace → Type 0
BeginsWith (trace.booted made outputs) u = u ≡ trace.booted made outputs
BeginsWith (trace.stepped t at event made outputs) u = (u ≡ trace.stepped t at event made outputs) ⊎ BeginsWith t u
