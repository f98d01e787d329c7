-- A node that lives through the events of a record as the definitions say of it, and what is found on the way.
use Rattle.std.specs.Prelude.{ℕ, ◌≡◌, ◌+◌, ◌<◌, ◌≤◌, ◌==◌, if◌then◌else◌, Bool, true, false, List, [], ◌∷◌, ◌++◌, length, Option, None, Some, IsSomeAnd, slice_get, option_and_then}
use Rattle.circus_value.specs.ValueTree.{ValueTree}
use Rattle.circus_collate.specs.Deployment.{IsDeployment}
use Rattle.circus_collate.specs.declared.deployment.Deployment.{Deployment}
use Rattle.circus_collate.specs.declared.deployment.Troupe.{Troupe}
use Rattle.circus_collate.specs.declared.view.View.{View}
use Rattle.circus_transfer.specs.declared.joiner.Joiner.{Joiner}
use Rattle.circus_transfer.specs.declared.joiner.Joiner.TheVariants.{Outside, Asking, Fetching, Active}
use Rattle.circus_model.specs.Behaviour.{Behaviour, IsModule}
use Rattle.circus_model.specs.declared.signature.Signature.{Signature}
use Rattle.circus_record.specs.declared.record.MemberRecord.{MemberRecord}
use Rattle.circus_performing.specs.Performing.{is_active}
use Rattle.circus_performing.specs.Record.{IsRecord}
use Rattle.circus_wire.specs.declared.delivery.Heard.{Heard}
use Rattle.circus_member_rules.specs.declared.occurrence.Difference.{Difference}
use Rattle.circus_member_rules.specs.declared.occurrence.Effect.{Effect}
use Rattle.circus_member_rules.specs.declared.occurrence.Occurrence.{Occurrence}
use Rattle.circus_member_rules.specs.declared.occurrence.Occurrence.TheVariants as occurs
use Rattle.circus_member_rules.specs.declared.occurrence.Purpose.{Purpose}
use Rattle.circus_member_rules.specs.declared.place.Place.{Place}
use Rattle.circus_member_theory.specs.First.{first_given}
use Rattle.circus_member_theory.specs.Past.{Past, phase, snapshot_fetched}
use Rattle.circus_member_theory.specs.Timely.{IsMain}
use Rattle.circus_node.specs.Accepting.{troupe_at}
use Rattle.circus_node.specs.Booting.{home_in, IsOfTroupe}
use Rattle.circus_node.specs.declared.home.Home.{Home}
use Rattle.circus_node.specs.declared.event.Event.{Event}
use Rattle.circus_node.specs.declared.event.Event.TheVariants as comes
use Rattle.circus_node.specs.Trace.{Trace, booted, stepped}
use Rattle.circus_world_theory.specs.Histories.{beginning_of}
use Rattle.circus_world_theory.specs.NodeLives.{IsOfBytes}
use Rattle.circus_headline_theory.specs.Datagrams.Lives.{IsOfOther}
use Rattle.circus_headline_theory.specs.NodeRun.{occurrence_by_record, state_at_activation}
use Rattle.circus_headline_theory.specs.Numbers.{HasNumbers}
use Rattle.circus_headline_theory.specs.ServedRun.{IsNumbered}
use Rattle.circus_headline_theory.specs.Trace.{ComesFromOthers, SendsWhatIsOwed, acts_of}
use Rattle.circus_audit.specs.declared.given.GivenEvent.{GivenEvent}
use Rattle.circus_dues.specs.Dues.{DuesState, IsFounded, IsInTimeSoFar, IsLawful, TellsStep}
use Rattle.circus_dues.specs.NodeRuns.{here, known, begins, at_boot, lived, GoesSo}
use Rattle.circus_dues.specs.Seen.Sound.{IsSoundOwing}
use Rattle.circus_dues.specs.Walk.{IsWithin}
use Rattle.circus_dues.specs.declared.owing.Owing.{Owing}
use Rattle.circus_verdict.specs.Audited.{events_in, Awaits}
use Rattle.circus_verdict.specs.declared.living.Lived.{Lived}
use Rattle.circus_verdict.specs.declared.station.Pairs.{Pairs}
use Rattle.circus_verdict.specs.Seen.Station.{IsFormatted, AreOf, StandFor}

-- what came in a trace, boot first
abbrev pub came_in : Trace → List (Option Event)
came_in (booted made outputs) = None ∷ []
came_in (stepped t at event made outputs) = came_in t ++ Some event ∷ []

-- ---- whose declarations are to come; none where one that was due did not come, or another one did

abbrev pub behind : ℕ → List ℕ → Option (List ℕ)
behind node [] = None
behind node (next ∷ nodes) = if next == node then Some nodes else None

abbrev pub unless_due : List ℕ → List ℕ → Option (List ℕ)
unless_due suspects [] = Some suspects
unless_due suspects (next ∷ nodes) = None

abbrev pub awaited_by : Event → List ℕ → List ℕ → Option (List ℕ)
awaited_by (comes.Down node) suspects due = behind node due
awaited_by (comes.Datagram from bytes) suspects due = unless_due suspects due
awaited_by comes.Tick suspects due = unless_due suspects due
awaited_by comes.Join suspects due = unless_due suspects due

abbrev pub awaited_in : Trace → Option (List ℕ)
awaited_in (booted made outputs) = Some outputs.suspects
awaited_in (stepped t at event made outputs) = option_and_then (awaited_by event outputs.suspects) (awaited_in t)

-- ---- what comes to a node of a program

-- it is of another node
pub record ComesSo (d : Deployment) (node : ℕ) (event : Event) : Type 0 where
  pub other : IsOfOther d node event
  pub octets : IsOfBytes event

-- whatever comes by an event of a record
abbrev pub MayCome : Deployment → ℕ → GivenEvent → Type 0
MayCome d node e = (event : Event) → e.event ≡ Some event → ComesSo d node event

abbrev pub HasCome : Deployment → ℕ → GivenEvent → Type 0
HasCome d node e = IsSomeAnd e.event (ComesSo d node)

-- ---- a step of a member

-- what happens to it by an event of which this is heard
abbrev pub happening : Deployment → Signature → ℕ → MemberRecord → Event → Heard Purpose → Option Occurrence
happening d declared own kept (comes.Datagram from bytes) heard = occurrence_by_record d declared own kept from heard
happening d declared own kept comes.Tick heard = None
happening d declared own kept (comes.Down other) heard = Some (occurs.Declared other)
happening d declared own kept comes.Join heard = Some occurs.Joins

-- where something happens its dues go on; where nothing does they are as they were, and nothing is made
pub record IsAsBefore (old new : DuesState) (made : List Effect) (differs : Option Difference) : Type 0 where
  pub same : new ≡ old
  pub none_made : made ≡ []
  pub none_differs : differs ≡ None

abbrev pub Owes : List View → Joiner → List ValueTree → ℕ → Past → ℕ → Option Occurrence → DuesState → DuesState → List Effect → Option Difference → Type 0
Owes boot phase first entered p at None old new made differs = IsAsBefore old new made differs
Owes boot phase first entered p at (Some o) old new made differs = TellsStep boot phase first entered p at o new made differs

-- ---- what a record tells of a phase, without an incarnation
abbrev pub phase_told : Joiner → Joiner
phase_told Outside = Outside
phase_told Asking = Asking
phase_told (Fetching incarnation) = Fetching 0
phase_told (Active first) = Active first

-- ---- a member of a troupe, at a node of a program

-- the node hosts one of the troupe, whose module does this
pub record IsMemberAt (d : Deployment) (b : Behaviour) (node number : ℕ) (troupe : Troupe) : Type 0 where
  pub good : IsDeployment d
  pub within : node < length d.nodes
  pub hosts : troupe_at d node ≡ Some number
  pub is_troupe : slice_get d.troupes number ≡ Some troupe
  pub lawful : IsModule b
  pub fits : IsOfTroupe d number b.declared

-- it stands here, and declares this
pub record IsOf (d : Deployment) (home : Home) (declared : Signature) (b : Behaviour) (node number : ℕ) (troupe : Troupe) : Type 0 where
  pub at : IsMemberAt d b node number troupe
  pub home_is : home ≡ home_in d node number troupe
  pub declares : declared ≡ b.declared

-- its dues, of which this is kept
abbrev pub dues_of : Place → Signature → MemberRecord → Owing → DuesState
dues_of place declared kept owing = record { place = place; signature = declared; kept = kept; owing = owing }

-- what is kept of it can be gone on with, and each of its runs has an index
pub record IsReady (d : Deployment) (home : Home) (declared : Signature) (kept : MemberRecord) (l : Lived) : Type 0 where
  pub format : IsFormatted l.pairs
  pub pairs : AreOf d home.place.node l.pairs
  pub dues_are : l.dues ≡ dues_of home.place declared kept l.dues.owing
  pub sound : IsSoundOwing declared home.place kept l.dues.owing
  pub many : length l.dues.owing.out.known.views ≡ length d.troupes
  pub few : kept.from + length kept.runs ≤ 4294967296

-- by this record, whose phase is left open
module _ (d : Deployment) (b : Behaviour) (node number : ℕ) (troupe : Troupe) (kept : MemberRecord) where
  abbrev pub through : Trace → Past
  through t = lived d b node number troupe kept t

  -- a spare is active from the first step in which it has a state, with that
  abbrev pub IsActiveSo : Past → Type 0
  IsActiveSo p =
      is_active (begins d b node number troupe kept) ≡ false
      → (step : ℕ) (state : List ValueTree) (count : ℕ)
      → first_given (snapshot_fetched (begins d b node number troupe kept)) p ≡ Some (step, (state, count))
      → (kept.active_at ≡ step) × (kept.from ≡ count)

  -- a trace and the record are a run of the node, but for the phase
  pub record IsEvaluatedIn (t : Trace) : Type 0 where
    pub goes : GoesSo d b node number troupe kept t
    pub boots : (place : ℕ) → place < at_boot d b node number troupe kept
        → IsSomeAnd (slice_get kept.runs place) (IsMain (here d b node number troupe kept).troupe (known d b node number troupe kept))
    pub within : IsWithin (here d b node number troupe kept) (known d b node number troupe kept) (begins d b node number troupe kept) b.declared.procedures
        (at_boot d b node number troupe kept) kept (through t)
    pub active : IsActiveSo (through t)
    pub from_first : first_given (snapshot_fetched (begins d b node number troupe kept)) (through t) ≡ None → (kept.from ≡ 0) × (kept.active_at ≡ 0)
    pub follows : IsRecord b (state_at_activation d b node number troupe kept t) kept
    pub sends : SendsWhatIsOwed (beginning_of d node) t

  -- its events are numbered, declarations come where they are to, and each call has a number
  pub record IsRunSo (t : Trace) : Type 0 where
    pub numbered : IsNumbered t
    pub declares : Awaits t []
    pub numbers : HasNumbers d node t
    pub evaluated : IsEvaluatedIn t

  -- no such trace begins with these events
  abbrev pub AreRefused : List GivenEvent → Type 0
  AreRefused events = (t : Trace) (rest : List GivenEvent) → IsRunSo t → events_in t ≡ events ++ rest → ⊥

  -- a trace has these events, and goes as the record says: the pairs and the dues are those behind it, and these declarations are to come
  pub record HasLived (events : List GivenEvent) (pairs : Pairs) (dues : DuesState) (awaited : List ℕ) : Type 0 where
    pub lived : Trace
    pub events_are : events_in lived ≡ events
    pub numbered : IsNumbered lived
    pub others : ComesFromOthers d node lived
    pub awaited_is : awaited_in lived ≡ Some awaited
    pub numbers : HasNumbers d node lived
    pub goes : GoesSo d b node number troupe kept lived
    pub sends : SendsWhatIsOwed (beginning_of d node) lived
    pub stand : StandFor d node (acts_of (beginning_of d node) lived) pairs
    pub founded : is_active (begins d b node number troupe kept) ≡ true
        → IsFounded (here d b node number troupe kept) (known d b node number troupe kept) (begins d b node number troupe kept) b.first kept b.declared.procedures
        (at_boot d b node number troupe kept)
    pub active : IsActiveSo (through lived)
    pub in_time : IsInTimeSoFar (known d b node number troupe kept) (begins d b node number troupe kept) b.first (at_boot d b node number troupe kept) (through lived) dues

  -- it lives through events, or they are those of no run
  abbrev pub LivesThrough : List GivenEvent → Option Lived → Type 0
  LivesThrough events None = AreRefused events
  LivesThrough events (Some l) = IsLawful kept → HasLived events l.pairs l.dues l.awaited

  -- ---- the end

  -- a run has just these events, and its member is in the phase that is told, and became active with this state
  pub record HasRunThrough (events : List GivenEvent) (begun : List ValueTree) : Type 0 where
    pub lived : Trace
    pub events_are : events_in lived ≡ events
    pub others : ComesFromOthers d node lived
    pub run : IsRunSo lived
    pub phase_is : kept.phase ≡ phase_told (phase (begins d b node number troupe kept) (through lived))
    pub begun_is : begun ≡ state_at_activation d b node number troupe kept lived

  -- or none has
  abbrev pub HaveNoRun : List GivenEvent → Type 0
  HaveNoRun events =
      (t : Trace) → IsRunSo t → events_in t ≡ events → kept.phase ≡ phase_told (phase (begins d b node number troupe kept) (through t)) → ⊥

  abbrev pub EndsSo : List GivenEvent → List ValueTree → Bool → Type 0
  EndsSo events begun true = HasRunThrough events begun
  EndsSo events begun false = HaveNoRun events

  abbrev pub RunsThrough : List GivenEvent → Option Lived → Type 0
  RunsThrough events None = HaveNoRun events
  RunsThrough events (Some l) = HasRunThrough events l.dues.owing.began
