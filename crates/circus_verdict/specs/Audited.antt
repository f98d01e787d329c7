-- When a record of a node is audited: what it says is what the node's rules give for what came to the node.
use Rattle.std.specs.Prelude.{ℕ, ◌≡◌, ◌&&◌, ◌==◌, Bool, true, false, List, [], ◌∷◌, ◌++◌, slice_get, Option, None, Some}
use Rattle.std.specs.Option.{option_map_or}
use Rattle.circus_collate.specs.declared.deployment.Deployment.{Deployment}
use Rattle.circus_collate.specs.declared.deployment.Troupe.{Troupe}
use Rattle.circus_collate.specs.declared.view.View.{View}
use Rattle.circus_transfer.specs.declared.joiner.Joiner.{Joiner}
use Rattle.circus_transfer.specs.declared.joiner.Joiner.TheVariants.{Outside, Asking, Fetching, Active}
use Rattle.circus_model.specs.Behaviour.{Behaviour}
use Rattle.circus_record.specs.declared.record.MemberRecord.{MemberRecord}
use Rattle.circus_performing.specs.Performing.{before_any}
use Rattle.circus_node.specs.Accepting.{troupe_at}
use Rattle.circus_node.specs.declared.event.Event.{Event}
use Rattle.circus_node.specs.declared.event.Event.TheVariants as comes
use Rattle.circus_node.specs.Trace.{Trace, booted, stepped}
use Rattle.circus_world.specs.Legal.{is_spare}
use Rattle.circus_headline_theory.specs.Trace.{told_of}
use Rattle.circus_headline_theory.specs.Numbers.{HasNumbers}
use Rattle.circus_headline_theory.specs.NodeRun.{IsNodeRun}
use Rattle.circus_headline_theory.specs.RingRun.{IsRingRun}
use Rattle.circus_headline_theory.specs.ServedRun.{IsNumbered}
use Rattle.circus_audit.specs.declared.given.Given.{Given}
use Rattle.circus_audit.specs.declared.given.GivenEvent.{GivenEvent}

-- ---- what a record says of a trace: boot and what came then, what was given for it, and which replies differed

abbrev pub events_in : Trace → List GivenEvent
events_in (booted made outputs) = record { event = None; gives = outputs.gives; differences = outputs.differences } ∷ []
events_in (stepped t at event made outputs) =
    events_in t ++ record { event = Some event; gives = outputs.gives; differences = outputs.differences } ∷ []

-- of a member that isn't active it says the phase alone, without an incarnation
abbrev pub said_in : Joiner → MemberRecord → MemberRecord
said_in Outside kept = before_any Outside []
said_in Asking kept = before_any Asking []
said_in (Fetching incarnation) kept = before_any (Fetching 0) []
said_in (Active first) kept = kept

abbrev pub said_of : MemberRecord → MemberRecord
said_of kept = said_in kept.phase kept

-- ---- joins and declarations

abbrev pub is_join : Option Event → Bool
is_join None = false
is_join (Some (comes.Datagram from bytes)) = false
is_join (Some comes.Tick) = false
is_join (Some (comes.Down node)) = false
is_join (Some comes.Join) = true

abbrev pub joins_at : List GivenEvent → ℕ → Bool
joins_at events number = option_map_or (λ (e : GivenEvent). is_join e.event) (slice_get events number) false

-- of a spare the second event is a join, and no other event is one
abbrev pub JoinsSo : Bool → List GivenEvent → Type 0
JoinsSo spare events = (number : ℕ) → joins_at events number ≡ (spare && (number == 1))

-- directly behind a step stand the declarations of the nodes that it suspects, in their order, and there are no others: these are to come
abbrev pub Awaits : Trace → List ℕ → Type 0
Awaits (booted made outputs) nodes = nodes ≡ outputs.suspects
Awaits (stepped t at (comes.Down node) made outputs) nodes = Awaits t (node ∷ nodes)
Awaits (stepped t at (comes.Datagram from bytes) made outputs) nodes = Awaits t [] × (nodes ≡ outputs.suspects)
Awaits (stepped t at comes.Tick made outputs) nodes = Awaits t [] × (nodes ≡ outputs.suspects)
Awaits (stepped t at comes.Join made outputs) nodes = Awaits t [] × (nodes ≡ outputs.suspects)

-- ---- at a node of a program, whose modules do this

module _ (d : Deployment) (program : List Behaviour) (node : ℕ) where
  -- a trace and a record of the member of a troupe are a node run
  pub record IsRunOf (number : ℕ) (t : Trace) (kept : MemberRecord) : Type 0 where
    pub troupe : Troupe
    pub hosted : Behaviour
    pub is_troupe : slice_get d.troupes number ≡ Some troupe
    pub is_hosted : slice_get program number ≡ Some hosted
    pub is : IsNodeRun d hosted node number troupe t kept

  -- with what is said of the member
  pub record HasRun (number : ℕ) (t : Trace) (member : Option MemberRecord) : Type 0 where
    pub kept : MemberRecord
    pub run : IsRunOf number t kept
    pub says : member ≡ Some (said_of kept)

  -- with what is said of the Ringmaster's views; there no reply differs
  pub record HasRingRun (t : Trace) (said : Option (List View)) : Type 0 where
    pub views : List View
    pub run : IsRingRun d node t views
    pub none_differ : told_of t ≡ []
    pub says : said ≡ Some views

  abbrev pub HasRunAt : Option ℕ → Trace → Option MemberRecord → Option (List View) → Type 0
  HasRunAt (Some number) t member views = HasRun number t member
  HasRunAt None t member views = HasRingRun t views

-- its events are those of a trace, which with what it says of the node is a node run
pub record IsAuditedBy (d : Deployment) (program : List Behaviour) (given : Given) (lived : Trace) : Type 0 where
  pub events : given.events ≡ events_in lived
  -- events are numbered, and their numbers are the steps
  pub numbered : IsNumbered lived
  pub joins : JoinsSo (is_spare d given.node) given.events
  pub declares : Awaits lived []
  -- and each call has a number
  pub numbers : HasNumbers d given.node lived
  pub run : HasRunAt d program given.node (troupe_at d given.node) lived given.member given.views

pub record IsAudited (d : Deployment) (program : List Behaviour) (given : Given) : Type 0 where
  pub lived : Trace
  pub is : IsAuditedBy d program given lived
