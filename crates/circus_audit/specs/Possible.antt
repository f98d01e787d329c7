-- What may stand in a record of a node of a program. What happened, what the states were, and whether any of it is true, is
-- left open.
use Rattle.std.specs.Prelude.{◌≡◌, ◌≢◌, ◌⊎◌, ℕ, ◌+◌, ◌-◌, ◌<◌, ◌≤◌, ◌^◌, true, false, List, [], ◌∷◌, ◌++◌, length, map, slice_get, Option, Some, None, option_map}
use Rattle.std.specs.List.{AllByRecursion}
use Rattle.std.specs.Option.{option_map_or}
use Rattle.circus_limits.specs.Limits.{limit_of}
use Rattle.circus_value.specs.ValueTree.{ValueTree}
use Rattle.circus_value.specs.Fits.{all_fit}
use Rattle.circus_value.specs.declared.outcome.Outcome.{Outcome}
use Rattle.circus_header.specs.declared.answer.Reply.{Reply}
use Rattle.circus_collate.specs.declared.view.Since.{Since}
use Rattle.circus_collate.specs.declared.view.Since.TheVariants.{Joining, From}
use Rattle.circus_collate.specs.declared.view.Entry.{Entry}
use Rattle.circus_collate.specs.declared.view.View.{View}
use Rattle.circus_model.specs.declared.signature.Signature.{Signature}
use Rattle.circus_model.specs.Lawful.{arguments_fit, outcome_fits, procedure_numbered, import_takes, import_answers}
use Rattle.circus_check.specs.Resolved.{module_as}
use Rattle.circus_modules.specs.Signatures.{signature_of, interface_numbers}
use Rattle.circus_config.specs.declared.plan.Plan.{Plan}
use Rattle.circus_transfer.specs.declared.joiner.Joiner.{Joiner}
use Rattle.circus_transfer.specs.declared.joiner.Joiner.TheVariants.{Outside, Asking, Fetching, Active}
use Rattle.circus_record.specs.declared.record.AskRecord.{AskRecord}
use Rattle.circus_record.specs.declared.record.RunRecord.{RunRecord}
use Rattle.circus_record.specs.declared.record.MemberRecord.{MemberRecord}
use Rattle.circus_performing.specs.Performing.{last_count, before_any}
use Rattle.circus_performing.specs.Record.{count_after}
use Rattle.circus_node.specs.Accepting.{is_root, troupe_at}
use Rattle.circus_member_rules.specs.declared.occurrence.Difference.{Difference}
use Rattle.circus_node.specs.declared.event.Event.{Event}
use Rattle.circus_node.specs.declared.event.Event.TheVariants.{Datagram, Tick, Down, Join}
use Rattle.circus_node.specs.declared.event.Give.{Give}
use Rattle.circus_audit.specs.declared.given.GivenEvent.{GivenEvent}
use Rattle.circus_audit.specs.declared.given.Given.{Given}

-- numbers of one, two and four bytes
abbrev pub AreBytes : List ℕ → Type 0
AreBytes ns = AllByRecursion (λ n. n < 2 ^ 8) ns

abbrev pub AreWords : List ℕ → Type 0
AreWords ns = AllByRecursion (λ n. n < 2 ^ 16) ns

abbrev pub AreLongs : List ℕ → Type 0
AreLongs ns = AllByRecursion (λ n. n < 2 ^ 32) ns

module _ (plan : Plan) where
  -- what the module of a number declares
  abbrev pub declared_by : ℕ → Option Signature
  declared_by number =
      option_map (signature_of (limit_of plan.deployment.format) plan.checked.interfaces (interface_numbers (map module_as plan.checked.modules)))
      (slice_get (map module_as plan.checked.modules) number)

  -- a count for each module
  abbrev pub IsClock : List ℕ → Type 0
  IsClock clock = (length clock ≡ length plan.names) × AreLongs clock

  -- another node of the program than the record's
  abbrev pub IsOther : ℕ → ℕ → Type 0
  IsOther own node = (node < length plan.deployment.nodes) × (node ≢ own)

  -- ---- what happened

  abbrev pub CanCome : ℕ → Option Event → Type 0
  CanCome own None = Unit {0}
  CanCome own (Some (Datagram from bytes)) = IsOther own from × AreBytes bytes
  CanCome own (Some Tick) = Unit {0}
  CanCome own (Some (Down node)) = IsOther own node
  CanCome own (Some Join) = Unit {0}

  abbrev pub CanBeGiven : ℕ → Give → Type 0
  CanBeGiven own give = IsOther own give.to × AreBytes give.bytes

  -- ---- what a member did, by what its module declares and the number of events

  module _ (s : Signature) (events : ℕ) where
    -- in an event's step, where it says a step
    abbrev pub IsStep : ℕ → Type 0
    IsStep step = step < events

    -- an import's procedure was asked
    pub record IsAsk (ask : AskRecord) : Type 0 where
      pub takes : import_takes s.imports ask.callee ask.procedure ask.arguments ≡ true
      pub index : ask.index < 2 ^ 32
      pub state : all_fit s.variables ask.state ≡ true
      pub asked : IsStep ask.asked

    -- and replied
    pub record IsAnswered (ask : AskRecord) : Type 0 where
      pub made : IsAsk ask
      pub reply : Outcome
      pub after : List ℕ
      pub step : ℕ
      pub is_reply : ask.reply ≡ Some reply
      pub is_after : ask.after ≡ Some after
      pub is_step : ask.answered ≡ Some step
      pub answers : import_answers s.imports ask.callee ask.procedure reply ≡ true
      pub clock : IsClock after
      pub answered : IsStep step

    -- or has not yet
    pub record IsOpen (ask : AskRecord) : Type 0 where
      pub made : IsAsk ask
      pub reply : ask.reply ≡ None
      pub after : ask.after ≡ None
      pub answered : ask.answered ≡ None

    -- a procedure of the module was started
    pub record IsStarted (run : RunRecord) : Type 0 where
      pub root : is_root plan.deployment run.root ≡ true
      pub path : AreWords run.path
      pub takes : arguments_fit s.procedures run.procedure run.arguments ≡ true
      pub clock : IsClock run.entry
      pub started : IsStep run.started

    -- and ended
    pub record IsEnded (run : RunRecord) : Type 0 where
      pub began : IsStarted run
      pub asks : AllByRecursion IsAnswered run.asks
      pub outcome : Outcome
      pub state : List ValueTree
      pub after : List ℕ
      pub step : ℕ
      pub is_outcome : run.outcome ≡ Some outcome
      pub is_state : run.state ≡ Some state
      pub is_after : run.end ≡ Some after
      pub is_step : run.ended ≡ Some step
      pub ends : option_map_or (λ p. outcome_fits p outcome) (procedure_numbered run.procedure s.procedures) false ≡ true
      pub fits : all_fit s.variables state ≡ true
      pub clock : IsClock after
      pub ended : IsStep step

    -- or waits for a reply to its last ask
    pub record IsWaiting (run : RunRecord) : Type 0 where
      pub began : IsStarted run
      pub before : List AskRecord
      pub last : AskRecord
      pub asks : run.asks ≡ before ++ last ∷ []
      pub answered : AllByRecursion IsAnswered before
      pub waits : IsOpen last
      pub outcome : run.outcome ≡ None
      pub state : run.state ≡ None
      pub after : run.end ≡ None
      pub ended : run.ended ≡ None

    -- each run has ended, the last may wait, and the count is that of the runs that have ended
    pub record AreRuns (from count : ℕ) (runs : List RunRecord) : Type 0 where
      pub ended : List RunRecord
      pub last : List RunRecord
      pub are : runs ≡ ended ++ last
      pub each : AllByRecursion IsEnded ended
      pub one : (last ≡ []) ⊎ ((run : RunRecord) × (last ≡ run ∷ []) × IsWaiting run)
      pub counted : count ≡ count_after from (length ended)
      pub few : from + length runs ≤ last_count + 1

    pub record IsActive (since : ℕ) (kept : MemberRecord) : Type 0 where
      pub first : since ≡ kept.from
      pub from : kept.from ≤ last_count
      pub active_at : IsStep kept.active_at
      pub runs : AreRuns kept.from kept.count kept.runs
      pub state : all_fit s.variables kept.state ≡ true

    -- of a member that is not active its phase is said alone
    abbrev pub IsMember : MemberRecord → Joiner → Type 0
    IsMember kept Outside = kept ≡ before_any Outside []
    IsMember kept Asking = kept ≡ before_any Asking []
    IsMember kept (Fetching incarnation) = kept ≡ before_any (Fetching 0) []
    IsMember kept (Active first) = IsActive first kept

  -- ---- the Ringmaster's views

  abbrev pub IsSince : Since → Type 0
  IsSince Joining = Unit {0}
  IsSince (From first) = first < 2 ^ 32

  abbrev pub IsEntry : Entry → Type 0
  IsEntry entry = (entry.node < length plan.deployment.nodes) × IsSince entry.since

  -- a view of each module, in order
  pub record AreViews (views : List View) : Type 0 where
    pub all : length views ≡ length plan.names
    pub each : (m : ℕ) (view : View) → slice_get views m ≡ Some view
        → (view.troupe ≡ m) × (view.incarnation < 2 ^ 32) × AllByRecursion IsEntry view.entries

  -- a member of the module that the node hosts, or the Ringmaster
  abbrev pub IsKept : ℕ → Option ℕ → Option MemberRecord → Option (List View) → Type 0
  IsKept events (Some «module») (Some kept) None = (s : Signature) × (declared_by «module» ≡ Some s) × IsMember s events kept kept.phase
  IsKept events None None (Some views) = AreViews views
  IsKept events _ _ _ = ⊥

  -- ---- replies that differ

  -- which ask of which run is this one
  pub record IsNamed (kept : MemberRecord) (d : Difference) (ask : AskRecord) : Type 0 where
    pub run : RunRecord
    pub later : kept.from ≤ d.run
    pub is_run : slice_get kept.runs (d.run - kept.from) ≡ Some run
    pub is_ask : slice_get run.asks d.ask ≡ Some ask

  -- a reply that a procedure may give
  abbrev pub IsReplyTo : Signature → AskRecord → Reply → Type 0
  IsReplyTo s ask reply = IsClock reply.clock × (import_answers s.imports ask.callee ask.procedure reply.outcome ≡ true)

  -- other nodes replied so to an ask of the record
  pub record CanDiffer (own : ℕ) (hosted : Option ℕ) (member : Option MemberRecord) (d : Difference) : Type 0 where
    pub s : Signature
    pub declared : option_map_or declared_by hosted None ≡ Some s
    pub kept : MemberRecord
    pub is_kept : member ≡ Some kept
    pub ask : AskRecord
    pub named : IsNamed kept d ask
    pub run : d.run < 2 ^ 32
    pub number : d.ask < 2 ^ 32
    pub first : IsOther own d.first × IsReplyTo s ask d.first_reply
    pub second : IsOther own d.second × IsReplyTo s ask d.second_reply

  -- ---- the whole

  pub record CanHappen (given : Given) (happened : GivenEvent) : Type 0 where
    pub event : CanCome given.node happened.event
    pub gives : AllByRecursion (CanBeGiven given.node) happened.gives
    pub differences : AllByRecursion (CanDiffer given.node (troupe_at plan.deployment given.node) given.member) happened.differences

  pub record IsPossible (given : Given) : Type 0 where
    pub node : given.node < length plan.deployment.nodes
    pub events : AllByRecursion (CanHappen given) given.events
    pub kept : IsKept (length given.events) (troupe_at plan.deployment given.node) given.member given.views
