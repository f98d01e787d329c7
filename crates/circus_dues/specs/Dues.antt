-- What a member owes by its record in the end: how far the record has come by the end of a past, what is kept then, and what a
-- later step adds.
use Rattle.std.specs.Prelude.{◌≡◌, ℕ, ◌+◌, ◌-◌, ◌<◌, ◌≤◌, true, false, List, length, map, take, Option, None, Some, IfSome, IsSomeAnd, is_some, slice_get}
use Rattle.std.specs.Bool.{Decides}
use Rattle.std.specs.List.{flat_map}
use Rattle.circus_value.specs.ValueTree.{ValueTree}
use Rattle.circus_value.specs.declared.caller.Caller.{Caller}
use Rattle.circus_collate.specs.declared.view.View.{View}
use Rattle.circus_transfer.specs.declared.joiner.Joiner.{Joiner}
use Rattle.circus_model.specs.Behaviour.{Behaviour, IsModule}
use Rattle.circus_model.specs.Execution.{is_spent}
use Rattle.circus_model.specs.declared.signature.ProcedureShape.{ProcedureShape}
use Rattle.circus_model.specs.declared.signature.Signature.{Signature}
use Rattle.circus_record.specs.declared.record.AskRecord.{AskRecord}
use Rattle.circus_record.specs.declared.record.MemberRecord.{MemberRecord}
use Rattle.circus_record.specs.declared.record.RunRecord.{RunRecord}
use Rattle.circus_performing.specs.Performing.{is_active, is_fetching, clock_after}
use Rattle.circus_performing.specs.Record.{IsRecord}
use Rattle.circus_member_rules.specs.declared.place.Place.{Place}
use Rattle.circus_member_rules.specs.OpenAsks.{asking_of}
use Rattle.circus_member_rules.specs.declared.occurrence.Difference.{Difference}
use Rattle.circus_member_rules.specs.declared.occurrence.Effect.{Effect}
use Rattle.circus_member_rules.specs.declared.occurrence.Occurrence.{Occurrence}
use Rattle.circus_member_rules.specs.declared.occurrence.Occurrence.TheVariants as comes
use Rattle.circus_member_theory.specs.Past.{Past, booted, followed, now, phase}
use Rattle.circus_member_theory.specs.Made.{at_most_one}
use Rattle.circus_member_theory.specs.Asks.{knows, first_calls, new_asks, open_asks}
use Rattle.circus_member_theory.specs.Snapshots.{began}
use Rattle.circus_member_theory.specs.Order.{made_in_step}
use Rattle.circus_member_theory.specs.Differences.{differences_now}
use Rattle.circus_member_theory.specs.Returns.{first_of}
use Rattle.circus_member_theory.specs.Timely.{IsMain}
use Rattle.circus_dues.specs.Calls.{IsKeptOf, IsOutside, NoneBetween, ungiven}
use Rattle.circus_dues.specs.Out.{KnowsAt}
use Rattle.circus_dues.specs.Walk.{IsBy, IsLater, IsStepOf, IsTimelyStep, IsWithin, RunOneByOne}
use Rattle.circus_dues.specs.declared.owing.Owing.{Owing}
use Rattle.circus_dues.specs.declared.walk.Walk.{Walk}

-- where a member stands, what its module declares, its record in the end, and what is kept of what came
pub record DuesState : Type 0 where
  pub place : Place
  pub signature : Signature
  pub kept : MemberRecord
  pub owing : Owing

-- it is the record of a lawful module, which became active with some state, and each of its runs has an index
pub record IsLawful (kept : MemberRecord) : Type 0 where
  pub behaves : Behaviour
  pub lawful : IsModule behaves
  pub from : List ValueTree
  pub is : IsRecord behaves from kept
  pub few : kept.from + length kept.runs ≤ 4294967296

-- ---- how far a record has come

-- the run has made its first asks, so many, by the end of a past, and waits at the last of these, its thread having calls left
pub record HasAsked (p : Past) (run : RunRecord) (count : ℕ) : Type 0 where
  pub some : 1 ≤ count
  pub made : (number : ℕ) (ask : AskRecord) → number < count → slice_get run.asks number ≡ Some ask → ask.asked ≤ now p
  pub later : (number : ℕ) (ask : AskRecord) → count ≤ number → slice_get run.asks number ≡ Some ask → now p < ask.asked
  pub waits : IsSomeAnd (slice_get run.asks (count - 1)) (λ (ask : AskRecord). IsLater (now p) ask.answered)
  pub calls_left : is_spent (clock_after run.entry (take (count - 1) run.asks)) ≡ false

-- the next run has not started, or is under way
abbrev pub StandsAt : Past → Option RunRecord → Option ℕ → Type 0
StandsAt p None None = Unit {0}
StandsAt p None (Some count) = ⊥
StandsAt p (Some run) None = now p < run.started
StandsAt p (Some run) (Some count) = (run.started ≤ now p) × IsLater (now p) run.ended × HasAsked p run count

pub record HasComeTo (kept : MemberRecord) (p : Past) (walk : Walk) : Type 0 where
  pub few : walk.ended ≤ length kept.runs
  pub ended : (number : ℕ) (run : RunRecord) → number < walk.ended → slice_get kept.runs number ≡ Some run → IsBy (now p) run.ended
  pub next : StandsAt p (slice_get kept.runs walk.ended) walk.asked

-- ---- of a member that stands here, with these views, in this phase and with this state at boot, by its record in the end

module _ (place : Place) (boot : List View) (begins : Joiner) (first : List ValueTree) (kept : MemberRecord) where
  -- what is kept of a past
  pub record IsDuesOf (p : Past) (d : Owing) : Type 0 where
    pub known : KnowsAt place boot begins kept p d.out.known
    pub asks : d.out.asks ≡ open_asks place boot kept p
    pub calls : IsKeptOf place.troupe begins kept p d.calls.gathered
    pub requests : d.calls.requests ≡ map (λ (e : ℕ × Caller). e.1) (ungiven begins first kept p)
    pub phase_is : d.phase ≡ phase begins p
    pub began_is : d.began ≡ began begins first p
    pub comes_to : HasComeTo kept p d.walk

  -- ---- its first runs, so many, being entered at boot, and these the procedures of its module

  module _ (procedures : List ProcedureShape) (at_boot : ℕ) where
    -- the state that makes the member active is that with which the record begins
    abbrev pub IsActivatedSo : Past → ℕ → Occurrence → Type 0
    IsActivatedSo p at (comes.Restored state count) =
        is_fetching (phase begins p) ≡ true → (kept.active_at ≡ at) × (kept.from ≡ count)
    IsActivatedSo p at _ = Unit {0}

    -- one that is active at boot performs from its first call on, since then
    pub record IsFounded : Type 0 where
      pub from_is : kept.from ≡ first_of begins
      pub since : kept.active_at ≡ 0

    -- no ask of a thread that has calls left was answered between two steps
    abbrev pub NoneAnsweredBetween : ℕ → ℕ → Type 0
    NoneAnsweredBetween low high =
        (number place_of : ℕ) (run : RunRecord) (ask : AskRecord)
        → slice_get kept.runs number ≡ Some run → slice_get run.asks place_of ≡ Some ask
        → is_spent (clock_after run.entry (take place_of run.asks)) ≡ false
        → IfSome ask.answered (IsOutside low high)

    -- at boot the record is in time so far
    pub record BeginsInTime : Type 0 where
      pub order : RunOneByOne 0 kept.runs
      pub founded : is_active begins ≡ true → IsFounded
      pub boots : (number : ℕ) → number < at_boot → IsSomeAnd (slice_get kept.runs number) (IsMain place.troupe boot)
      pub step : IsTimelyStep place boot begins procedures at_boot kept booted

    -- so it is in a step behind a past: nothing of it came between, and what it says came in the step might
    pub record GoesOnInTime (p : Past) (at : ℕ) (o : Occurrence) : Type 0 where
      pub none_between : NoneBetween kept (now p) at
      pub none_answered : NoneAnsweredBetween (now p) at
      pub activated : IsActivatedSo p at o
      pub step : IsTimelyStep place boot begins procedures at_boot kept (followed p at o)

    -- what is owed at boot
    pub record IsOwedAtBoot (d : Owing) (effects : List Effect) : Type 0 where
      pub in_time : BeginsInTime
      pub dues : IsDuesOf booted d
      pub made : effects ≡ flat_map (first_calls place boot (knows place boot booted)) (new_asks place boot kept booted)

    -- and in a later step
    pub record IsOwed (p : Past) (at : ℕ) (o : Occurrence) (d : Owing) (effects : List Effect) (told : Option Difference) : Type 0 where
      pub in_time : GoesOnInTime p at o
      pub dues : IsDuesOf (followed p at o) d
      pub made : effects ≡ made_in_step place boot begins first kept p (followed p at o)
      pub tells : at_most_one told ≡ differences_now place boot kept (followed p at o)

-- ---- what is told of it, for these views, this phase and this state at boot, the first runs, so many, being entered then

module _ (boot : List View) (begins : Joiner) (first : List ValueTree) (at_boot : ℕ) where
  -- where its record is lawful it is in time at boot where that is, and then has made what is owed
  abbrev pub TellsAtBoot : DuesState → List Effect → Type 0
  TellsAtBoot d effects =
      IsLawful d.kept
      → Decides d.owing.is_timely (BeginsInTime d.place boot begins first d.kept d.signature.procedures at_boot)
      × (d.owing.is_timely ≡ true
      → IsOwedAtBoot d.place boot begins first d.kept d.signature.procedures at_boot d.owing effects)

  -- what the record says came by the end of a past came in its steps
  pub record CameInSteps (kept : MemberRecord) (p : Past) : Type 0 where
    pub starts : (number : ℕ) (run : RunRecord) → slice_get kept.runs number ≡ Some run → run.started ≤ now p → IsStepOf run.started p
    pub answers : (number place_of : ℕ) (run : RunRecord) (ask : AskRecord) (step : ℕ)
        → slice_get kept.runs number ≡ Some run → slice_get run.asks place_of ≡ Some ask
        → is_spent (clock_after run.entry (take place_of run.asks)) ≡ false
        → ask.answered ≡ Some step → step ≤ now p → IsStepOf step p

  -- the ask that waits is open, where a view of its server was known at boot
  abbrev pub KeepsOpen : Place → MemberRecord → Past → Walk → Type 0
  KeepsOpen place kept p walk =
      (run : RunRecord) (count : ℕ) (ask : AskRecord) → slice_get kept.runs walk.ended ≡ Some run → walk.asked ≡ Some count
      → slice_get run.asks (count - 1) ≡ Some ask → is_some (slice_get boot ask.callee) ≡ true
      → is_some (asking_of (open_asks place boot kept p) (record { run = kept.from + walk.ended; ask = count - 1 })) ≡ true

  -- behind a past its record was in time so far
  pub record IsInTimeSoFar (p : Past) (d : DuesState) : Type 0 where
    pub timely : d.owing.is_timely ≡ true
    pub lawful : IsLawful d.kept
    pub order : RunOneByOne 0 d.kept.runs
    pub boots : (number : ℕ) → number < at_boot → IsSomeAnd (slice_get d.kept.runs number) (IsMain d.place.troupe boot)
    -- one that has started a run is active, and a member that is active performs from its first call on
    pub active : (number : ℕ) (run : RunRecord) → slice_get d.kept.runs number ≡ Some run → run.started ≤ now p → is_active (phase begins p) ≡ true
    pub from_is : is_active (phase begins p) ≡ true → d.kept.from ≡ first_of (phase begins p)
    pub in_steps : CameInSteps d.kept p
    pub keeps_open : KeepsOpen d.place d.kept p d.owing.walk
    pub dues : IsDuesOf d.place boot begins first d.kept p d.owing

  -- in a later step it still is where the record goes on in time, and then has made what is owed
  abbrev pub TellsStep : Past → ℕ → Occurrence → DuesState → List Effect → Option Difference → Type 0
  TellsStep p at o d effects told =
      Decides d.owing.is_timely (GoesOnInTime d.place boot begins first d.kept d.signature.procedures at_boot p at o)
      × (d.owing.is_timely ≡ true
      → IsOwed d.place boot begins first d.kept d.signature.procedures at_boot p at o d.owing effects told)

  -- all that the record says has come by the end of a past
  abbrev pub HasAllCome : Past → DuesState → Type 0
  HasAllCome p d = IsWithin d.place boot begins d.signature.procedures at_boot d.kept p
