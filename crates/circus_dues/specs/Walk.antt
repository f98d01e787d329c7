-- What a member owes in one step, laid beside its record in the end: what the record says came in that step might come then, and what it
-- says came later, or never, might not.
use Rattle.std.specs.Prelude.{◌≡◌, ℕ, suc, ◌+◌, ◌<◌, ◌≤◌, ◌⊎◌, false, List, [], ◌∷◌, ◌++◌, length, All, Option, None, Some, is_none, unwrap_or, IsSomeAnd, slice_get, not, if◌then◌else◌}
use Rattle.circus_value.specs.ValueTree.{ValueTree}
use Rattle.circus_header.specs.declared.answer.Reply.{Reply}
use Rattle.circus_collate.specs.declared.view.View.{View}
use Rattle.circus_transfer.specs.declared.joiner.Joiner.{Joiner}
use Rattle.circus_model.specs.Execution.{is_spent}
use Rattle.circus_model.specs.declared.signature.ProcedureShape.{ProcedureShape}
use Rattle.circus_record.specs.declared.record.AskRecord.{AskRecord}
use Rattle.circus_record.specs.declared.record.MemberRecord.{MemberRecord}
use Rattle.circus_record.specs.declared.record.RunRecord.{RunRecord}
use Rattle.circus_gather.specs.declared.held.HeldCall.{HeldCall}
use Rattle.circus_fanout.specs.Asking.{Asking}
use Rattle.circus_performing.specs.Performing.{step_after}
use Rattle.circus_performing.specs.Record.{start_of}
use Rattle.circus_member_rules.specs.declared.place.Place.{Place}
use Rattle.circus_member_rules.specs.declared.occurrence.AskName.{AskName}
use Rattle.circus_member_rules.specs.declared.occurrence.Effect.{Effect}
use Rattle.circus_member_rules.specs.Step.{start_by_call}
use Rattle.circus_member_theory.specs.Past.{Past, booted, followed, now}
use Rattle.circus_member_theory.specs.Asks.{as_made}
use Rattle.circus_member_theory.specs.Order.{made_by_run}
use Rattle.circus_member_theory.specs.Timely.{ShowsAnswer, may_start, may_answer, name_of, HasCallsLeft}

-- ---- the steps of a past

-- it holds of a past, and of each shorter one that it grew from
abbrev pub Always : (Past → Type 0) → Past → Type 0
Always P booted = P booted
Always P (followed p step o) = Always P p × P (followed p step o)

-- it is the step of boot, or one in which something happened
abbrev pub IsStepOf : ℕ → Past → Type 0
IsStepOf step booted = step ≡ 0
IsStepOf step (followed p at o) = IsStepOf step p ⊎ (step ≡ at)

-- later than a step, or never
abbrev pub IsLater : ℕ → Option ℕ → Type 0
IsLater step None = Unit {0}
IsLater step (Some n) = step < n

-- an ask was answered in one of the steps of a past, or shows that it waits
pub record IsAnsweredWithin (p : Past) (ask : AskRecord) : Type 0 where
  pub answered : (step : ℕ) → ask.answered ≡ Some step → IsStepOf step p
  pub waits : ask.answered ≡ None → ShowsAnswer ask None

-- ---- runs and asks, one after the other

-- before a step
abbrev pub IsBefore : ℕ → Option ℕ → Type 0
IsBefore step None = ⊥
IsBefore step (Some n) = n < step

-- in a step or later, or never
abbrev pub IsNotBefore : ℕ → Option ℕ → Type 0
IsNotBefore step None = Unit {0}
IsNotBefore step (Some n) = step ≤ n

-- by a step
abbrev pub IsBy : ℕ → Option ℕ → Type 0
IsBy step None = ⊥
IsBy step (Some n) = n ≤ step

-- from this step on each ask is made in the step in which the one before it was answered, and answered then or later; behind one that waits
-- there is none
abbrev pub AskOneByOne : ℕ → List AskRecord → Type 0
AskOneByOne step [] = Unit {0}
AskOneByOne step (ask ∷ asks) =
    (ask.asked ≡ step) × (step ≤ unwrap_or ask.answered step) × (ask.answered ≡ None → asks ≡ [])
    × AskOneByOne (unwrap_or ask.answered step) asks

-- a run that has ended did so in the step of its last answer, or in that of its start where it asked nothing, and all its asks were answered
pub record IsRunInOrder (run : RunRecord) : Type 0 where
  pub asks_so : AskOneByOne run.started run.asks
  pub ended_so : (step : ℕ) → run.ended ≡ Some step → step ≡ step_after run.started run.asks
  pub answered_so : (step : ℕ) → run.ended ≡ Some step → All (λ (ask : AskRecord). is_none ask.answered ≡ false) run.asks

-- from this step on each run starts once the one before it has ended; behind one that goes on there is none
abbrev pub RunOneByOne : ℕ → List RunRecord → Type 0
RunOneByOne step [] = Unit {0}
RunOneByOne step (run ∷ runs) =
    (step ≤ run.started) × IsRunInOrder run × (run.ended ≡ None → runs ≡ [])
    × RunOneByOne (unwrap_or run.ended run.started) runs

-- of these runs each but the last ended in the step
abbrev pub EndForNext : ℕ → List RunRecord → Type 0
EndForNext step [] = Unit {0}
EndForNext step (run ∷ []) = Unit {0}
EndForNext step (run ∷ next ∷ runs) = (run.ended ≡ Some step) × EndForNext step (next ∷ runs)

-- how runs stand in a step: those that ended before it, at most one that was started before it and had not ended, those that were started
-- in it, and later ones
pub record AreStanding (step : ℕ) (runs before going starting later : List RunRecord) : Type 0 where
  pub are : runs ≡ before ++ (going ++ (starting ++ later))
  pub ended : All (λ (run : RunRecord). IsBefore step run.ended) before
  pub go_on : All (λ (run : RunRecord). (run.started < step) × IsNotBefore step run.ended) going
  pub at_most_one : length going ≤ 1
  pub start_now : All (λ (run : RunRecord). run.started ≡ step) starting
  pub end_for_next : EndForNext step (going ++ starting)
  pub start_later : All (λ (run : RunRecord). step < run.started) later

-- of a member that stands here, with these views and in this phase at boot, which declares these procedures, whose first runs, so many,
-- were entered at boot, and which has this record in the end
module _ (place : Place) (boot : List View) (begins : Joiner) (procedures : List ProcedureShape) (at_boot : ℕ) (kept : MemberRecord) where
  -- ---- the last step of a past

  -- a run of this number that was started then might start, by the call by which it was entered; before its start it might not
  pub record StartsInStep (p : Past) (number : ℕ) (run : RunRecord) : Type 0 where
    pub starts_now : run.started ≡ now p
        → IsSomeAnd (may_start place boot begins kept number p)
        (λ (call : HeldCall). start_of run ≡ start_by_call place.troupe procedures call)
    pub not_yet : now p < run.started → may_start place boot begins kept number p ≡ None

  -- an ask of this name that was answered then might be, and shows the reply that it might get; before its answer it might not
  pub record IsAnsweredInStep (p : Past) (name : AskName) (ask : AskRecord) : Type 0 where
    pub answered_now : ask.answered ≡ Some (now p)
        → IsSomeAnd (may_answer place boot begins name ask p)
        (λ (reply : Reply). ShowsAnswer ask (Some (now p, reply)))
    pub not_yet : IsLater (now p) ask.answered → may_answer place boot begins name ask p ≡ None

  pub record IsTimelyStep (p : Past) : Type 0 where
    pub starts : (number : ℕ) (run : RunRecord) → at_boot ≤ number → slice_get kept.runs number ≡ Some run → StartsInStep p number run
    -- no further run might start
    pub no_more : at_boot ≤ length kept.runs → may_start place boot begins kept (length kept.runs) p ≡ None
    -- the asks of threads that have calls left
    pub answers : (number place_of : ℕ) (run : RunRecord) (ask : AskRecord)
        → slice_get kept.runs number ≡ Some run → slice_get run.asks place_of ≡ Some ask
        → HasCallsLeft place boot begins procedures at_boot kept p run place_of
        → IsAnsweredInStep p (name_of place boot begins procedures at_boot kept p number place_of) ask

  -- ---- all of a past

  -- what the record says came in its steps
  pub record IsWithin (p : Past) : Type 0 where
    pub starts : (number : ℕ) (run : RunRecord) → at_boot ≤ number → slice_get kept.runs number ≡ Some run → IsStepOf run.started p
    pub answers : (number place_of : ℕ) (run : RunRecord) (ask : AskRecord)
        → slice_get kept.runs number ≡ Some run → slice_get run.asks place_of ≡ Some ask
        → HasCallsLeft place boot begins procedures at_boot kept p run place_of
        → IsAnsweredWithin p ask

-- how the asks of a run stand in a step: those made before it, those made in it, one behind the other, and later ones
pub record AreAskedBy (step : ℕ) (asks old new later : List AskRecord) : Type 0 where
  pub are : asks ≡ old ++ (new ++ later)
  pub asked_before : All (λ (ask : AskRecord). ask.asked < step) old
  pub asked_now : All (λ (ask : AskRecord). ask.asked ≡ step) new
  pub come_later : All (λ (ask : AskRecord). step < ask.asked) later

-- the asks of a run from one with this number on, the first made at this clock, as they are made; a thread that is spent makes no call
abbrev pub made_from : Place → ℕ → ℕ → List ℕ → ℕ → List ℕ → List AskRecord → List (AskName × Asking)
made_from place index root path number clock [] = []
made_from place index root path number clock (ask ∷ asks) =
    (if not (is_spent clock) then as_made place index root path number clock ask ∷ [] else [])
    ++ made_from place index root path (number + 1) (unwrap_or ask.after clock) asks

-- ---- what is made of the runs that stand in a step

-- of a member that stands here, with these views and in this phase at boot, by its record in the end: what runs make in the last step of a
-- past, the first of this index
module _ (place : Place) (boot : List View) (begins : Joiner) (first : List ValueTree) (kept : MemberRecord) where
  abbrev pub made_by_each : Past → ℕ → List RunRecord → List Effect
  made_by_each p index [] = []
  made_by_each p index (run ∷ runs) = made_by_run place boot begins first kept p index run ++ made_by_each p (index + 1) runs

-- ---- a walk along the runs of a record, in a step

module _ (place : Place) (boot : List View) (begins : Joiner) (procedures : List ProcedureShape) (at_boot : ℕ) (kept : MemberRecord) where
  -- the runs from this number on start as they may, as far as those before have ended by then; behind the last none may
  abbrev pub StartOnward : Past → ℕ → List RunRecord → Type 0
  StartOnward p number [] = may_start place boot begins kept number p ≡ None
  StartOnward p number (run ∷ runs) =
      StartsInStep place boot begins procedures at_boot kept p number run
      × (IsBy (now p) run.ended → StartOnward p (suc number) runs)

  -- the asks of a run from this place on, the first made at this clock, are answered as they may be, as far as those before were by then
  abbrev pub AreAnsweredOnward : Past → ℕ → ℕ → List ℕ → List AskRecord → Type 0
  AreAnsweredOnward p number place_of clock [] = Unit {0}
  AreAnsweredOnward p number place_of clock (ask ∷ asks) =
      (is_spent clock ≡ false
      → IsAnsweredInStep place boot begins procedures at_boot kept p (name_of place boot begins procedures at_boot kept p number place_of) ask)
      × (IsBy (now p) ask.answered → AreAnsweredOnward p number (suc place_of) (unwrap_or ask.after clock) asks)

  -- those of these runs, from this number on
  abbrev pub AreAnsweredInEach : Past → ℕ → List RunRecord → Type 0
  AreAnsweredInEach p number [] = Unit {0}
  AreAnsweredInEach p number (run ∷ runs) =
      AreAnsweredOnward p number 0 run.entry run.asks × AreAnsweredInEach p (suc number) runs
