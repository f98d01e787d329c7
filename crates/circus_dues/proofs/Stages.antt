-- The parts of a step: what is kept, and what was made, once some of the runs of a record have been passed in it.
use Rattle.std.specs.Prelude.{◌≡◌, ℕ, ◌+◌, ◌<◌, ◌⊎◌, true, false, List, [], ◌∷◌, ◌++◌, length, All, fold, drop, Option, None, Some, IsSomeAnd, slice_get}
use Rattle.circus_value.specs.ValueTree.{ValueTree}
use Rattle.circus_collate.specs.declared.view.View.{View}
use Rattle.circus_transfer.specs.declared.joiner.Joiner.{Joiner}
use Rattle.circus_model.specs.declared.signature.ProcedureShape.{ProcedureShape}
use Rattle.circus_record.specs.declared.record.MemberRecord.{MemberRecord}
use Rattle.circus_record.specs.declared.record.RunRecord.{RunRecord}
use Rattle.circus_fanout.specs.Asking.{Asking}
use Rattle.circus_member_rules.specs.declared.place.Place.{Place}
use Rattle.circus_member_rules.specs.declared.occurrence.AskName.{AskName}
use Rattle.circus_member_rules.specs.declared.occurrence.Effect.{Effect}
use Rattle.circus_member_rules.specs.declared.occurrence.Occurrence.{Occurrence}
use Rattle.circus_member_theory.specs.Past.{Past, Rises, followed, now, phase}
use Rattle.circus_member_theory.specs.Asks.{is_new, opened_one, asks_behind, asks_from, asks_of, open_asks}
use Rattle.circus_member_theory.specs.Order.{made_by_run}
use Rattle.circus_member_theory.specs.Snapshots.{began}
use Rattle.circus_member_theory.specs.Timely.{IsMain}
use Rattle.circus_dues.specs.Calls.{IsKeptAmid, NoneBetween, ends_among}
use Rattle.circus_dues.specs.Dues.{IsLawful, StandsAt, GoesOnInTime}
use Rattle.circus_dues.specs.Out.{KnowsAmid}
use Rattle.circus_dues.specs.Walk.{RunOneByOne, AreAnsweredOnward, AreAnsweredInEach, StartOnward, made_by_each}
use Rattle.circus_dues.specs.declared.owing.Owing.{Owing}

-- a record that is in time so far goes on behind a past, in a step in which this happens
pub record IsGoingOn (place : Place) (boot : List View) (begins : Joiner) (at_boot : ℕ) (kept : MemberRecord) (p : Past) (at : ℕ) : Type 0 where
  pub rises : Rises p
  pub later : now p < at
  pub lawful : IsLawful kept
  pub order : RunOneByOne 0 kept.runs
  pub boots : (number : ℕ) → number < at_boot → IsSomeAnd (slice_get kept.runs number) (IsMain place.troupe boot)
  pub between : NoneBetween kept (now p) at

module _ (place : Place) (boot : List View) (begins : Joiner) (first : List ValueTree) (procedures : List ProcedureShape) (at_boot : ℕ) (kept : MemberRecord) (p : Past) (at : ℕ) (o : Occurrence) where
  abbrev pub then_so : Past
  then_so = followed p at o

  -- it doesn't go on in time
  abbrev pub Refuses : Type 0
  Refuses = GoesOnInTime place boot begins first kept procedures at_boot p at o → ⊥

  -- the asks that were open, behind what came
  abbrev pub asks_then : List (AskName × Asking)
  asks_then = asks_behind place boot then_so (open_asks place boot kept p)

  -- what is kept once runs have been passed, as many as have ended: these asks were made, and the run of this index is open
  pub record IsAmid (new : List (AskName × Asking)) (under_way : Option ℕ) (d : Owing) : Type 0 where
    pub known : KnowsAmid place boot begins kept then_so d.out.known
    pub asks : d.out.asks ≡ fold (opened_one place boot d.out.known) asks_then new
    pub calls : IsKeptAmid place.troupe begins kept p at o (ends_among kept at d.walk.ended) d.calls.gathered
    pub opens : d.calls.gathered.open_run ≡ under_way
    pub phase_is : d.phase ≡ phase begins then_so
    pub began_is : d.began ≡ began begins first then_so

  -- ---- a run of this number

  -- the asks that it makes in the step
  abbrev pub new_of : ℕ → RunRecord → List (AskName × Asking)
  new_of number run = asks_from place (is_new then_so) (kept.from + number) run.root run.path 0 run.entry run.asks

  -- it ends in the step
  pub record EndsNow (number : ℕ) (run : RunRecord) (new : List (AskName × Asking)) (d : Owing) : Type 0 where
    pub ends : run.ended ≡ Some at
    pub walk : d.walk ≡ record { ended = number + 1; asked = None }
    pub amid : IsAmid new None d

  -- or waits at the last of so many asks
  pub record WaitsNow (number : ℕ) (run : RunRecord) (new : List (AskName × Asking)) (d : Owing) : Type 0 where
    pub count : ℕ
    pub walk : d.walk ≡ record { ended = number; asked = Some count }
    pub stands : StandsAt then_so (Some run) (Some count)
    pub amid : IsAmid new (Some (kept.from + number)) d

  -- it goes on, or starts: it makes this, behind what was kept and these asks, and all that it is answered is in time
  pub record HasGone (number : ℕ) (run : RunRecord) (before : List (AskName × Asking)) (d : Owing) (effects : List Effect) (e : Owing) : Type 0 where
    pub timely : e.is_timely ≡ true
    pub answered : AreAnsweredOnward place boot begins procedures at_boot kept then_so number 0 run.entry run.asks
    pub made : effects ≡ made_by_run place boot begins first kept then_so (kept.from + number) run
    pub requests : e.calls.requests ≡ d.calls.requests
    pub stands : EndsNow number run (before ++ new_of number run) e ⊎ WaitsNow number run (before ++ new_of number run) e

  -- or isn't in time
  pub record IsRefused (e : Owing) : Type 0 where
    pub untimely : e.is_timely ≡ false
    pub refuses : Refuses

  abbrev pub GoesOrIsRefused : ℕ → RunRecord → List (AskName × Asking) → Owing → List Effect → Owing → Type 0
  GoesOrIsRefused number run before d effects e = HasGone number run before d effects e ⊎ IsRefused e

  -- ---- the runs that start in the step, from this number on

  -- all of them end in it
  pub record AllEnd (number : ℕ) (starting : List RunRecord) (new : List (AskName × Asking)) (e : Owing) : Type 0 where
    pub end : All (λ (run : RunRecord). run.ended ≡ Some at) starting
    pub walk : e.walk ≡ record { ended = number + length starting; asked = None }
    pub amid : IsAmid new None e

  -- or all but the last, which waits
  pub record LastWaits (number : ℕ) (starting : List RunRecord) (new : List (AskName × Asking)) (e : Owing) : Type 0 where
    pub front : List RunRecord
    pub last : RunRecord
    pub are : starting ≡ front ++ last ∷ []
    pub end : All (λ (run : RunRecord). run.ended ≡ Some at) front
    pub waits : WaitsNow (number + length front) last new e

  pub record HaveStarted (number : ℕ) (before : List (AskName × Asking)) (d : Owing) (effects : List Effect) (e : Owing) : Type 0 where
    pub starting : List RunRecord
    pub later : List RunRecord
    pub are : drop number kept.runs ≡ starting ++ later
    pub timely : e.is_timely ≡ true
    pub start_now : All (λ (run : RunRecord). run.started ≡ at) starting
    pub start_later : All (λ (run : RunRecord). at < run.started) later
    pub starts : StartOnward place boot begins procedures at_boot kept then_so number (starting ++ later)
    pub answered : AreAnsweredInEach place boot begins procedures at_boot kept then_so number starting
    pub made : effects ≡ made_by_each place boot begins first kept then_so (kept.from + number) starting
    pub requests : e.calls.requests ≡ d.calls.requests
    pub stands : AllEnd number starting (before ++ asks_of place (is_new then_so) (kept.from + number) starting) e
        ⊎ LastWaits number starting (before ++ asks_of place (is_new then_so) (kept.from + number) starting) e

  abbrev pub StartOrAreRefused : ℕ → List (AskName × Asking) → Owing → List Effect → Owing → Type 0
  StartOrAreRefused number before d effects e = HaveStarted number before d effects e ⊎ IsRefused e
