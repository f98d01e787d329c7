-- At boot nothing has come: no run may start but one that is entered, and no ask may be answered.
use Rattle.std.proofs.Common.{◌≡◌, ℕ, zero, suc, ◌+◌, ◌-◌, ◌<◌, ◌≤◌, ◌⊎◌, inl, inr, Bool, true, false, true≢false, not, ◌&&◌, if◌then◌else◌, List, [], ◌∷◌, ◌++◌, length, All, Option, None, Some, refl, sym, ap, subst, ◌∙◌, arith}
use Rattle.std.specs.Prelude.{slice_get, nat_lt, nat_le, unwrap_or, IfSome, IsSomeAnd}
use Rattle.std.specs.Option.{option_map_or}
use Rattle.std.proofs.lemmas.Bool.{cases_lt, lt-leb, leb-false, ltb-false}
use Rattle.std.proofs.lemmas.List.Elements.{All-nil, All-head, All-tail}
use Rattle.std.proofs.lemmas.Option.{slice_get_within}
use Rattle.circus_header.specs.declared.answer.Reply.{Reply}
use Rattle.circus_collate.specs.declared.view.View.{View}
use Rattle.circus_transfer.specs.declared.joiner.Joiner.{Joiner}
use Rattle.circus_model.specs.declared.signature.ProcedureShape.{ProcedureShape}
use Rattle.circus_record.specs.declared.record.AskRecord.{AskRecord}
use Rattle.circus_record.specs.declared.record.MemberRecord.{MemberRecord}
use Rattle.circus_record.specs.declared.record.RunRecord.{RunRecord}
use Rattle.circus_gather.specs.Gathering.{is_same_call, expected_callers, given_call}
use Rattle.circus_gather.specs.declared.held.HeldCall.{HeldCall}
use Rattle.circus_performing.specs.Performing.{is_active, last_count}
use Rattle.circus_performing.specs.Record.{start_of}
use Rattle.circus_member_rules.specs.declared.place.Place.{Place}
use Rattle.circus_member_rules.specs.declared.occurrence.AskName.{AskName}
use Rattle.circus_member_rules.specs.Step.{start_by_call}
use Rattle.circus_member_rules.proofs.Enough.{none_given}
use Rattle.circus_member_theory.specs.Past.{booted}
use Rattle.circus_member_theory.specs.Returns.{run_of}
use Rattle.circus_member_theory.specs.Asks.{is_new}
use Rattle.circus_member_theory.specs.Timely.{ShowsAnswer, collated_call, collated_reply, is_free_for, may_start, may_answer}
use Rattle.circus_dues.specs.Walk.{IsLater, IsBy, IsBefore, IsRunInOrder, RunOneByOne, StartsInStep, IsAnsweredInStep, IsTimelyStep, StartOnward, AreAnsweredInEach}
use Rattle.circus_dues.specs.Dues.{StandsAt}
use Rattle.circus_dues.proofs.CallsBooting as booting
use Rattle.circus_dues.proofs.OutOpen.{none_at_once}
use Rattle.circus_dues.proofs.WalkRuns.{run_rises, late_runs, StartsLater}
use Rattle.circus_dues.proofs.WalkMade.{AreInOrder, all_both, quiet_later}
use Rattle.circus_dues.proofs.WalkStep.{step_by_walk}

module _ (place : Place) (boot : List View) (begins : Joiner) where
  no_call : (index : ℕ) → collated_call place boot begins index booted ≡ None
  unfolding given_call
  no_call index = rw (none_given is_same_call (expected_callers boot) place.calls []) refl

  pub none_may_start : (kept : MemberRecord) (number : ℕ) → may_start place boot begins kept number booted ≡ None
  none_may_start kept number =
      let free : Bool = is_active begins && is_free_for place boot begins kept number booted && nat_le (kept.from + number) last_count in
      ap (λ o. if free then o else None) (no_call (kept.from + number)) ∙ neither free
    where
      neither : (t : Bool) → ◌≡◌ {A = Option HeldCall} (if t then None else None) None
      neither true = refl
      neither false = refl

  pub none_may_answer : (name : AskName) (ask : AskRecord) → may_answer place boot begins name ask booted ≡ None
  none_may_answer name ask = by_test (nat_le ask.asked 0)
    where
      by_test : (t : Bool) → (if t then collated_reply place boot begins name ask booted else None) ≡ None
      by_test true = none_at_once place boot begins booted name ask tt (omega arith)
      by_test false = refl

-- ---- steps

pub not_by_and_later : (step : ℕ) (o : Option ℕ) → IsBy step o → IsLater step o → ⊥
not_by_and_later step None by late = by
not_by_and_later step (Some n) by late = omega (arith, by, late)

module _ (place : Place) (boot : List View) (begins : Joiner) (procedures : List ProcedureShape) (at_boot : ℕ) (kept : MemberRecord) where
  -- a run that may start only by a call doesn't start
  pub starts_later : (number : ℕ) (run : RunRecord) → StartsInStep place boot begins procedures at_boot kept booted number run → 0 < run.started
  starts_later number run so = by_order (cases_lt 0 run.started)
    where
      by_order : (0 < run.started) ⊎ (run.started ≤ 0) → 0 < run.started
      by_order (inl late) = late
      by_order (inr early) =
          absurd (subst (λ o. IsSomeAnd o (λ (call : HeldCall). start_of run ≡ start_by_call place.troupe procedures call)) (none_may_start place boot begins kept number) (so.starts_now (omega (arith, early))))

  none_starts : (number : ℕ) (run : RunRecord) → 0 < run.started → StartsInStep place boot begins procedures at_boot kept booted number run
  none_starts number run late = record { starts_now = λ at. absurd (omega (arith, at, late)); not_yet = λ _. none_may_start place boot begins kept number }

  none_onward : (number : ℕ) (runs : List RunRecord) → All (StartsLater 0) runs → StartOnward place boot begins procedures at_boot kept booted number runs
  none_onward number [] late = none_may_start place boot begins kept number
  none_onward number (run ∷ runs) late =
      (none_starts number run (All-head (StartsLater 0) run runs late), λ _. none_onward (suc number) runs (All-tail (StartsLater 0) run runs late))

  -- an ask isn't answered
  pub answered_later : (name : AskName) (ask : AskRecord) → IsAnsweredInStep place boot begins procedures at_boot kept booted name ask → IsLater 0 ask.answered
  answered_later name ask so = by_answer ask.answered refl
    where
      by_answer : (o : Option ℕ) → ask.answered ≡ o → IsLater 0 o
      by_answer None is = tt
      by_answer (Some zero) is =
          absurd (subst (λ o. IsSomeAnd o (λ (reply : Reply). ShowsAnswer ask (Some (0, reply)))) (none_may_answer place boot begins name ask) (so.answered_now is))
      by_answer (Some (suc n)) is = omega arith

  pub none_answers : (name : AskName) (ask : AskRecord) → IsLater 0 ask.answered → IsAnsweredInStep place boot begins procedures at_boot kept booted name ask
  none_answers name ask late =
      record {
        answered_now = λ is. absurd (let above : 0 < 0 = subst (IsLater 0) is late in omega (arith, above));
        not_yet = λ _. none_may_answer place boot begins name ask;
      }

  -- so a step is timely, where only runs that are entered are performed
  pub timely_at_boot : RunOneByOne 0 kept.runs → (entered later : List RunRecord) → kept.runs ≡ entered ++ later → length entered ≤ at_boot → All (StartsLater 0) later
      → AreAnsweredInEach place boot begins procedures at_boot kept booted 0 entered → IsTimelyStep place boot begins procedures at_boot kept booted
  timely_at_boot order entered later are few late answers =
      step_by_walk place boot begins procedures at_boot kept booted order [] entered later are none late entered later are early (none_onward (length entered) later late) answers
    where
      none : All (λ (run : RunRecord). IsBefore 0 run.ended) []
      none = All-nil (λ (run : RunRecord). IsBefore 0 run.ended)

      early : (number : ℕ) (run : RunRecord) → at_boot ≤ number → slice_get entered number ≡ Some run → run.started < 0
      early number run enough there = (let below = slice_get_within entered number run there in absurd (omega (arith, below, few, enough)))

-- ---- runs that start later

-- the first one does so, and with it all
pub all_later : (from : ℕ) (runs : List RunRecord) → RunOneByOne from runs → not (option_map_or (λ (run : RunRecord). nat_le run.started 0) (slice_get runs 0) false) ≡ true → All (StartsLater 0) runs
all_later from [] so none = All-nil (StartsLater 0)
all_later from (run ∷ runs) so none =
    late_runs 0 run.started (run ∷ runs) (omega arith, so.1, so.2, so.3) (leb-false run.started 0 (by_test (nat_le run.started 0) none))
  where
    by_test : (b : Bool) → not b ≡ true → b ≡ false
    by_test true h = absurd (true≢false (sym h))
    by_test false h = refl

pub none_yet : (o : Option RunRecord) → ((run : RunRecord) → o ≡ Some run → 0 < run.started) → not (option_map_or (λ (run : RunRecord). nat_le run.started 0) o false) ≡ true
none_yet None late = refl
none_yet (Some run) late = ap not (lt-leb run.started 0 (late run refl))

-- none of their asks is new
pub no_new_asks : (runs : List RunRecord) → AreInOrder runs → All (StartsLater 0) runs → All (λ (run : RunRecord). All (λ (ask : AskRecord). is_new booted ask ≡ false) run.asks) runs
no_new_asks runs order late =
    all_both IsRunInOrder (StartsLater 0) (λ (run : RunRecord). All (λ (ask : AskRecord). is_new booted ask ≡ false) run.asks) (λ run o e. (quiet_later 0 run o e).no_ask) runs order late

pub late_run : (run : RunRecord) → IsRunInOrder run → 0 < run.started → booting.IsLater run
late_run run order late = (late, by_end run.ended (run_rises run order))
  where
    by_end : (o : Option ℕ) → run.started ≤ unwrap_or o run.started → IfSome o (λ step. 0 < step)
    by_end None low = tt
    by_end (Some n) low = omega (arith, low, late)

-- the next one is yet to start
pub next_is_late : (runs : List RunRecord) → All (StartsLater 0) runs → StandsAt booted (slice_get runs 0) None
next_is_late [] late = tt
next_is_late (run ∷ runs) late = All-head (StartsLater 0) run runs late

-- the number of the run of an index
pub number_of : (kept : MemberRecord) (n : ℕ) (run : RunRecord) → run_of kept n ≡ Some run → (number : ℕ) × (n ≡ kept.from + number) × (slice_get kept.runs number ≡ Some run)
number_of kept n run is = by_test (nat_lt n kept.from) refl is
  where
    by_test : (b : Bool) → nat_lt n kept.from ≡ b → (if b then None else slice_get kept.runs (n - kept.from)) ≡ Some run
        → (number : ℕ) × (n ≡ kept.from + number) × (slice_get kept.runs number ≡ Some run)
    by_test true low some = absurd (let clash : ◌≡◌ {A = Option RunRecord} None (Some run) = some in cc)
    by_test false high some = (n - kept.from, (let low = ltb-false n kept.from high in omega (arith, low)), some)
