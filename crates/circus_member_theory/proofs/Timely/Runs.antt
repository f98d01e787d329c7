-- Runs of a record that started in time, as more of them start and the last one goes on.
use Rattle.std.proofs.Common.{◌≡◌, ℕ, zero, suc, ◌+◌, ◌<◌, ◌≤◌, ◌&&◌, nat_le, Bool, true, false, cond, if◌then◌else◌, List, [], ◌∷◌, ◌++◌, length, take, Option, None, Some, ◌⊎◌, inl, inr, refl, ap, sym, subst, ◌∙◌, arith}
use Rattle.std.specs.Prelude.{IsSomeAnd, slice_get}
use Rattle.std.specs.Option.{option_map_or}
use Rattle.std.proofs.lemmas.Bool.{lt-leb}
use Rattle.std.proofs.lemmas.List.{take-append-le}
use Rattle.std.proofs.lemmas.Option.{slice_get_within}
use Rattle.std.proofs.Math.Seq.{take-append_seam}
use Rattle.circus_value.specs.ValueTree.{ValueTree}
use Rattle.circus_value.specs.declared.outcome.Outcome.{Outcome}
use Rattle.circus_collate.specs.declared.view.View.{View}
use Rattle.circus_transfer.specs.declared.joiner.Joiner.{Joiner}
use Rattle.circus_transfer.specs.declared.joiner.Joiner.TheVariants.{Outside}
use Rattle.circus_model.specs.Execution.{is_spent}
use Rattle.circus_model.specs.NextTurn.{NextTurn, asks, ends}
use Rattle.circus_model.specs.declared.signature.ProcedureShape.{ProcedureShape}
use Rattle.circus_model.proofs.Lookups.{grown, within, at_end, old_or_added}
use Rattle.circus_record.specs.declared.record.AskRecord.{AskRecord}
use Rattle.circus_record.specs.declared.record.RunRecord.{RunRecord}
use Rattle.circus_record.specs.declared.record.MemberRecord.{MemberRecord}
use Rattle.circus_gather.specs.declared.held.HeldCall.{HeldCall}
use Rattle.circus_performing.specs.Performing.{is_active, clock_after, replies_of, made_ask, with_ask, with_refusal, answered_ask, refusal, turn_run, gone_on, last_count}
use Rattle.circus_performing.specs.Record.{start_of}
use Rattle.circus_member_rules.specs.declared.place.Place.{Place}
use Rattle.circus_member_rules.specs.declared.occurrence.AskName.{AskName}
use Rattle.circus_member_rules.specs.Step.{start_by_call}
use Rattle.circus_member_theory.specs.Past.{Past, now, Rises, phase}
use Rattle.circus_member_theory.specs.First.{first_given}
use Rattle.circus_member_theory.specs.Timely.{ShowsAnswer, IsMain, collated_call, is_free_for, may_start, may_answer, IsStartedInTime}
use Rattle.circus_member_theory.proofs.Timely.Firsts.{earlier, same_first, none_earlier}

same_there : {X : Type 0} (xs : List X) (x : X) (n : ℕ) → n < length xs → slice_get (xs ++ x ∷ []) n ≡ slice_get xs n
same_there xs x n below = let w = within xs n below in grown xs (x ∷ []) n w.0 w.1 ∙ sym w.1

-- a record with these runs from this index on
abbrev pub kept_of : ℕ → List RunRecord → MemberRecord
kept_of from runs = record { phase = Outside; from = from; active_at = 0; count = 0; runs = runs; state = [] }

abbrev pub named : ℕ → ℕ → ℕ → AskName
named from number ask = record { run = from + number; ask = ask }

-- it ended in a step that isn't behind this past
abbrev pub ended_by : Option ℕ → Past → Bool
ended_by ended q = option_map_or (λ step. nat_le step (now q)) ended false

-- it hasn't before a step
abbrev pub NotBefore : ℕ → Option ℕ → Type 0
NotBefore step ended = (q : Past) → now q < step → ended_by ended q ≡ false

-- it hasn't, or in this step
abbrev pub EndsNow : ℕ → Option ℕ → Type 0
EndsNow step ended = (ended ≡ None) ⊎ (ended ≡ Some step)

pub not_before : (step : ℕ) (ended : Option ℕ) → EndsNow step ended → NotBefore step ended
not_before step ended (inl none) = λ q before. rw none refl
not_before step ended (inr some) = λ q before. rw some (lt-leb step (now q) before)

-- ---- asks of a run whose thread has calls left

abbrev pub AsksSo : (ℕ → AskRecord → Type 0) → List ℕ → List AskRecord → Type 0
AsksSo P entry made = (n : ℕ) (ask : AskRecord) → slice_get made n ≡ Some ask → is_spent (clock_after entry (take n made)) ≡ false → P n ask

pub asks_more : (P : ℕ → AskRecord → Type 0) (entry : List ℕ) (made : List AskRecord) (ask : AskRecord) → AsksSo P entry made
    → (is_spent (clock_after entry made) ≡ false → P (length made) ask)
    → AsksSo P entry (made ++ ask ∷ [])
asks_more P entry made ask so new n a there left =
    elim (old_or_added made ask n a there) [
      | inl old ↦
          let below : n < length made = slice_get_within made n a old in
          so n a old (ap (λ (xs : List AskRecord). is_spent (clock_after entry xs)) (sym (take-append-le n made (ask ∷ []) (omega (arith, below)))) ∙ left)
      | inr added ↦
          let all : take n (made ++ ask ∷ []) ≡ made = ap (λ k. take k (made ++ ask ∷ [])) added.0 ∙ take-append_seam made (ask ∷ []) in
          subst (λ k. P k a) (sym added.0) (subst (P (length made)) added.1 (new (ap (λ (xs : List AskRecord). is_spent (clock_after entry xs)) (sym all) ∙ left)))
    ]

pub asks_less : (P : ℕ → AskRecord → Type 0) (entry : List ℕ) (made : List AskRecord) (ask : AskRecord) → AsksSo P entry (made ++ ask ∷ [])
    → AsksSo P entry made × (is_spent (clock_after entry made) ≡ false → P (length made) ask)
asks_less P entry made ask so = (
  λ n a there left.
      let below : n < length made = slice_get_within made n a there in
      so n a (grown made (ask ∷ []) n a there) (ap (λ (xs : List AskRecord). is_spent (clock_after entry xs)) (take-append-le n made (ask ∷ []) (omega (arith, below))) ∙ left),
  λ left. so (length made) ask (at_end made ask) (ap (λ (xs : List AskRecord). is_spent (clock_after entry xs)) (take-append_seam made (ask ∷ [])) ∙ left),
)

-- an ask that is made in a step and waits
pub record IsNew (step : ℕ) (ask : AskRecord) : Type 0 where
  pub asked : ask.asked ≡ step
  pub not_answered : ask.answered ≡ None
  pub no_reply : ask.reply ≡ None
  pub no_clock : ask.after ≡ None

-- ---- a run goes on in a step

pub record IsGone (P : ℕ → AskRecord → Type 0) (step : ℕ) (run later : RunRecord) : Type 0 where
  pub start : start_of later ≡ start_of run
  pub started : later.started ≡ run.started
  pub ended : EndsNow step later.ended
  pub asks_so : AsksSo P run.entry later.asks

module _ (P : ℕ → AskRecord → Type 0) (step : ℕ) (new : (n : ℕ) (ask : AskRecord) → IsNew step ask → P n ask) (turn : List Outcome → NextTurn) where
  pub gone_so : (left : ℕ) (run : RunRecord) → run.ended ≡ None → AsksSo P run.entry run.asks → IsGone P step run (gone_on step turn left run)
  unfolding gone_on
  gone_so zero run open_now so = record { start = refl; started = refl; ended = inl open_now; asks_so = so }
  gone_so (suc left) run open_now so = by_turn (gone_so left) (turn (replies_of run.asks))
    where
      by_clock : ((r : RunRecord) → r.ended ≡ None → AsksSo P r.entry r.asks → IsGone P step r (gone_on step turn left r)) → (callee procedure : ℕ)
          (arguments state : List ValueTree) (spent : Bool) → is_spent (clock_after run.entry run.asks) ≡ spent
          → IsGone P step run (cond spent (gone_on step turn left (with_refusal step callee procedure arguments state run))
          (with_ask run (made_ask step (clock_after run.entry run.asks) callee procedure arguments state)))
      by_clock rest callee procedure arguments state true spent =
          let later = with_refusal step callee procedure arguments state run in
          let clock = clock_after run.entry run.asks in
          let more = asks_more P run.entry run.asks (answered_ask step refusal clock (made_ask step clock callee procedure arguments state)) so (λ left. cc) in
          let r = rest later open_now more in
          record { start = r.start; started = r.started; ended = r.ended; asks_so = r.asks_so }
      by_clock rest callee procedure arguments state false spent =
          let made = made_ask step (clock_after run.entry run.asks) callee procedure arguments state in
          record {
            start = refl;
            started = refl;
            ended = inl open_now;
            asks_so = asks_more P run.entry run.asks made so (λ _. new (length run.asks) made (record { asked = refl; not_answered = refl; no_reply = refl; no_clock = refl }));
          }

      by_turn : ((r : RunRecord) → r.ended ≡ None → AsksSo P r.entry r.asks → IsGone P step r (gone_on step turn left r)) → (next : NextTurn)
          → IsGone P step run (turn_run step (gone_on step turn left) run next)
      by_turn rest (ends outcome state) = record { start = refl; started = refl; ended = inr refl; asks_so = so }
      by_turn rest (asks callee procedure arguments state) = by_clock rest callee procedure arguments state (is_spent (clock_after run.entry run.asks)) refl

module _ (place : Place) (boot : List View) (begins : Joiner) where
  -- ---- when a run may start

  -- a run of this number may start, behind these
  abbrev pub may_by : ℕ → List RunRecord → ℕ → Past → Option HeldCall
  may_by from runs = may_start place boot begins (kept_of from runs)

  free_more : (from : ℕ) (runs : List RunRecord) (run : RunRecord) (number : ℕ) (q : Past) → number ≤ length runs
      → is_free_for place boot begins (kept_of from (runs ++ run ∷ [])) number q ≡ is_free_for place boot begins (kept_of from runs) number q
  free_more from runs run zero q below = refl
  free_more from runs run (suc n) q below = ap (λ o. option_map_or (λ (r : RunRecord). ended_by r.ended q) o false) (same_there runs run n (omega arith))

  may_more : (from : ℕ) (runs : List RunRecord) (run : RunRecord) (number : ℕ) (q : Past) → number ≤ length runs → may_by from (runs ++ run ∷ []) number q ≡ may_by from runs number q
  may_more from runs run number q below =
      ap (λ t. if is_active (phase begins q) && t && nat_le (from + number) last_count then collated_call place boot begins (from + number) q else None)
      (free_more from runs run number q below)

  none_where : {X : Type 0} (a c : Bool) (x : Option X) → (if a && false && c then x else None) ≡ None
  none_where true c x = refl
  none_where false c x = refl

  -- not before the run before it has ended
  pub not_free : (from : ℕ) (runs : List RunRecord) (run : RunRecord) (n : ℕ) (q : Past) → slice_get runs n ≡ Some run → ended_by run.ended q ≡ false
      → may_by from runs (suc n) q ≡ None
  not_free from runs run n q there open_then =
      let free : is_free_for place boot begins (kept_of from runs) (suc n) q ≡ false = rw there open_then in
      ap (λ t. if is_active (phase begins q) && t && nat_le (from + suc n) last_count then collated_call place boot begins (from + suc n) q else None) free
      ∙ none_where (is_active (phase begins q)) (nat_le (from + suc n) last_count) (collated_call place boot begins (from + suc n) q)

  pub next_more : (from : ℕ) (runs : List RunRecord) (run : RunRecord) (p : Past) → Rises p → NotBefore (now p) run.ended
      → earlier (may_by from (runs ++ run ∷ []) (suc (length runs))) p ≡ None
  next_more from runs run p rises open_then =
      none_earlier (may_by from (runs ++ run ∷ []) (suc (length runs))) p rises
      (λ q before. not_free from (runs ++ run ∷ []) run (length runs) q (at_end runs run) (open_then q before))

  -- ---- runs and asks in time

  -- an ask that waits, and might not be answered before
  pub record IsStillWaiting (p : Past) (name : AskName) (ask : AskRecord) : Type 0 where
    pub not_answered : ask.answered ≡ None
    pub no_reply : ask.reply ≡ None
    pub no_clock : ask.after ≡ None
    pub nothing : earlier (may_answer place boot begins name ask) p ≡ None

  -- an ask of a run was answered in time, or waits
  abbrev pub IsInTime : Past → AskName → AskRecord → Type 0
  IsInTime p name ask = ShowsAnswer ask (first_given (may_answer place boot begins name ask) p) ⊎ IsStillWaiting p name ask

  module _ (procedures : List ProcedureShape) (at_boot : ℕ) (p : Past) where
    pub record RunSo (from : ℕ) (runs : List RunRecord) (number : ℕ) (run : RunRecord) : Type 0 where
      pub boots : number < at_boot → IsMain place.troupe boot run
      pub starts : at_boot ≤ number → IsStartedInTime place boot begins procedures at_boot (kept_of from runs) p number run
      pub answers : AsksSo (λ n. IsInTime p (named from number n)) run.entry run.asks

    abbrev pub RunsSo : ℕ → List RunRecord → Type 0
    RunsSo from runs = (number : ℕ) (run : RunRecord) → slice_get runs number ≡ Some run → RunSo from runs number run

    abbrev GivenSo : RunRecord → Option (ℕ × HeldCall) → Type 0
    GivenSo r o = IsSomeAnd o (λ given. (r.started ≡ given.0) × (start_of r ≡ start_by_call place.troupe procedures given.1))

    module _ (rises : Rises p) (from : ℕ) (runs : List RunRecord) (run : RunRecord) where
      same_more : (number : ℕ) → number ≤ length runs → first_given (may_by from (runs ++ run ∷ []) number) p ≡ first_given (may_by from runs number) p
      same_more number below = same_first (may_by from (runs ++ run ∷ []) number) (may_by from runs number) (now p) p rises (omega arith)
          (λ q _. may_more from runs run number q below)

      so_more : (number : ℕ) (r : RunRecord) → number ≤ length runs → RunSo from runs number r → RunSo from (runs ++ run ∷ []) number r
      so_more number r below h = record { boots = h.boots; starts = λ is. subst (GivenSo r) (sym (same_more number below)) (h.starts is); answers = h.answers }

      so_less : (number : ℕ) (r : RunRecord) → number ≤ length runs → RunSo from (runs ++ run ∷ []) number r → RunSo from runs number r
      so_less number r below h = record { boots = h.boots; starts = λ is. subst (GivenSo r) (same_more number below) (h.starts is); answers = h.answers }

      pub runs_more : RunsSo from runs → RunSo from runs (length runs) run → RunsSo from (runs ++ run ∷ [])
      runs_more so new number r there =
          elim (old_or_added runs run number r there) [
            | inl old ↦ let below : number < length runs = slice_get_within runs number r old in so_more number r (omega arith) (so number r old)
            | inr added ↦ subst (λ n. RunSo from (runs ++ run ∷ []) n r) (sym added.0) (subst (RunSo from (runs ++ run ∷ []) (length runs)) added.1
                (so_more (length runs) run (omega arith) new))
          ]

      pub runs_less : RunsSo from (runs ++ run ∷ []) → RunsSo from runs × RunSo from runs (length runs) run
      runs_less so = (
        λ number r there. let below : number < length runs = slice_get_within runs number r there in so_less number r (omega arith)
            (so number r (grown runs (run ∷ []) number r there)),
        so_less (length runs) run (omega arith) (so (length runs) run (at_end runs run)),
      )
