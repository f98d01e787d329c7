-- Behind boot a record that is in time then is in time so far.
use Rattle.std.proofs.Common.{◌≡◌, ℕ, zero, suc, ◌+◌, ◌-◌, ◌<◌, ◌≤◌, ◌⊎◌, inl, inr, Bool, true, not, false, if◌then◌else◌, List, [], ◌∷◌, ◌++◌, length, take, Option, None, Some, refl, sym, ap, subst, ◌∙◌, arith, append_assoc}
use Rattle.std.specs.Prelude.{slice_get, is_some, unwrap_or}
use Rattle.std.proofs.lemmas.Bool.{and_from, eq-eqb, cases_lt}
use Rattle.std.proofs.lemmas.Option.{same_Some}
use Rattle.circus_value.specs.ValueTree.{ValueTree}
use Rattle.circus_collate.specs.declared.view.View.{View}
use Rattle.circus_transfer.specs.declared.joiner.Joiner.{Joiner}
use Rattle.circus_model.specs.Execution.{is_spent}
use Rattle.circus_model.specs.declared.signature.ProcedureShape.{ProcedureShape}
use Rattle.circus_model.specs.declared.signature.Signature.{Signature}
use Rattle.circus_record.specs.declared.record.AskRecord.{AskRecord}
use Rattle.circus_record.specs.declared.record.MemberRecord.{MemberRecord}
use Rattle.circus_record.specs.declared.record.RunRecord.{RunRecord}
use Rattle.circus_fanout.specs.Asking.{Asking}
use Rattle.circus_performing.specs.Performing.{is_active, clock_after}
use Rattle.circus_member_rules.specs.declared.place.Place.{Place}
use Rattle.circus_member_rules.specs.declared.occurrence.AskName.{AskName}
use Rattle.circus_member_rules.specs.declared.occurrence.Effect.{Effect}
use Rattle.circus_member_rules.specs.OpenAsks.{asking_of}
use Rattle.circus_member_theory.specs.Past.{Past, booted}
use Rattle.circus_member_theory.specs.Asks.{as_made, asks_from, asks_of, is_new, new_asks, open_asks}
use Rattle.circus_dues.specs.declared.owing.Owing.{Owing}
use Rattle.circus_dues.specs.Dues.{IsLawful, StandsAt, HasComeTo, IsOwedAtBoot, CameInSteps, KeepsOpen, IsInTimeSoFar}
use Rattle.circus_dues.specs.Walk.{IsTimelyStep}
use Rattle.circus_dues.specs.declared.walk.Walk.{Walk}
use Rattle.circus_headline_theory.proofs.One.{take_front}
use Rattle.circus_dues.proofs.Beginning.{starts_later}
use Rattle.circus_dues.proofs.OutNew as new
use Rattle.circus_dues.proofs.OutValue.{kept_at_boot}
use Rattle.circus_dues.proofs.WalkNew.{from_both}

-- ---- what is at a place

record Split {X : Type 0} (xs : List X) (x : X) (place : ℕ) : Type 0 where
  front : List X
  behind : List X
  are : xs ≡ front ++ x ∷ behind
  long : length front ≡ place

split_at : {X : Type 0} (xs : List X) (place : ℕ) (x : X) → slice_get xs place ≡ Some x → Split xs x place
split_at {X} [] place x is = absurd (let clash : ◌≡◌ {A = Option X} None (Some x) = is in cc)
split_at (y ∷ ys) zero x is = record { front = []; behind = ys; are = ap (λ z. z ∷ ys) (same_Some y x is); long = refl }
split_at (y ∷ ys) (suc n) x is =
    let s = split_at ys n x is in
    let long = s.long in
    record { front = y ∷ s.front; behind = s.behind; are = ap (λ l. y ∷ l) s.are; long = omega (arith, long) }

-- ---- the asks that are made

record HasNew (place : Place) (boot : List View) (kept : MemberRecord) (p : Past) (e : AskName × Asking) : Type 0 where
  before : List (AskName × Asking)
  later : List (AskName × Asking)
  are : new_asks place boot kept p ≡ before ++ e ∷ later

-- a new ask of a thread that has calls left is one of them
new_there : (place : Place) (boot : List View) (kept : MemberRecord) (p : Past) (front behind : List RunRecord) (run : RunRecord) (made more : List AskRecord) (ask : AskRecord)
    → kept.runs ≡ front ++ run ∷ behind → run.asks ≡ made ++ ask ∷ more → is_new p ask ≡ true → is_spent (clock_after run.entry made) ≡ false
    → HasNew place boot kept p (as_made place (kept.from + length front) run.root run.path (0 + length made) (clock_after run.entry made) ask)
new_there place boot kept p front behind run made more ask are asks_are is_now left =
    record {
      before = earlier ++ old;
      later = on ++ next;
      are = ap (asks_of place (is_new p) kept.from) are
          ∙ new.of_both place (is_new p) kept.from front (run ∷ behind)
          ∙ ap (λ l. earlier ++ (l ++ next)) of_run
          ∙ ap (λ l. earlier ++ l) (append_assoc old (e ∷ on) next)
          ∙ sym (append_assoc earlier old (e ∷ (on ++ next)));
    }
  where
    e : AskName × Asking
    e = as_made place (kept.from + length front) run.root run.path (0 + length made) (clock_after run.entry made) ask

    earlier : List (AskName × Asking)
    earlier = asks_of place (is_new p) kept.from front

    old : List (AskName × Asking)
    old = asks_from place (is_new p) (kept.from + length front) run.root run.path 0 run.entry made

    on : List (AskName × Asking)
    on = asks_from place (is_new p) (kept.from + length front) run.root run.path (0 + length made + 1) (unwrap_or ask.after (clock_after run.entry made)) more

    next : List (AskName × Asking)
    next = asks_of place (is_new p) (kept.from + length front + 1) behind

    of_run : asks_from place (is_new p) (kept.from + length front) run.root run.path 0 run.entry run.asks ≡ old ++ e ∷ on
    of_run =
        ap (asks_from place (is_new p) (kept.from + length front) run.root run.path 0 run.entry) asks_are
        ∙ from_both place (is_new p) (kept.from + length front) run.root run.path 0 run.entry made (ask ∷ more)
        ∙ ap (λ l. old ++ l)
        (new.passed place (is_new p) (kept.from + length front) run.root run.path (0 + length made) (clock_after run.entry made) ask more
        (and_from (is_new p ask) (not (is_spent (clock_after run.entry made))) is_now (ap not left)))

module _ (place : Place) (boot : List View) (begins : Joiner) (first : List ValueTree) (kept : MemberRecord) where
  -- the ask that waits at boot is open
  keeps_open : (at_boot : ℕ) (walk : Walk) → HasComeTo kept booted walk → KeepsOpen boot begins first at_boot place kept booted walk
  keeps_open at_boot walk h run count ask there is here known =
      let stands : StandsAt booted (Some run) (Some count) = subst (StandsAt booted (Some run)) is (subst (λ o. StandsAt booted o walk.asked) there h.next) in
      let asked = stands.2 in
      let some = asked.some in
      let low = asked.made (count - 1) ask (omega (arith, some)) here in
      let runs = split_at kept.runs walk.ended run there in
      let asks = split_at run.asks (count - 1) ask here in
      let left : is_spent (clock_after run.entry asks.front) ≡ false = ap (λ l. is_spent (clock_after run.entry l)) (sym (front_is run.asks ask (count - 1) asks)) ∙ asked.calls_left in
      let made = new_there place boot kept booted runs.front runs.behind run asks.front asks.behind ask runs.are asks.are (eq-eqb ask.asked 0 (omega (arith, low))) left in
      let e = as_made place (kept.from + length runs.front) run.root run.path (0 + length asks.front) (clock_after run.entry asks.front) ask in
      let opened = kept_at_boot place boot kept made.before e made.later ask refl made.are known in
      let ended = runs.long in
      let number = asks.long in
      let same : kept.from + length runs.front ≡ kept.from + walk.ended = omega (arith, ended) in
      let place_is : 0 + length asks.front ≡ count - 1 = omega (arith, number) in
      subst (λ n. is_some (asking_of (open_asks place boot kept booted) (record { run = kept.from + walk.ended; ask = n })) ≡ true) place_is
      (subst (λ n. is_some (asking_of (open_asks place boot kept booted) (record { run = n; ask = 0 + length asks.front })) ≡ true) same opened)
    where
      front_is : (xs : List AskRecord) (x : AskRecord) (n : ℕ) → (s : Split xs x n) → take n xs ≡ s.front
      front_is xs x n s = ap (λ k. take k xs) (sym s.long) ∙ ap (take (length s.front)) s.are ∙ take_front s.front (x ∷ s.behind)

  came_at_boot : (at_boot : ℕ) → CameInSteps boot begins first at_boot kept booted
  came_at_boot at_boot =
      record {
        starts = λ number run there early. omega (arith, early);
        answers = λ number place_of run ask step there here left is early. omega (arith, early);
      }

-- ---- a run that has started

-- at boot only a run that is entered starts
started_early : (place : Place) (boot : List View) (begins : Joiner) (procedures : List ProcedureShape) (at_boot : ℕ) (kept : MemberRecord) → IsTimelyStep place boot begins procedures at_boot kept booted
    → (number : ℕ) (run : RunRecord) → slice_get kept.runs number ≡ Some run → run.started ≤ 0 → 0 < at_boot
started_early place boot begins procedures at_boot kept step number run there early = by_order (cases_lt number at_boot)
  where
    by_order : (number < at_boot) ⊎ (at_boot ≤ number) → 0 < at_boot
    by_order (inl below) = omega (arith, below)
    by_order (inr high) =
        absurd (let late = starts_later place boot begins procedures at_boot kept number run (step.starts number run high there) in omega (arith, early, late))

-- where runs are entered as a root is active, one that enters any is
pub entered_active : (root : Bool) (begins : Joiner) → 0 < (if is_active begins then (if root then 1 else 0) else 0) → is_active begins ≡ true
entered_active root begins = by_active (is_active begins)
  where
    by_active : (b : Bool) → 0 < (if b then (if root then 1 else 0) else 0) → b ≡ true
    by_active true some = refl
    by_active false some = absurd (omega (arith, some))

-- what is owed at boot is what is kept of it, where only a member that is active enters runs
pub begins_in_time_so_far : (place : Place) (declared : Signature) (boot : List View) (begins : Joiner) (first : List ValueTree) (at_boot : ℕ) (kept : MemberRecord) (d : Owing) (effects : List Effect)
    → (0 < at_boot → is_active begins ≡ true) → IsLawful kept → d.is_timely ≡ true → IsOwedAtBoot place boot begins first kept declared.procedures at_boot d effects
    → IsInTimeSoFar boot begins first at_boot booted (record { place = place; signature = declared; kept = kept; owing = d })
begins_in_time_so_far place declared boot begins first at_boot kept d effects enters lawful timely owed =
    record {
      timely = timely;
      lawful = lawful;
      order = owed.in_time.order;
      boots = owed.in_time.boots;
      active = λ number run there early. enters (started_early place boot begins declared.procedures at_boot kept owed.in_time.step number run there early);
      from_is = λ active. (owed.in_time.founded active).from_is;
      in_steps = came_at_boot place boot begins first kept at_boot;
      keeps_open = keeps_open place boot begins first kept at_boot d.walk owed.dues.comes_to;
      dues = owed.dues;
    }
