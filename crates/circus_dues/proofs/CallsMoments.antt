-- In a step there is a moment at which no run is performed, where each run that was started before it has ended; these runs are the first of the record.
use Rattle.std.proofs.Common.{◌≡◌, ℕ, zero, suc, ◌<◌, ◌≤◌, Bool, true, false, ◌&&◌, cond, List, [], ◌∷◌, filter, take, Option, Some, None, refl, sym, ap, ◌∙◌, arith}
use Rattle.std.specs.Prelude.{slice_get, nat_lt, IfSome}
use Rattle.std.specs.List.{list_all}
use Rattle.std.proofs.lemmas.Bool.{lt-ltb, le-ltb}
use Rattle.std.proofs.lemmas.Option.{same_Some}
use Rattle.circus_transfer.specs.declared.joiner.Joiner.{Joiner}
use Rattle.circus_record.specs.declared.record.MemberRecord.{MemberRecord}
use Rattle.circus_record.specs.declared.record.RunRecord.{RunRecord}
use Rattle.circus_performing.specs.Performing.{is_active}
use Rattle.circus_member_theory.specs.Past.{Past, now, phase}
use Rattle.circus_member_theory.specs.Returns.{has_ended}
use Rattle.circus_member_theory.specs.Snapshots.{runs_before}
use Rattle.circus_dues.specs.Calls.{RunOneByOne, has_moment}
use Rattle.circus_dues.proofs.CallsOpen.{none_past, starts_later}

-- those that pass a test are the first so many
first_pass : {X : Type 0} (test : X → Bool) (k : ℕ) (xs : List X) → ((m : ℕ) (x : X) → m < k → slice_get xs m ≡ Some x → test x ≡ true)
    → ((m : ℕ) (x : X) → k ≤ m → slice_get xs m ≡ Some x → test x ≡ false) → filter test xs ≡ take k xs
first_pass test zero [] pass fail = refl
first_pass test (suc k) [] pass fail = refl
first_pass test zero (x ∷ xs) pass fail =
    ap (λ b. cond b (x ∷ filter test xs) (filter test xs)) (fail 0 x (omega arith) refl)
    ∙ first_pass test zero xs (λ m y below is. absurd (omega (arith, below))) (λ m y above is. fail (suc m) y (omega arith) is)
first_pass test (suc k) (x ∷ xs) pass fail =
    ap (λ b. cond b (x ∷ filter test xs) (filter test xs)) (pass 0 x (omega arith) refl)
    ∙ ap (λ l. x ∷ l) (first_pass test k xs (λ m y below is. pass (suc m) y (omega (arith, below)) is) (λ m y above is. fail (suc m) y (omega (arith, above)) is))

all_hold : {X : Type 0} (early good : X → Bool) (xs : List X) → ((m : ℕ) (x : X) → slice_get xs m ≡ Some x → early x ≡ true → good x ≡ true) → list_all good (filter early xs) ≡ true
all_hold early good [] each = refl
all_hold early good (x ∷ xs) each = by_test (all_hold early good xs (λ m y is so. each (suc m) y is so)) (early x) refl
  where
    by_test : list_all good (filter early xs) ≡ true → (b : Bool) → early x ≡ b → list_all good (cond b (x ∷ filter early xs) (filter early xs)) ≡ true
    by_test rest true is = (λ j. each 0 x refl is j && rest j)
    by_test rest false is = rest

one_fails : {X : Type 0} (early good : X → Bool) (xs : List X) (m : ℕ) (x : X) → slice_get xs m ≡ Some x → early x ≡ true → good x ≡ false → list_all good (filter early xs) ≡ false
one_fails early good [] m x is soon bad = absurd (clash is)
  where
    clash : None ≡ Some x → ⊥
    clash eq = cc
one_fails early good (y ∷ xs) zero x is soon bad =
    let same : y ≡ x = same_Some y x is in
    ap (λ b. list_all good (cond b (y ∷ filter early xs) (filter early xs))) (ap early same ∙ soon)
    ∙ ap (λ b. b && list_all good (filter early xs)) (ap good same ∙ bad)
one_fails early good (y ∷ xs) (suc m) x is soon bad = by_test (one_fails early good xs m x is soon bad) (early y)
  where
    and_false : (b : Bool) → (b && false) ≡ false
    and_false true = refl
    and_false false = refl

    by_test : list_all good (filter early xs) ≡ false → (b : Bool) → list_all good (cond b (y ∷ filter early xs) (filter early xs)) ≡ false
    by_test rest true = ap (λ b. good y && b) rest ∙ and_false (good y)
    by_test rest false = rest

module _ (begins : Joiner) (kept : MemberRecord) (q : Past) where
  abbrev is_early : RunRecord → Bool
  is_early run = nat_lt run.started (now q)

  pub moment_at_rest : ((m : ℕ) (run : RunRecord) → slice_get kept.runs m ≡ Some run → is_early run ≡ true → has_ended run q ≡ true) → has_moment begins kept q ≡ is_active (phase begins q)
  moment_at_rest each = ap (λ b. is_active (phase begins q) && b) (all_hold is_early (λ run. has_ended run q) kept.runs each) ∙ and_true (is_active (phase begins q))
    where
      and_true : (b : Bool) → (b && true) ≡ b
      and_true true = refl
      and_true false = refl

  -- there is none, where one of them goes on
  pub no_moment : (m : ℕ) (run : RunRecord) → slice_get kept.runs m ≡ Some run → run.started < now q → has_ended run q ≡ false → has_moment begins kept q ≡ false
  no_moment m run is started goes =
      ap (λ b. is_active (phase begins q) && b) (one_fails is_early (λ r. has_ended r q) kept.runs m run is (lt-ltb run.started (now q) started) goes) ∙ and_false (is_active (phase begins q))
    where
      and_false : (b : Bool) → (b && false) ≡ false
      and_false true = refl
      and_false false = refl

  -- they are the first so many, where the next one starts in the step, or later
  pub before_are : RunOneByOne kept → (k : ℕ) → ((m : ℕ) (run : RunRecord) → m < k → slice_get kept.runs m ≡ Some run → run.started < now q) → IfSome (slice_get kept.runs k) (λ run. now q ≤ run.started)
      → runs_before kept q ≡ take k kept.runs
  before_are alone k early next =
      first_pass is_early k kept.runs (λ m run below is. lt-ltb run.started (now q) (early m run below is)) (λ m run above is. le-ltb run.started (now q) (late m run above (slice_get kept.runs k) refl next is))
    where
      late : (m : ℕ) (run : RunRecord) → k ≤ m → (o : Option RunRecord) → slice_get kept.runs k ≡ o → IfSome o (λ r. now q ≤ r.started) → slice_get kept.runs m ≡ Some run → now q ≤ run.started
      late m run up None none next is = absurd (clash (sym (none_past kept.runs k m up none) ∙ is))
        where
          clash : None ≡ Some run → ⊥
          clash eq = cc
      late m run up (Some other) at next is = (let rise = starts_later kept alone k m other run up at is in omega (arith, next, rise))
