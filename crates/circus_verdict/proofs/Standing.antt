-- A record stands exactly where each of its runs is the one that its module performs in that place.
use Rattle.std.proofs.Common.{ℕ, zero, suc, ◌≡◌, ◌∙◌, ◌<◌, ◌≤◌, ◌+◌, ◌⊎◌, inl, inr, List, [], ◌∷◌, ◌++◌, length, Option, None, Some, refl, sym, ap, subst, add-one, arith, length-append}
use Rattle.std.specs.Prelude.{IsSomeAnd, slice_get, unwrap_or}
use Rattle.std.specs.Option.{option_map_or}
use Rattle.std.proofs.lemmas.List.{same_from_push}
use Rattle.std.proofs.lemmas.List.Sums.{fold-append}
use Rattle.std.proofs.lemmas.Option.{slice_get_within}
use Rattle.circus_value.specs.ValueTree.{ValueTree}
use Rattle.circus_value.specs.declared.outcome.Outcome.{Outcome}
use Rattle.circus_model.specs.Behaviour.{Behaviour}
use Rattle.circus_model.specs.declared.history.Run.{Run}
use Rattle.circus_model.specs.History.{runs_of, run_at, state_after}
use Rattle.circus_model.proofs.Lookups.{old_or_added}
use Rattle.circus_record.specs.declared.record.AskRecord.{AskRecord}
use Rattle.circus_record.specs.declared.record.RunRecord.{RunRecord}
use Rattle.circus_record.specs.declared.record.MemberRecord.{MemberRecord}
use Rattle.circus_performing.specs.Performing as performing
use Rattle.circus_performing.specs.Performing.{last_count}
use Rattle.circus_performing.specs.Record as records
use Rattle.circus_performing.specs.Record.{IsRecord, HaveEnded}
use Rattle.circus_performing.proofs.Records.{none_is_some}
use Rattle.circus_member_theory.specs.Stands.{IsPerformed, IsUnderWay, ArePerformed, IsIdle, IsBusy, Stands}
use Rattle.circus_headline_theory.proofs.OneRun.{last_split}
use Rattle.circus_verdict.specs.Beside.{IsSoFar, IsRight}

-- ---- lists and options

so_weaker : {A : Type 0} (o : Option A) {P Q : A → Type 0} → ((x : A) → P x → Q x) → IsSomeAnd o P → IsSomeAnd o Q
so_weaker None weaker so = absurd so
so_weaker (Some x) weaker so = weaker x so

some_is : {A : Type 0} (o : Option A) {P : A → Type 0} → IsSomeAnd o P → (x : A) × (o ≡ Some x) × P x
some_is None so = absurd so
some_is (Some x) so = (x, refl, so)

some_so : {A : Type 0} (o : Option A) (P : A → Type 0) (x : A) → o ≡ Some x → P x → IsSomeAnd o P
some_so o P x is so = subst (λ p. IsSomeAnd p P) (sym is) so

at_end : {X : Type 0} (xs : List X) (x : X) → slice_get (xs ++ x ∷ []) (length xs) ≡ Some x
at_end [] x = refl
at_end (y ∷ xs) x = at_end xs x

before_end : {X : Type 0} (xs ys : List X) (n : ℕ) (x : X) → slice_get xs n ≡ Some x → slice_get (xs ++ ys) n ≡ Some x
before_end [] ys n x there = absurd (none_is_some there)
before_end (y ∷ xs) ys zero x there = there
before_end (y ∷ xs) ys (suc n) x there = before_end xs ys n x there

no_push : {X : Type 0} (xs : List X) (x : X) → xs ++ x ∷ [] ≡ [] → ⊥
no_push [] x is = cc
no_push (y ∷ xs) x is = cc

module _ (history : List (List Run)) (place : ℕ) (b : Behaviour) (began : List ValueTree) (kept : MemberRecord) (few : length (runs_of history place) ≤ last_count) where
  abbrev runs : List Run
  runs = runs_of history place

  abbrev pub AllRight : Type 0
  AllRight = (n : ℕ) → IsRight runs kept n

  -- one that performed nothing is in the state behind the runs before its first one
  abbrev pub StateRight : Type 0
  StateRight = kept.runs ≡ [] → kept.state ≡ state_after history place b.first kept.from

  -- ---- where all is right the record stands

  ended_right : (run : RunRecord) (there : Run) (outcome : Outcome) → run.outcome ≡ Some outcome → IsSoFar there run → IsPerformed there run
  ended_right run there outcome is (inl performed) = performed
  ended_right run there outcome is (inr under) = absurd (none_is_some (sym under.1.no_outcome ∙ is))

  open_right : (run : RunRecord) (there : Run) → run.outcome ≡ None → IsSoFar there run → (waiting : AskRecord) × IsUnderWay there run waiting
  open_right run there none (inl performed) = absurd (none_is_some (sym none ∙ performed.outcome))
  open_right run there none (inr under) = under

  performed_of : (xs : List RunRecord) → HaveEnded b began xs → ((n : ℕ) (run : RunRecord) → slice_get xs n ≡ Some run → slice_get kept.runs n ≡ Some run) → AllRight
      → ArePerformed history place kept.from xs
  performed_of xs ended inside right n run there =
      let h = ended n run there in
      so_weaker (slice_get runs (kept.from + n)) (λ x so. ended_right run x h.outcome h.outcome_is so) (right n run (inside n run there))

  reach : (n : ℕ) (run : RunRecord) → AllRight → slice_get kept.runs n ≡ Some run → kept.from + n < length runs
  reach n run right there = (let s = some_is (slice_get runs (kept.from + n)) (right n run there) in slice_get_within runs (kept.from + n) s.0 s.1)

  all_fit : kept.from ≤ length runs → AllRight → kept.from + length kept.runs ≤ length runs
  all_fit within right = elim (last_split kept.runs) [
    | inl none ↦ (let l : length kept.runs ≡ 0 = ap length none in omega (arith, l, within))
    | inr some ↦ (
        let below = reach (length some.0) some.1 right (ap (λ l. slice_get l (length some.0)) some.2 ∙ at_end some.0 some.1) in
        let l : length kept.runs ≡ length some.0 + 1 = ap length some.2 ∙ length-append some.0 (some.1 ∷ []) in
        omega (arith, below, l))
  ]

  idle_stands : records.IsIdle b began kept → kept.from ≤ length runs → AllRight → StateRight → Stands history place b.first kept
  idle_stands idle within right state = record {
    within = omega (arith, fit, count);
    now = inl (record { runs = performed; count = count; state = state_is (last_split kept.runs) });
  }
    where
      fit : kept.from + length kept.runs ≤ length runs
      fit = all_fit within right

      count : kept.count ≡ kept.from + length kept.runs
      count = idle.count ∙ (let f = fit in let most = few in omega (arith, f, most))

      performed : ArePerformed history place kept.from kept.runs
      performed = performed_of kept.runs idle.runs (λ n run there. there) right

      state_is : ((kept.runs ≡ []) ⊎ ((front : List RunRecord) × (x : RunRecord) × (kept.runs ≡ front ++ x ∷ []))) → kept.state ≡ state_after history place b.first kept.count
      state_is (inl none) = state none ∙ ap (state_after history place b.first) (let l : length kept.runs ≡ 0 = ap length none in omega (arith, l, count))
      state_is (inr some) =
          let there = ap (λ l. slice_get l (length some.0)) some.2 ∙ at_end some.0 some.1 in
          let s = some_is (run_at history place (kept.from + length some.0)) (performed (length some.0) some.1 there) in
          let next : kept.count ≡ suc (kept.from + length some.0) =
          (let l : length kept.runs ≡ length some.0 + 1 = ap length some.2 ∙ length-append some.0 (some.1 ∷ []) in
          let c : kept.count ≡ kept.from + length some.0 + 1 = omega (arith, l, count) in c ∙ add-one (kept.from + length some.0)) in
          idle.state
          ∙ ap (performing.state_after began) some.2
          ∙ fold-append (λ (before : List ValueTree) (r : RunRecord). unwrap_or r.state before) began some.0 (some.1 ∷ [])
          ∙ ap (λ o. unwrap_or o (performing.state_after began some.0)) s.2.state
          ∙ sym (ap (λ o. option_map_or (λ (r : Run). r.state) o b.first) s.1)
          ∙ sym (ap (state_after history place b.first) next)

  busy_stands : records.IsPerforming b began kept → AllRight → Stands history place b.first kept
  busy_stands p right = record {
    within = omega (arith, below, count);
    now = inr (record {
      before = p.before;
      last = p.run;
      waiting = under.0;
      runs_are = p.runs_are;
      runs = performed_of p.before p.runs (λ n run there. ap (λ l. slice_get l n) p.runs_are ∙ before_end p.before (p.run ∷ []) n run there) right;
      count = count;
      under_way = some_so (run_at history place kept.count) (λ (x : Run). IsUnderWay x p.run under.0) s.0 (ap (run_at history place) count ∙ s.1) under.1;
      state = p.state ∙ ap (λ (a : AskRecord). a.state) (sym (same_from_push under.1.made p.waiting.before under.0 p.waiting.ask (sym under.1.asks ∙ p.waiting.asks_are)).1);
    });
  }
    where
      there : slice_get kept.runs (length p.before) ≡ Some p.run
      there = ap (λ l. slice_get l (length p.before)) p.runs_are ∙ at_end p.before p.run

      s : (x : Run) × (slice_get runs (kept.from + length p.before) ≡ Some x) × IsSoFar x p.run
      s = some_is (slice_get runs (kept.from + length p.before)) (right (length p.before) p.run there)

      under : (waiting : AskRecord) × IsUnderWay s.0 p.run waiting
      under = open_right p.run s.0 p.waiting.no_outcome s.2

      below : kept.from + length p.before < length runs
      below = slice_get_within runs (kept.from + length p.before) s.0 s.1

      count : kept.count ≡ kept.from + length p.before
      count = p.count ∙ (let f = below in let most = few in omega (arith, f, most))

  pub right_stands : IsRecord b began kept → kept.from ≤ length runs → AllRight → StateRight → Stands history place b.first kept
  right_stands r within right state = elim r.now [ inl idle ↦ idle_stands idle within right state | inr p ↦ busy_stands p right ]

  -- ---- and where it stands all is right

  pub record IsAllRight : Type 0 where
    pub within : kept.from ≤ length runs
    pub right : AllRight
    pub state : StateRight

  pub stands_right : Stands history place b.first kept → IsAllRight
  stands_right stands = by_now stands.now
    where
      by_now : (IsIdle history place b.first kept ⊎ IsBusy history place kept) → IsAllRight
      by_now (inl idle) = record {
        within = (let w = stands.within in let c = idle.count in omega (arith, w, c));
        right = λ n run there. so_weaker (slice_get runs (kept.from + n)) (λ x so. inl so) (idle.runs n run there);
        state = λ none. idle.state ∙ ap (state_after history place b.first) (let l : length kept.runs ≡ 0 = ap length none in let c = idle.count in omega (arith, l, c));
      }
      by_now (inr busy) = record {
        within = (let w = stands.within in let c = busy.count in omega (arith, w, c));
        right = λ n run there. by_place n run (old_or_added busy.before busy.last n run (ap (λ l. slice_get l n) (sym busy.runs_are) ∙ there));
        state = λ none. absurd (no_push busy.before busy.last (sym busy.runs_are ∙ none));
      }
        where
          by_place : (n : ℕ) (run : RunRecord) → (slice_get busy.before n ≡ Some run) ⊎ ((n ≡ length busy.before) × (busy.last ≡ run))
              → IsSomeAnd (slice_get runs (kept.from + n)) (λ (x : Run). IsSoFar x run)
          by_place n run (inl old) = so_weaker (slice_get runs (kept.from + n)) (λ x so. inl so) (busy.runs n run old)
          by_place n run (inr last) =
              let s = some_is (run_at history place kept.count) busy.under_way in
              some_so (slice_get runs (kept.from + n)) (λ (x : Run). IsSoFar x run) s.0
              (ap (slice_get runs) (let c = busy.count in let l = last.0 in omega (arith, c, l)) ∙ s.1)
              (subst (λ r. IsSoFar s.0 r) last.1 (inr (busy.waiting, s.2)))

  -- the state of one that performed nothing is that with which it became active
  pub state_began : IsRecord b began kept → kept.runs ≡ [] → kept.state ≡ began
  state_began r none = elim r.now [
    | inl idle ↦ idle.state ∙ ap (performing.state_after began) none
    | inr p ↦ absurd (no_push p.before p.run (sym p.runs_are ∙ none))
  ]
