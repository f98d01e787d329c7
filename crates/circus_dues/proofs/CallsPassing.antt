-- What is kept of the calls in, as the runs of a record are passed one by one in a step.
use Rattle.std.proofs.Common.{◌≡◌, ℕ, ◌+◌, ◌-◌, ◌<◌, ◌≤◌, Bool, true, false, ◌&&◌, ◌||◌, ◌⊎◌, inl, inr, if◌then◌else◌, [], Option, Some, None, refl, sym, ap, ◌∙◌, arith}
use Rattle.std.specs.Prelude.{List, slice_get, nat_eq, nat_lt, nat_le}
use Rattle.std.specs.Option.{option_map_or}
use Rattle.std.proofs.lemmas.Bool.{true≢false, ltb-true, ltb-false, lt-ltb, le-ltb, eq-eqb}
use Rattle.std.proofs.lemmas.Bool.Decides.{eqb_tells, leb_tells}
use Rattle.circus_value.specs.ValueTree.{ValueTree}
use Rattle.circus_collate.specs.declared.view.View.{View}
use Rattle.circus_transfer.specs.declared.joiner.Joiner.{Joiner}
use Rattle.circus_record.specs.declared.record.MemberRecord.{MemberRecord}
use Rattle.circus_record.specs.declared.record.RunRecord.{RunRecord}
use Rattle.circus_gather.specs.Gathering.{Gathered, is_of_index, answered_by_end, with_end}
use Rattle.circus_member_rules.specs.declared.place.Place.{Place}
use Rattle.circus_member_rules.specs.declared.occurrence.Occurrence.{Occurrence}
use Rattle.circus_member_rules.specs.Messages.{reply_message}
use Rattle.circus_member_rules.specs.Rules.{answers}
use Rattle.circus_member_rules.specs.Step.{reply_of_run}
use Rattle.circus_member_theory.specs.Past.{Past, followed, now, Rises}
use Rattle.circus_member_theory.specs.Order.{is_answered_by_end, returns_now}
use Rattle.circus_member_theory.specs.Returns.{run_of, has_ended}
use Rattle.circus_dues.specs.Calls.{NoneBetween, is_open, is_index, IsKeptOf, IsKeptAmid, ends_among}
use Rattle.circus_dues.proofs.CallsEnding.{same_done, returned_by_end, ended_amid, none_by_end, all_ended, kept_then}
use Rattle.circus_dues.proofs.CallsRuns.{Fares, fares}

and_false : (b : Bool) → (b && false) ≡ false
and_false true = refl
and_false false = refl

-- the run of an index, by its number
pub run_at : (kept : MemberRecord) (k : ℕ) → run_of kept (kept.from + k) ≡ slice_get kept.runs k
run_at kept k =
    let same : (kept.from + k) - kept.from ≡ k = omega arith in
    ap (λ b. if b then None else slice_get kept.runs ((kept.from + k) - kept.from)) (le-ltb (kept.from + k) kept.from (omega arith)) ∙ ap (slice_get kept.runs) same

-- a run ends in a step
abbrev pub ends_in : ℕ → RunRecord → Bool
ends_in step run = option_map_or (nat_eq step) run.ended false

module _ (kept : MemberRecord) (step : ℕ) where
  abbrev ends_at : ℕ → Bool
  ends_at n = option_map_or (ends_in step) (run_of kept n) false

  -- one more, whether it ends in the step
  one_more : (k n : ℕ) (run : RunRecord) → slice_get kept.runs k ≡ Some run → (ends_among kept step k n || (nat_eq n (kept.from + k) && ends_in step run)) ≡ ends_among kept step (k + 1) n
  one_more k n run is = by_tells (eqb_tells n (kept.from + k)) (leb_tells (kept.from + k) n)
    where
      own : ends_at (kept.from + k) ≡ ends_in step run
      own = ap (λ r. option_map_or (ends_in step) r false) (run_at kept k ∙ is)

      or_false : (b : Bool) → (b || false) ≡ b
      or_false true = refl
      or_false false = refl

      by_tells : ((nat_eq n (kept.from + k) ≡ true) × (n ≡ kept.from + k)) ⊎ ((nat_eq n (kept.from + k) ≡ false) × ((n ≡ kept.from + k) → ⊥))
          → ((nat_le (kept.from + k) n ≡ true) × (kept.from + k ≤ n)) ⊎ ((nat_le (kept.from + k) n ≡ false) × (n < kept.from + k))
          → (ends_among kept step k n || (nat_eq n (kept.from + k) && ends_in step run)) ≡ ends_among kept step (k + 1) n
      by_tells (inl same) order =
          let at = same.1 in
          (λ j. (le-ltb n (kept.from + k) (omega (arith, at)) j && ends_at n) || (same.0 j && ends_in step run))
          ∙ sym (ap ends_at at ∙ own)
          ∙ sym (ap (λ b. b && ends_at n) (lt-ltb n (kept.from + (k + 1)) (omega (arith, at))))
      by_tells (inr other) (inl above) =
          let apart = other.1 in
          let up = above.1 in
          (λ j. (le-ltb n (kept.from + k) up j && ends_at n) || (other.0 j && ends_in step run))
          ∙ sym (ap (λ b. b && ends_at n) (le-ltb n (kept.from + (k + 1)) (by_more (leb_tells (kept.from + (k + 1)) n))))
        where
          by_more : ((nat_le (kept.from + (k + 1)) n ≡ true) × (kept.from + (k + 1) ≤ n)) ⊎ ((nat_le (kept.from + (k + 1)) n ≡ false) × (n < kept.from + (k + 1))) → kept.from + (k + 1) ≤ n
          by_more (inl low) = low.1
          by_more (inr less) = (let below = less.1 in let up = above.1 in absurd (other.1 (omega (arith, below, up))))
      by_tells (inr other) (inr below) =
          let low = below.1 in
          (λ j. (lt-ltb n (kept.from + k) low j && ends_at n) || (other.0 j && ends_in step run))
          ∙ or_false (ends_at n)
          ∙ sym (ap (λ b. b && ends_at n) (lt-ltb n (kept.from + (k + 1)) (omega (arith, low))))

module _ (place : Place) (boot : List View) (begins : Joiner) (first : List ValueTree) (kept : MemberRecord) (p : Past) (step : ℕ) (o : Occurrence) (rises : Rises p) (later : now p < step) where
  abbrev q : Past
  q = followed p step o

  abbrev IsAmid : (ℕ → Bool) → Gathered → Type 0
  IsAmid done g = IsKeptAmid place.troupe begins kept p step o done g

  -- at first none of those that were passed before ends in the step
  pub first_amid : NoneBetween kept (now p) step → (k : ℕ) → ((m : ℕ) (run : RunRecord) → m < k → slice_get kept.runs m ≡ Some run → has_ended run p ≡ true)
      → (g : Gathered) → IsAmid (λ n. false) g → IsAmid (ends_among kept step k) g
  first_amid between k ended g h = same_done place boot begins first kept p step o rises later (λ n. false) g h (ends_among kept step k) none_ends
    where
      by_fate : (run : RunRecord) → has_ended run p ≡ true → Fares (now p) step later run.ended → false ≡ ends_in step run
      by_fate run was (inl early) = sym early.2
      by_fate run was (inr goes) = absurd (true≢false (sym was ∙ goes.0))

      by_run : (n : ℕ) → kept.from ≤ n → n < kept.from + k → (r : Option RunRecord) → run_of kept n ≡ r → slice_get kept.runs (n - kept.from) ≡ r → false ≡ option_map_or (ends_in step) r false
      by_run n low below None is at = refl
      by_run n low below (Some run) is at = by_fate run (ended (n - kept.from) run (omega (arith, low, below)) at) (fares (now p) step later run.ended ((between n run is).1))

      by_from : (n : ℕ) → n < kept.from + k → (b : Bool) → nat_lt n kept.from ≡ b → false ≡ option_map_or (ends_in step) (run_of kept n) false
      by_from n below true is = sym (ap (λ b. option_map_or (ends_in step) (if b then None else slice_get kept.runs (n - kept.from)) false) is)
      by_from n below false is =
          let same = ap (λ b. if b then None else slice_get kept.runs (n - kept.from)) is in
          by_run n (ltb-false n kept.from is) below (run_of kept n) refl (sym same)

      none_ends : (n : ℕ) → false ≡ ends_among kept step k n
      none_ends n = by_test (nat_lt n (kept.from + k)) refl
        where
          by_test : (b : Bool) → nat_lt n (kept.from + k) ≡ b → false ≡ (b && option_map_or (ends_in step) (run_of kept n) false)
          by_test true is = by_from n (ltb-true n (kept.from + k) is) (nat_lt n kept.from) refl
          by_test false is = refl

  -- a run is passed
  module _ (k : ℕ) (g : Gathered) (h : IsAmid (ends_among kept step k) g) (run : RunRecord) (is : slice_get kept.runs k ≡ Some run) where
    -- that ends in the step: its callers are answered
    module _ (ends : run.ended ≡ Some step) where
      not_yet : ends_among kept step k (kept.from + k) ≡ false
      not_yet = ap (λ b. b && option_map_or (ends_in step) (run_of kept (kept.from + k)) false) (le-ltb (kept.from + k) (kept.from + k) (omega arith))

      pub passed_returns : returns_now place boot begins first kept q (λ e. is_answered_by_end place boot begins first kept q e && is_of_index place.troupe (kept.from + k) e.1)
          ≡ answers (reply_message (reply_of_run run)) (answered_by_end g (kept.from + k))
      passed_returns = returned_by_end place boot begins first kept p step o rises later (ends_among kept step k) g h (kept.from + k) run (run_at kept k ∙ is) ends not_yet

      pub passed_amid : IsAmid (ends_among kept step (k + 1)) (with_end g (kept.from + k) (reply_of_run run))
      passed_amid =
          same_done place boot begins first kept p step o rises later (λ n. ends_among kept step k n || nat_eq n (kept.from + k)) (with_end g (kept.from + k) (reply_of_run run))
          (ended_amid place boot begins first kept p step o rises later (ends_among kept step k) g h (kept.from + k) run (run_at kept k ∙ is) ends not_yet)
          (ends_among kept step (k + 1))
          (λ n. ap (λ b. ends_among kept step k n || b) (sym (now_ends (nat_eq n (kept.from + k)))) ∙ one_more kept step k n run is)
        where
          now_ends : (b : Bool) → (b && ends_in step run) ≡ b
          now_ends b = ap (λ e. b && e) (ap (λ x. option_map_or (nat_eq step) x false) ends ∙ eq-eqb step step refl) ∙ by_test b
            where
              by_test : (b : Bool) → (b && true) ≡ b
              by_test true = refl
              by_test false = refl

    -- or doesn't: nobody is answered
    module _ (goes : ends_in step run ≡ false) where
      pub no_returns : returns_now place boot begins first kept q (λ e. is_answered_by_end place boot begins first kept q e && is_of_index place.troupe (kept.from + k) e.1) ≡ []
      no_returns = none_by_end place boot begins first kept p step o rises later (kept.from + k) (ap (λ r. option_map_or (ends_in step) r false) (run_at kept k ∙ is) ∙ goes)

  -- at the end of the step no run behind those that were passed ends in it
  pub kept_at_last : NoneBetween kept (now p) step → (k : ℕ) (g : Gathered) → IsAmid (ends_among kept step k) g
      → ((m : ℕ) (run : RunRecord) → k ≤ m → slice_get kept.runs m ≡ Some run → ends_in step run ≡ false)
      → ((n : ℕ) → is_index g.open_run n ≡ is_open kept q n) → IsKeptOf place.troupe begins kept q g
  kept_at_last between k g h behind opens =
      kept_then place boot begins first kept p step o rises later (ends_among kept step k) g h
      (all_ended place boot begins first kept p step o rises later between (ends_among kept step k) just) opens
    where
      by_number : (n : ℕ) (run : RunRecord) → kept.from + k ≤ n → slice_get kept.runs (n - kept.from) ≡ Some run → ends_in step run ≡ false
      by_number n run low at = behind (n - kept.from) run (omega (arith, low)) at

      just : (n : ℕ) (run : RunRecord) → run_of kept n ≡ Some run → ends_in step run ≡ ends_among kept step k n
      just n run is = by_test (nat_lt n (kept.from + k)) refl
        where
          own : ends_in step run ≡ option_map_or (ends_in step) (run_of kept n) false
          own = sym (ap (λ r. option_map_or (ends_in step) r false) is)

          by_test : (b : Bool) → nat_lt n (kept.from + k) ≡ b → ends_in step run ≡ (b && option_map_or (ends_in step) (run_of kept n) false)
          by_test true below = own
          by_test false above =
              let low = ltb-false n (kept.from + k) above in
              by_number n run low (sym (ap (λ b. if b then None else slice_get kept.runs (n - kept.from)) (le-ltb n kept.from (omega (arith, low)))) ∙ is)
