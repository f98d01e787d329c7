-- Where runs were performed one by one, which run is open.
use Rattle.std.proofs.Common.{◌≡◌, ℕ, zero, suc, ◌+◌, ◌-◌, ◌<◌, ◌≤◌, Bool, true, false, true≢false, ◌&&◌, not, ◌⊎◌, inl, inr, if◌then◌else◌, List, [], ◌∷◌, length, Option, Some, None, refl, sym, ap, ◌∙◌, arith}
use Rattle.std.specs.Prelude.{slice_get, nat_eq, nat_lt, nat_le, IfSome, IsSomeAnd}
use Rattle.std.specs.Option.{option_map_or}
use Rattle.std.proofs.lemmas.Bool.{ltb-true, ltb-false, le-leb, eq-eqb, ne_eqb}
use Rattle.std.proofs.lemmas.Bool.Decides.{leb_tells, eqb_tells}
use Rattle.std.proofs.lemmas.Option.{same_Some}
use Rattle.circus_model.proofs.Lookups.{within}
use Rattle.circus_record.specs.declared.record.MemberRecord.{MemberRecord}
use Rattle.circus_record.specs.declared.record.RunRecord.{RunRecord}
use Rattle.circus_member_theory.specs.Past.{Past, now}
use Rattle.circus_member_theory.specs.Returns.{has_ended}
use Rattle.circus_dues.specs.Calls.{RunOneByOne, IsOutside, NoneBetween, is_open, is_index}

pub none_past : {X : Type 0} (xs : List X) (m k : ℕ) → m ≤ k → slice_get xs m ≡ None → slice_get xs k ≡ None
none_past [] m k low is = refl
none_past (x ∷ xs) zero k low is = cc
none_past (x ∷ xs) (suc m) zero low is = absurd (omega (arith, low))
none_past (x ∷ xs) (suc m) (suc k) low is = none_past xs m k (omega (arith, low)) is

-- a run has ended by a step
abbrev EndsBy : ℕ → RunRecord → Type 0
EndsBy last run = IsSomeAnd run.ended (λ step. step ≤ last)

ends_later : (low high : ℕ) (run : RunRecord) → low ≤ high → EndsBy low run → EndsBy high run
ends_later low high run below = by_end run.ended
  where
    by_end : (o : Option ℕ) → IsSomeAnd o (λ step. step ≤ low) → IsSomeAnd o (λ step. step ≤ high)
    by_end None ends = ends
    by_end (Some s) ends = omega (arith, ends, below)

ended_so : (p : Past) (run : RunRecord) → EndsBy (now p) run → has_ended run p ≡ true
ended_so p run = by_end run.ended
  where
    by_end : (o : Option ℕ) → IsSomeAnd o (λ step. step ≤ now p) → option_map_or (λ s. nat_le s (now p)) o false ≡ true
    by_end None ends = absurd ends
    by_end (Some s) ends = le-leb s (now p) ends

module _ (kept : MemberRecord) (alone : RunOneByOne kept) where
  -- it was started no later
  starts_by : (k : ℕ) (run : RunRecord) (last : ℕ) → slice_get kept.runs k ≡ Some run → EndsBy last run → run.started ≤ last
  starts_by k run last is = by_end run.ended (alone.lasts k run is)
    where
      by_end : (o : Option ℕ) → IfSome o (λ step. run.started ≤ step) → IsSomeAnd o (λ step. step ≤ last) → run.started ≤ last
      by_end None lasts ends = absurd ends
      by_end (Some s) lasts ends = omega (arith, lasts, ends)

  -- a run ends before a later one starts
  ends_before : (more m : ℕ) (run other : RunRecord) → slice_get kept.runs m ≡ Some run → slice_get kept.runs (m + suc more) ≡ Some other → EndsBy other.started run
  ends_before zero m run other is there = alone.next m run other is there
  ends_before (suc more) m run other is there = by_next (ends_before more (m + 1)) (slice_get kept.runs (m + 1)) refl
    where
      same : (m + 1) + suc more ≡ m + suc (suc more)
      same = omega arith

      by_next : ((run other : RunRecord) → slice_get kept.runs (m + 1) ≡ Some run → slice_get kept.runs ((m + 1) + suc more) ≡ Some other → EndsBy other.started run)
          → (o : Option RunRecord) → slice_get kept.runs (m + 1) ≡ o → EndsBy other.started run
      by_next rest None none = absurd (clash (sym (none_past kept.runs (m + 1) (m + suc (suc more)) (omega arith) none) ∙ there))
        where
          clash : None ≡ Some other → ⊥
          clash eq = cc
      by_next rest (Some next) at =
          let soon : EndsBy other.started next = rest next other at (ap (slice_get kept.runs) same ∙ there) in
          ends_later next.started other.started run (starts_by (m + 1) next other.started at soon) (alone.next m run next is at)

  earlier_ends : (m k : ℕ) (run other : RunRecord) → m < k → slice_get kept.runs m ≡ Some run → slice_get kept.runs k ≡ Some other → EndsBy other.started run
  earlier_ends m k run other below is there =
      let n = (k - m) - 1 in
      let same : m + suc n ≡ k = omega (arith, below) in
      ends_before n m run other is (ap (slice_get kept.runs) same ∙ there)

  -- a run is started no earlier than one before it
  pub starts_later : (m k : ℕ) (run other : RunRecord) → m ≤ k → slice_get kept.runs m ≡ Some run → slice_get kept.runs k ≡ Some other → run.started ≤ other.started
  starts_later m k run other low is there = by_tell (leb_tells k m)
    where
      by_tell : ((nat_le k m ≡ true) × (k ≤ m)) ⊎ ((nat_le k m ≡ false) × (m < k)) → run.started ≤ other.started
      by_tell (inl high) =
          let up = high.1 in
          let same : m ≡ k = omega (arith, low, up) in
          let eq = ap (λ (r : RunRecord). r.started) (same_Some run other (sym is ∙ ap (slice_get kept.runs) same ∙ there)) in
          omega (arith, eq)
      by_tell (inr less) = starts_by m run other.started is (earlier_ends m k run other less.1 is there)

  -- where so many were started by a step, and the next one from another step on, none was between, where the last of them didn't end between
  module _ (low high k : ℕ) (few : k ≤ length kept.runs) (last : (m : ℕ) (run : RunRecord) → m + 1 ≡ k → slice_get kept.runs m ≡ Some run → (run.started ≤ low) × IfSome run.ended (IsOutside low high))
      (next : IfSome (slice_get kept.runs k) (λ run. high ≤ run.started)) where
    ends_inside : (run : RunRecord) → run.started ≤ low → EndsBy low run → IsOutside low high run.started × IfSome run.ended (IsOutside low high)
    ends_inside run started ends = (inl started, by_end run.ended ends)
      where
        by_end : (o : Option ℕ) → IsSomeAnd o (λ step. step ≤ low) → IfSome o (IsOutside low high)
        by_end None ends = tt
        by_end (Some s) ends = inl ends

    starts_behind : (m : ℕ) (run : RunRecord) → slice_get kept.runs m ≡ Some run → high ≤ run.started → IsOutside low high run.started × IfSome run.ended (IsOutside low high)
    starts_behind m run is late = (inr late, by_end run.ended (alone.lasts m run is))
      where
        by_end : (o : Option ℕ) → IfSome o (λ step. run.started ≤ step) → IfSome o (IsOutside low high)
        by_end None lasts = tt
        by_end (Some s) lasts = inr (omega (arith, late, lasts))

    clash : (run : RunRecord) → None ≡ Some run → ⊥
    clash run eq = cc

    late_start : (m : ℕ) (run : RunRecord) → k ≤ m → slice_get kept.runs m ≡ Some run → high ≤ run.started
    late_start m run up is = by_next (slice_get kept.runs k) refl next
      where
        by_next : (o : Option RunRecord) → slice_get kept.runs k ≡ o → IfSome o (λ r. high ≤ r.started) → high ≤ run.started
        by_next None none late = absurd (clash run (sym (none_past kept.runs k m up none) ∙ is))
        by_next (Some other) at late = (let rise = starts_later k m other run up at is in omega (arith, late, rise))

    early_run : (m : ℕ) (run : RunRecord) → m < k → slice_get kept.runs m ≡ Some run → IsOutside low high run.started × IfSome run.ended (IsOutside low high)
    early_run m run below is = by_tell (eqb_tells (m + 1) k)
      where
        n : ℕ
        n = k - 1

        by_last : m < n → IsOutside low high run.started × IfSome run.ended (IsOutside low high)
        by_last less =
            let there = within kept.runs n (omega (arith, below, few)) in
            let other = there.0 in
            let started = (last n other (omega (arith, below)) there.1).0 in
            let ends = earlier_ends m n run other less is there.1 in
            let soon = starts_by m run other.started is ends in
            ends_inside run (omega (arith, soon, started)) (ends_later other.started low run started ends)

        by_tell : ((nat_eq (m + 1) k ≡ true) × (m + 1 ≡ k)) ⊎ ((nat_eq (m + 1) k ≡ false) × ((m + 1 ≡ k) → ⊥)) → IsOutside low high run.started × IfSome run.ended (IsOutside low high)
        by_tell (inl same) = (let h = last m run same.1 is in (inl h.0, h.1))
        by_tell (inr other) = by_last (by_less (leb_tells n m))
          where
            by_less : ((nat_le n m ≡ true) × (n ≤ m)) ⊎ ((nat_le n m ≡ false) × (m < n)) → m < n
            by_less (inl up) = (let high_up = up.1 in absurd (other.1 (omega (arith, below, high_up))))
            by_less (inr less) = less.1

    pub none_between : NoneBetween kept low high
    none_between index = by_test (nat_lt index kept.from)
      where
        by_number : (m : ℕ) (run : RunRecord) → slice_get kept.runs m ≡ Some run → IsOutside low high run.started × IfSome run.ended (IsOutside low high)
        by_number m run is = by_tell (leb_tells k m)
          where
            by_tell : ((nat_le k m ≡ true) × (k ≤ m)) ⊎ ((nat_le k m ≡ false) × (m < k)) → IsOutside low high run.started × IfSome run.ended (IsOutside low high)
            by_tell (inl up) = starts_behind m run is (late_start m run up.1 is)
            by_tell (inr less) = early_run m run less.1 is

        by_test : (b : Bool) (run : RunRecord) → (if b then None else slice_get kept.runs (index - kept.from)) ≡ Some run → IsOutside low high run.started × IfSome run.ended (IsOutside low high)
        by_test true run is = absurd (clash run is)
        by_test false run is = by_number (index - kept.from) run is

  module _ (p : Past) where
    -- the runs before one that was started have ended
    pub ended_earlier : (k : ℕ) (other : RunRecord) → slice_get kept.runs k ≡ Some other → other.started ≤ now p
        → (m : ℕ) (run : RunRecord) → m < k → slice_get kept.runs m ≡ Some run → has_ended run p ≡ true
    ended_earlier k other there started m run below is =
        ended_so p run (ends_later other.started (now p) run started (earlier_ends m k run other below is there))

    opens_not : (run : RunRecord) (b : Bool) → has_ended run p ≡ true → (b && not (has_ended run p)) ≡ false
    opens_not run b ended = ap (λ e. b && not e) ended ∙ by_test b
      where
        by_test : (b : Bool) → (b && false) ≡ false
        by_test true = refl
        by_test false = refl

    -- the run of a number is open
    module _ (k : ℕ) (run : RunRecord) (is : slice_get kept.runs k ≡ Some run) (started : run.started ≤ now p) (goes : has_ended run p ≡ false) where
      later_not : (m : ℕ) (other : RunRecord) → k < m → slice_get kept.runs m ≡ Some other → (nat_le other.started (now p) && not (has_ended other p)) ≡ false
      later_not m other above there = ap (λ b. b && not (has_ended other p)) (by_tell (leb_tells other.started (now p)))
        where
          by_tell : ((nat_le other.started (now p) ≡ true) × (other.started ≤ now p)) ⊎ ((nat_le other.started (now p) ≡ false) × (now p < other.started)) → nat_le other.started (now p) ≡ false
          by_tell (inl low) = absurd (true≢false (sym (ended_earlier m other there low.1 k run above is) ∙ goes))
          by_tell (inr high) = high.0

      by_number : (m : ℕ) → nat_eq m k ≡ option_map_or (λ (r : RunRecord). nat_le r.started (now p) && not (has_ended r p)) (slice_get kept.runs m) false
      by_number m = by_tells (leb_tells m k) (leb_tells k m)
        where
          opens : Option RunRecord → Bool
          opens o = option_map_or (λ (r : RunRecord). nat_le r.started (now p) && not (has_ended r p)) o false

          if_some : (o : Option RunRecord) → slice_get kept.runs m ≡ o → ((r : RunRecord) → slice_get kept.runs m ≡ Some r → (nat_le r.started (now p) && not (has_ended r p)) ≡ false) → opens o ≡ false
          if_some None at so = refl
          if_some (Some r) at so = so r at

          by_tells : ((nat_le m k ≡ true) × (m ≤ k)) ⊎ ((nat_le m k ≡ false) × (k < m)) → ((nat_le k m ≡ true) × (k ≤ m)) ⊎ ((nat_le k m ≡ false) × (m < k)) → nat_eq m k ≡ opens (slice_get kept.runs m)
          by_tells (inl low) (inl high) =
              let below = low.1 in
              let above = high.1 in
              let same : m ≡ k = omega (arith, below, above) in
              eq-eqb m k same
              ∙ sym (ap opens (ap (slice_get kept.runs) same ∙ is) ∙ (λ j. le-leb run.started (now p) started j && not (goes j)))
          by_tells (inl low) (inr less) =
              let below = less.1 in
              ne_eqb m k (λ eq. absurd (omega (arith, below, eq)))
              ∙ sym (if_some (slice_get kept.runs m) refl (λ r at. opens_not r (nat_le r.started (now p)) (ended_earlier k run is started m r below at)))
          by_tells (inr more) high =
              let above = more.1 in
              ne_eqb m k (λ eq. absurd (omega (arith, above, eq)))
              ∙ sym (if_some (slice_get kept.runs m) refl (λ r at. later_not m r above at))

      pub opens_alone : (n : ℕ) → is_index (Some (kept.from + k)) n ≡ is_open kept p n
      opens_alone n = by_test (nat_lt n kept.from) refl
        where
          by_test : (b : Bool) → nat_lt n kept.from ≡ b
              → nat_eq n (kept.from + k) ≡ option_map_or (λ (r : RunRecord). nat_le r.started (now p) && not (has_ended r p)) (if b then None else slice_get kept.runs (n - kept.from)) false
          by_test true below = (let low = ltb-true n kept.from below in ne_eqb n (kept.from + k) (λ eq. absurd (omega (arith, low, eq))))
          by_test false above =
              let high = ltb-false n kept.from above in
              same_eq n (n - kept.from) (omega (arith, high)) (eqb_tells (n - kept.from) k) ∙ by_number (n - kept.from)
            where
              same_eq : (a c : ℕ) → kept.from + c ≡ a → ((nat_eq c k ≡ true) × (c ≡ k)) ⊎ ((nat_eq c k ≡ false) × ((c ≡ k) → ⊥)) → nat_eq a (kept.from + k) ≡ nat_eq c k
              same_eq a c at (inl same) = (let eq = same.1 in eq-eqb a (kept.from + k) (omega (arith, at, eq)) ∙ sym same.0)
              same_eq a c at (inr other) = ne_eqb a (kept.from + k) (λ eq. absurd (other.1 (omega (arith, at, eq)))) ∙ sym other.0

    -- none is open, where each that was started has ended
    pub none_opens : ((m : ℕ) (run : RunRecord) → slice_get kept.runs m ≡ Some run → run.started ≤ now p → has_ended run p ≡ true) → (n : ℕ) → is_index None n ≡ is_open kept p n
    none_opens all n = by_run (nat_lt n kept.from)
      where
        by_some : (m : ℕ) (o : Option RunRecord) → slice_get kept.runs m ≡ o → false ≡ option_map_or (λ (r : RunRecord). nat_le r.started (now p) && not (has_ended r p)) o false
        by_some m None at = refl
        by_some m (Some r) at = by_tell (leb_tells r.started (now p))
          where
            by_tell : ((nat_le r.started (now p) ≡ true) × (r.started ≤ now p)) ⊎ ((nat_le r.started (now p) ≡ false) × (now p < r.started)) → false ≡ (nat_le r.started (now p) && not (has_ended r p))
            by_tell (inl low) = sym (opens_not r (nat_le r.started (now p)) (all m r at low.1))
            by_tell (inr high) = sym (ap (λ b. b && not (has_ended r p)) high.0)

        by_run : (b : Bool) → false ≡ option_map_or (λ (r : RunRecord). nat_le r.started (now p) && not (has_ended r p)) (if b then None else slice_get kept.runs (n - kept.from)) false
        by_run true = refl
        by_run false = by_some (n - kept.from) (slice_get kept.runs (n - kept.from)) refl

    -- so it is, where those before a number have ended and that was not started
    pub rests_before : (k : ℕ) → ((m : ℕ) (run : RunRecord) → m < k → slice_get kept.runs m ≡ Some run → has_ended run p ≡ true)
        → IfSome (slice_get kept.runs k) (λ run. now p < run.started)
        → (m : ℕ) (run : RunRecord) → slice_get kept.runs m ≡ Some run → run.started ≤ now p → has_ended run p ≡ true
    rests_before k ended next m run is started = by_tell (leb_tells k m)
      where
        not_there : (o : Option RunRecord) → slice_get kept.runs k ≡ o → IfSome o (λ run. now p < run.started) → k ≤ m → ⊥
        not_there None at late low = clash (sym (none_past kept.runs k m low at) ∙ is)
          where
            clash : None ≡ Some run → ⊥
            clash eq = cc
        not_there (Some other) at late low = by_same (leb_tells m k)
          where
            by_same : ((nat_le m k ≡ true) × (m ≤ k)) ⊎ ((nat_le m k ≡ false) × (k < m)) → ⊥
            by_same (inl up) =
                let high = up.1 in
                let same : m ≡ k = omega (arith, low, high) in
                let eq = ap (λ (r : RunRecord). r.started) (same_Some run other (sym is ∙ ap (slice_get kept.runs) same ∙ at)) in
                omega (arith, started, late, eq)
            by_same (inr more) =
                let low = starts_by k other run.started at (earlier_ends k m other run more.1 at is) in
                omega (arith, low, started, late)

        by_tell : ((nat_le k m ≡ true) × (k ≤ m)) ⊎ ((nat_le k m ≡ false) × (m < k)) → has_ended run p ≡ true
        by_tell (inl low) = absurd (not_there (slice_get kept.runs k) refl next low.1)
        by_tell (inr less) = ended m run less.1 is
