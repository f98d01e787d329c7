-- A value that was given stays the one that is given.
use Rattle.std.proofs.Common.{◌≡◌, ◌≢◌, ℕ, ◌+◌, ◌*◌, ◌<◌, ◌≤◌, Bool, true, false, not, ◌&&◌, ltb, leb, List, [], ◌∷◌, ◌++◌, length, take, slice_get, Option, Some, None, refl, sym, ap, ◌∙◌, arith, length-append, if◌then◌else◌}
use Rattle.std.specs.Option.{option_map_or, option_and_then}
use Rattle.std.specs.Cmp.{IsEquivalence}
use Rattle.std.proofs.lemmas.Bool.{lt-ltb, false≢true}
use Rattle.std.proofs.lemmas.List.{take-append-le}
use borrow.Author.Tests.{ltb-true}
use Rattle.circus_value.proofs.PartLemmas.{slice_get-append_left}
use Rattle.circus_collate.specs.declared.giving.Said.{Said}
use Rattle.circus_collate.specs.declared.kind.Kind.{Kind}
use Rattle.circus_collate.specs.declared.kind.Kind.TheVariants as K
use Rattle.circus_collate.specs.declared.collating.Collated.TheVariants.{Answer, Differ}
use Rattle.circus_collate.specs.Giving.{first_place, passes_at, counts, votes, have_equal, has_majority, has_number, majority, reached, at_least, first, first_difference, place_of_value}
use Rattle.circus_collate.specs.Collating.{answer, dispute, collate}
use Rattle.circus_collate.proofs.Places.{IsFirst, first_place-only, first_place-nothing, both_pass}
use Rattle.circus_collate.proofs.Later.{parts_of, is_false, passes_at-append, counts-append, have_equal-append, votes-append, votes-congr, votes-apart}
use Rattle.circus_collate.proofs.Values.{some_at, below_at, first_majority, reaching}

module _ {V : Type 0} (eq : V → V → Bool) where
  -- ---- where all is equal

  no_difference : (said : List (Said V)) → ((place : ℕ) → place < length said → have_equal eq said 0 place ≡ true) → first_difference eq said ≡ None
  unfolding first_difference
  no_difference said same = first_place-nothing (λ place. not (have_equal eq said 0 place)) (length said) (λ place below. ap not (same place below))

  no_dispute : (nodes down : List ℕ) (said : List (Said V)) (kind : Kind) → first_difference eq said ≡ None → dispute eq nodes down said kind ≡ None
  unfolding dispute
  no_dispute nodes down said K.First e = refl
  no_dispute nodes down said K.Watchdog e = refl
  no_dispute nodes down said K.Unanimous e = e
  no_dispute nodes down said K.Majority e = by _
    where
      by : (b : Bool) → (if b then first_difference eq said else None) ≡ None
      by true = e
      by false = refl
  no_dispute nodes down said (K.AtLeast number) e = by _
    where
      by : (b : Bool) → (if b then first_difference eq said else None) ≡ None
      by true = e
      by false = refl

  never_differs : (o : Option ℕ) (one other : ℕ) → answer o None ≡ Differ one other → ⊥
  never_differs None one other e = cc
  never_differs (Some place) one other e = cc

  pub equal_values : (nodes down : List ℕ) (said : List (Said V)) (kind : Kind) (one other : ℕ) → ((place : ℕ) → place < length said → have_equal eq said 0 place ≡ true)
      → collate eq nodes down said kind ≡ Differ one other → ⊥
  equal_values nodes down said kind one other same e =
      let none = no_dispute nodes down said kind (no_difference said same) in
      never_differs (place_of_value eq (λ _. nodes) said kind down) one other (ap (answer (place_of_value eq (λ _. nodes) said kind down)) (sym none) ∙ e)

  -- ---- where more is said

  first_stays : (said later : List (Said V)) (place : ℕ) → first said ≡ Some place → first (said ++ later) ≡ Some place
  unfolding first
  first_stays [] later place e = cc
  first_stays (s ∷ said) later place e = e

  -- a place that has a majority still has it
  majority_grows : (nodes : List ℕ) (said later : List (Said V)) (place : ℕ) → has_majority eq (λ _. nodes) said place ≡ true → has_majority eq (λ _. nodes) (said ++ later) place ≡ true
  unfolding has_majority
  majority_grows nodes said later place e =
      let (s, is, more) = some_at said (λ x. ltb (length nodes) (2 * votes eq said nodes x.value)) place e in
      let below = below_at said place s is in
      let many : length nodes < 2 * votes eq (said ++ later) nodes s.value =
      omega (arith, ltb-true (length nodes) (2 * votes eq said nodes s.value) more, votes-append eq said later nodes s.value) in
      ap (λ o. option_map_or (λ (x : Said V). ltb (length nodes) (2 * votes eq (said ++ later) nodes x.value)) o false) (slice_get-append_left said later place below ∙ is)
      ∙ lt-ltb (length nodes) (2 * votes eq (said ++ later) nodes s.value) many

  -- two places with a majority have equal values
  majorities_equal : IsEquivalence eq → (nodes : List ℕ) (said : List (Said V)) (one other : ℕ) (s t : Said V) → slice_get said one ≡ Some s → slice_get said other ≡ Some t
      → has_majority eq (λ _. nodes) said one ≡ true → has_majority eq (λ _. nodes) said other ≡ true → eq s.value t.value ≡ true
  unfolding has_majority
  majorities_equal laws nodes said one other s t is at here there = by (eq s.value t.value) refl
    where
      half : (place : ℕ) (x : Said V) → slice_get said place ≡ Some x → passes_at said (λ y. ltb (length nodes) (2 * votes eq said nodes y.value)) place ≡ true → length nodes < 2 * votes eq said nodes x.value
      half place x found e = ltb-true _ _ (sym (ap (λ o. option_map_or (λ (y : Said V). ltb (length nodes) (2 * votes eq said nodes y.value)) o false) found) ∙ e)

      by : (b : Bool) → eq s.value t.value ≡ b → eq s.value t.value ≡ true
      by true e = e
      by false e = absurd (omega (arith, half one s is here, half other t at there, votes-apart eq laws said nodes s.value t.value e))

  -- a place with the value of a place that has a majority has it
  majority_shared : IsEquivalence eq → (nodes : List ℕ) (said : List (Said V)) (one other : ℕ) (s t : Said V) → slice_get said one ≡ Some s → slice_get said other ≡ Some t
      → eq s.value t.value ≡ true → has_majority eq (λ _. nodes) said one ≡ true → has_majority eq (λ _. nodes) said other ≡ true
  unfolding has_majority
  majority_shared laws nodes said one other s t is at same here =
      let most = ltb-true (length nodes) (2 * votes eq said nodes s.value) (sym (ap (λ o. option_map_or (λ (y : Said V). ltb (length nodes) (2 * votes eq said nodes y.value)) o false) is) ∙ here) in
      let more = votes-congr eq laws said nodes s.value t.value same in
      ap (λ o. option_map_or (λ (y : Said V). ltb (length nodes) (2 * votes eq said nodes y.value)) o false) at
      ∙ lt-ltb (length nodes) (2 * votes eq said nodes t.value) (omega (arith, most, more))

  value_of : (nodes : List ℕ) (said : List (Said V)) (place : ℕ) → has_majority eq (λ _. nodes) said place ≡ true → (s : Said V) × (slice_get said place ≡ Some s)
  unfolding has_majority
  value_of nodes said place e = let (s, is, more) = some_at said (λ x. ltb (length nodes) (2 * votes eq said nodes x.value)) place e in (s, is)

  majority_stays : IsEquivalence eq → (nodes : List ℕ) (said later : List (Said V)) (place : ℕ) → majority eq (λ _. nodes) said ≡ Some place → majority eq (λ _. nodes) (said ++ later) ≡ Some place
  unfolding majority
  majority_stays laws nodes said later place e =
      let first = first_majority eq (λ _. nodes) said place e in
      let (counts_here, most_here) = parts_of (counts (λ _. nodes) said place) (has_majority eq (λ _. nodes) said place) first.here in
      let still = majority_grows nodes said later place most_here in
      let (s, is) = value_of nodes said place most_here in
      first_place-only (λ k. counts (λ _. nodes) (said ++ later) k && has_majority eq (λ _. nodes) (said ++ later) k) (length (said ++ later)) place (record {
        below = omega (arith, first.below, length-append said later);
        here = both_pass (counts-append (λ _. nodes) said later place first.below ∙ counts_here) still;
        before = λ k less. is_false (counts (λ _. nodes) (said ++ later) k && has_majority eq (λ _. nodes) (said ++ later) k) (λ passes.
            let inside : k < length said = omega (arith, less, first.below) in
            let (counts_too, most_too) = parts_of (counts (λ _. nodes) (said ++ later) k) (has_majority eq (λ _. nodes) (said ++ later) k) passes in
            let (t, found) = value_of nodes (said ++ later) k most_too in
            let at = sym (slice_get-append_left said later k inside) ∙ found in
            let same = majorities_equal laws nodes (said ++ later) place k s t (slice_get-append_left said later place first.below ∙ is) found still most_too in
            let had = majority_shared laws nodes said place k s t is at same most_here in
            false≢true (sym (first.before k less) ∙ both_pass (sym (counts-append (λ _. nodes) said later k inside) ∙ counts_too) had));
      })

  number-append : (expected : V → List ℕ) (said later : List (Said V)) (number place : ℕ) → place < length said → has_number eq expected (said ++ later) number place ≡ has_number eq expected said number place
  unfolding has_number
  number-append expected said later number place below =
      passes_at-append said later (λ s. leb number (votes eq (take (place + 1) (said ++ later)) (expected s.value) s.value)) place below
      ∙ ap (λ before. passes_at said (λ s. leb number (votes eq before (expected s.value) s.value)) place) (take-append-le (place + 1) said later (omega arith))

  -- a first place stays the first where the tests agree
  stays_first : (p q : ℕ → Bool) (n m i : ℕ) → n ≤ m → ((k : ℕ) → k < n → q k ≡ p k) → IsFirst p i n → IsFirst q i m
  stays_first p q n m i longer agree first = record {
    below = omega (arith, first.below);
    here = agree i first.below ∙ first.here;
    before = λ k less. agree k (omega (arith, first.below)) ∙ first.before k less;
  }

  number_stays : (expected : V → List ℕ) (said later : List (Said V)) (number place : ℕ) → at_least eq expected said number ≡ Some place → at_least eq expected (said ++ later) number ≡ Some place
  unfolding at_least reached
  number_stays expected said later number place e =
      let all = said ++ later in
      let r = reaching eq expected said number place e in
      let longer : length said ≤ length all = omega (arith, length-append said later) in
      let last_stays = first_place-only (λ k. counts expected all k && has_number eq expected all number k) (length all) r.last
      (stays_first (λ k. counts expected said k && has_number eq expected said number k) (λ k. counts expected all k && has_number eq expected all number k) (length said) (length all) r.last longer
      (λ k below j. counts-append expected said later k below j && number-append expected said later number k below j) r.reach) in
      let place_stays = first_place-only (λ k. counts expected all k && have_equal eq all r.last k) (length all) place
      (stays_first (λ k. counts expected said k && have_equal eq said r.last k) (λ k. counts expected all k && have_equal eq all r.last k) (length said) (length all) place longer
      (λ k below j. counts-append expected said later k below j && have_equal-append eq said later r.last k r.reach.below below j) r.first_equal) in
      ap (λ o. option_and_then (λ last. first_place (λ k. counts expected all k && have_equal eq all last k) (length all)) o) last_stays ∙ place_stays

  given_stays : IsEquivalence eq → (nodes down : List ℕ) (said later : List (Said V)) (kind : Kind) (place : ℕ) → kind ≢ K.Unanimous
      → place_of_value eq (λ _. nodes) said kind down ≡ Some place → place_of_value eq (λ _. nodes) (said ++ later) kind down ≡ Some place
  given_stays laws nodes down said later K.First place other e = first_stays said later place e
  given_stays laws nodes down said later K.Watchdog place other e = first_stays said later place e
  given_stays laws nodes down said later K.Unanimous place other e = absurd (other refl)
  given_stays laws nodes down said later K.Majority place other e = majority_stays laws nodes said later place e
  given_stays laws nodes down said later (K.AtLeast number) place other e = number_stays (λ _. nodes) said later number place e

  given_of : (o d : Option ℕ) (place : ℕ) → answer o d ≡ Answer place → o ≡ Some place
  given_of None None place e = cc
  given_of None (Some k) place e = cc
  given_of (Some k) d place e = let same : k ≡ place = cc in ap Some same

  pub given_values : IsEquivalence eq → (nodes down : List ℕ) (said later : List (Said V)) (kind : Kind) (place : ℕ) → kind ≢ K.Unanimous
      → collate eq nodes down said kind ≡ Answer place → collate eq nodes down (said ++ later) kind ≡ Answer place
  given_values laws nodes down said later kind place other e =
      ap (λ o. answer o (dispute eq nodes down (said ++ later) kind))
      (given_stays laws nodes down said later kind place other (given_of (place_of_value eq (λ _. nodes) said kind down) (dispute eq nodes down said kind) place e))
