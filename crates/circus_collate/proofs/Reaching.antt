-- Values that were said so often.
use Rattle.std.proofs.Common.{◌≡◌, ℕ, zero, suc, ◌+◌, ◌*◌, ◌<◌, ◌≤◌, ◌⊎◌, inl, inr, ⊎_elim, Bool, true, false, cond, not, ◌&&◌, ◌||◌, ◌==◌, ltb, leb, List, [], ◌∷◌, ◌++◌, length, take, drop, find, slice_get, Option, Some, None, option_map, refl, sym, ap, subst, ◌∙◌, arith, IsSome}
use Rattle.std.specs.Option.{option_map_or, option_and_then, option_or}
use Rattle.std.specs.List.{list_any}
use Rattle.std.specs.Cmp.{IsEquivalence}
use Rattle.std.proofs.lemmas.Bool.{lt-ltb, le-leb, false≢true, cases_lt, eq-eqb}
use borrow.Author.Tests.{leb-true, eqb-true}
use Rattle.std.proofs.lemmas.List.{take_all, take-append-drop}
use Rattle.std.proofs.lemmas.List.Folds.{find-append}
use Rattle.circus_value.specs.Among.{is_among}
use Rattle.circus_collate.specs.declared.giving.Said.{Said}
use Rattle.circus_collate.specs.Giving.{first_place, is_from, passes_at, first_from, counts, votes, have_equal, has_majority, has_number, majority, reached, at_least, IsOfEquals}
use Rattle.circus_collate.proofs.Places.{IsFirst, first_place-is, first_place-only, first_place-none, both_pass}
use Rattle.circus_collate.proofs.Counting.{count_by-le-among, count_by-some}
use Rattle.circus_collate.proofs.Later.{parts_of, votes-append, votes-congr}
use Rattle.circus_collate.proofs.Values.{some_at, below_at, reaching}

-- a place that is found is the first of its kind
pub found_at : {A : Type 0} (test : A → Bool) (xs : List A) (x : A) → find test xs ≡ Some x → (i : ℕ) × (slice_get xs i ≡ Some x) × (test x ≡ true) × (list_any test (take i xs) ≡ false)
found_at test [] x e = cc
found_at {A} test (y ∷ xs) x e = by (found_at test xs x) (test y) refl e
  where
    by : (find test xs ≡ Some x → (i : ℕ) × (slice_get xs i ≡ Some x) × (test x ≡ true) × (list_any test (take i xs) ≡ false)) → (b : Bool) → test y ≡ b
        → cond b (Some y) (find test xs) ≡ Some x → (i : ℕ) × (slice_get (y ∷ xs) i ≡ Some x) × (test x ≡ true) × (list_any test (take i (y ∷ xs)) ≡ false)
    by later true is e' = let same : y ≡ x = cc in (0, ap Some same, subst (λ z. test z ≡ true) same is, refl)
    by later false is e' = let (i, at, passes, none) = later e' in (suc i, at, passes, (λ j. is j || none j))

-- what isn't found isn't there
pub not_found : {A : Type 0} (test : A → Bool) (xs : List A) → find test xs ≡ None → list_any test xs ≡ false
not_found test [] e = refl
not_found test (y ∷ xs) e = by (not_found test xs) (test y) refl e
  where
    by : (find test xs ≡ None → list_any test xs ≡ false) → (b : Bool) → test y ≡ b → cond b (Some y) (find test xs) ≡ None → list_any test (y ∷ xs) ≡ false
    by later true is e' = cc
    by later false is e' = (λ j. is j || later e' j)

module _ {V : Type 0} (eq : V → V → Bool) where
  -- what a node said first stands at a place
  record SaidAt (said : List (Said V)) (node : ℕ) (v : V) : Type 0 where
    place : ℕ
    arrival : Said V
    at : slice_get said place ≡ Some arrival
    node_is : (arrival.node == node) ≡ true
    value_is : arrival.value ≡ v
    none_before : list_any (is_from node) (take place said) ≡ false

  said_at : (said : List (Said V)) (node : ℕ) (v : V) → first_from said node ≡ Some v → SaidAt said node v
  unfolding first_from
  said_at said node v e = by (find (is_from node) said) refl e
    where
      by : (o : Option (Said V)) → find (is_from node) said ≡ o → option_map (λ (s : Said V). s.value) o ≡ Some v → SaidAt said node v
      by None is e' = cc
      by (Some s) is e' =
          let (i, found, passes, none) = found_at (is_from node) said s is in
          let value : s.value ≡ v = cc in
          record { place = i; arrival = s; at = found; node_is = passes; value_is = value; none_before = none }

  -- the votes of a value are those of the places that count
  voted : (said : List (Said V)) (nodes : List ℕ) (v : V) → 0 < votes eq said nodes v → (node : ℕ) × (w : V) × (first_from said node ≡ Some w) × (eq v w ≡ true) × (list_any (λ n. n == node) nodes ≡ true)
  unfolding votes
  voted said nodes v some =
      let (node, passes, among) = count_by-some (λ node. option_map_or (eq v) (first_from said node) false) nodes some in
      by node (first_from said node) refl passes (among (λ n. n == node) (eq-eqb node node refl))
    where
      by : (node : ℕ) (o : Option V) → first_from said node ≡ o → option_map_or (eq v) (first_from said node) false ≡ true → list_any (λ n. n == node) nodes ≡ true
          → (m : ℕ) × (w : V) × (first_from said m ≡ Some w) × (eq v w ≡ true) × (list_any (λ n. n == m) nodes ≡ true)
      by node None is e among = absurd (false≢true (sym (ap (λ o. option_map_or (eq v) o false) is) ∙ e))
      by node (Some w) is e among = (node, w, is, sym (ap (λ o. option_map_or (eq v) o false) is) ∙ e, among)

  counts_at : (expected : V → List ℕ) (said : List (Said V)) (node : ℕ) (v : V) (s : SaidAt said node v) → list_any (λ n. n == node) (expected s.arrival.value) ≡ true
      → counts expected said s.place ≡ true
  unfolding counts
  counts_at expected said node v s among =
      let same : s.arrival.node ≡ node = eqb-true s.arrival.node node s.node_is in
      ap (λ o. option_map_or (λ (x : Said V). is_among (expected x.value) x.node && not (list_any (is_from x.node) (take s.place said))) o false) s.at
      ∙ (λ j. is_among (expected s.arrival.value) (same j) && not (list_any (is_from (same j)) (take s.place said)))
      ∙ (λ j. among j && not (s.none_before j))

  some_of : {o : Option ℕ} → (o ≡ None → ⊥) → IsSome o
  some_of {o = None} h = absurd (h refl)
  some_of {o = Some k} h = refl

  pub majority_given : IsEquivalence eq → (expected : V → List ℕ) (said : List (Said V)) (v : V) → IsOfEquals eq expected
      → length (expected v) < 2 * votes eq said (expected v) v → IsSome (majority eq expected said)
  unfolding majority has_majority
  majority_given laws expected said v equals many = some_of (λ none.
      let (node, w, first, same, among) = voted said (expected v) v (omega arith) in
      let s = said_at said node w first in
      let x : V = s.arrival.value in
      let equal : eq v x ≡ true = subst (λ y. eq v y ≡ true) (sym s.value_is) same in
      let nodes : expected v ≡ expected x = equals v x equal in
      let more = votes-congr eq laws said (expected v) v x equal in
      let most : ltb (length (expected x)) (2 * votes eq said (expected x) x) ≡ true =
      lt-ltb (length (expected x)) (2 * votes eq said (expected x) x) (omega (arith, many, more, ap length nodes, ap (λ ns. votes eq said ns x) nodes)) in
      let has : has_majority eq expected said s.place ≡ true =
      ap (λ o. option_map_or (λ (y : Said V). ltb (length (expected y.value)) (2 * votes eq said (expected y.value) y.value)) o false) s.at ∙ most in
      let among_these = subst (λ ns. list_any (λ n. n == node) ns ≡ true) nodes among in
      false≢true (sym (first_place-none (λ k. counts expected said k && has_majority eq expected said k) (length said) none s.place (below_at said s.place s.arrival s.at))
      ∙ both_pass (counts_at expected said node w s among_these) has))

  -- what a node said first, with one more arrival
  more_from : (before : List (Said V)) (s : Said V) (node : ℕ) (w : V) → first_from (before ++ s ∷ []) node ≡ Some w
      → (first_from before node ≡ Some w) ⊎ ((list_any (is_from node) before ≡ false) × (s.node ≡ node) × (s.value ≡ w))
  unfolding first_from
  more_from before s node w e = by (find (is_from node) before) refl (sym (ap (option_map (λ (x : Said V). x.value)) (find-append (is_from node) before (s ∷ []))) ∙ e)
    where
      last : (b : Bool) → (s.node == node) ≡ b → find (is_from node) before ≡ None → option_map (λ (x : Said V). x.value) (cond b (Some s) None) ≡ Some w
          → (option_map (λ (x : Said V). x.value) (find (is_from node) before) ≡ Some w) ⊎ ((list_any (is_from node) before ≡ false) × (s.node ≡ node) × (s.value ≡ w))
      last true here none e' = let value : s.value ≡ w = cc in inr (not_found (is_from node) before none, eqb-true s.node node here, value)
      last false here none e' = cc

      by : (o : Option (Said V)) → find (is_from node) before ≡ o → option_map (λ (x : Said V). x.value) (option_or o (find (is_from node) (s ∷ []))) ≡ Some w
          → (option_map (λ (x : Said V). x.value) (find (is_from node) before) ≡ Some w) ⊎ ((list_any (is_from node) before ≡ false) × (s.node ≡ node) × (s.value ≡ w))
      by None is e' = last (s.node == node) refl is e'
      by (Some x) is e' = inl (ap (option_map (λ (y : Said V). y.value)) is ∙ e')

  -- an arrival that doesn't count for a value leaves its votes
  no_more_votes : (before : List (Said V)) (s : Said V) (nodes : List ℕ) (v : V)
      → (is_among nodes s.node ≡ true → list_any (is_from s.node) before ≡ false → eq v s.value ≡ true → ⊥) → votes eq (before ++ s ∷ []) nodes v ≤ votes eq before nodes v
  unfolding votes
  no_more_votes before s nodes v never =
      count_by-le-among (λ node. option_map_or (eq v) (first_from (before ++ s ∷ []) node) false) (λ node. option_map_or (eq v) (first_from before node) false) nodes
      (λ node among e. by node among (first_from (before ++ s ∷ []) node) refl e)
    where
      new : (node : ℕ) → is_among nodes node ≡ true → (w : V) → eq v w ≡ true
          → (first_from before node ≡ Some w) ⊎ ((list_any (is_from node) before ≡ false) × (s.node ≡ node) × (s.value ≡ w)) → option_map_or (eq v) (first_from before node) false ≡ true
      new node among w same (inl had) = ap (λ o. option_map_or (eq v) o false) had ∙ same
      new node among w same (inr (none, at, value)) =
          absurd (never (subst (λ m. is_among nodes m ≡ true) (sym at) among) (subst (λ m. list_any (is_from m) before ≡ false) (sym at) none) (subst (λ x. eq v x ≡ true) (sym value) same))

      by : (node : ℕ) → is_among nodes node ≡ true → (o : Option V) → first_from (before ++ s ∷ []) node ≡ o → option_map_or (eq v) (first_from (before ++ s ∷ []) node) false ≡ true
          → option_map_or (eq v) (first_from before node) false ≡ true
      by node among None is e = absurd (false≢true (sym (ap (λ o. option_map_or (eq v) o false) is) ∙ e))
      by node among (Some w) is e = new node among w (sym (ap (λ o. option_map_or (eq v) o false) is) ∙ e) (more_from before s node w is)

  -- one more arrival
  one_more : {A : Type 0} (xs : List A) (i : ℕ) → i < length xs → (x : A) × (slice_get xs i ≡ Some x) × (take (i + 1) xs ≡ take i xs ++ x ∷ [])
  one_more [] i below = absurd (omega arith)
  one_more (y ∷ xs) zero below = (y, refl, refl)
  one_more (y ∷ xs) (suc i) below =
      let (x, at, more) = one_more xs i (omega arith) in
      let next : suc i + 1 ≡ suc (i + 1) = omega arith in
      (x, at, ap (λ k. take k (y ∷ xs)) next ∙ ap (λ l. y ∷ l) more)

  -- the arrival counts, and brings its value to a number
  record Brings (expected : V → List ℕ) (said : List (Said V)) (number place : ℕ) : Type 0 where
    within : place < length said
    counted : counts expected said place ≡ true
    numbered : has_number eq expected said number place ≡ true

  -- an arrival that brings a value to a number counts, and has that value
  bringing : IsEquivalence eq → (expected : V → List ℕ) (said : List (Said V)) (number : ℕ) (v : V) (m : ℕ) (s : Said V) → IsOfEquals eq expected
      → slice_get said m ≡ Some s → take (m + 1) said ≡ take m said ++ s ∷ [] → m < length said
      → votes eq (take m said) (expected v) v < number → number ≤ votes eq (take (m + 1) said) (expected v) v → Brings expected said number m
  unfolding counts has_number
  bringing laws expected said number v m s equals at more inside few many =
      by (is_among (expected v) s.node) refl (list_any (is_from s.node) (take m said)) refl (eq v s.value) refl
    where
      fails : (is_among (expected v) s.node ≡ true → list_any (is_from s.node) (take m said) ≡ false → eq v s.value ≡ true → ⊥) → Brings expected said number m
      fails never = absurd (omega (arith, few, many, ap (λ l. votes eq l (expected v) v) more, no_more_votes (take m said) s (expected v) v never))

      brings : is_among (expected s.value) s.node ≡ true → list_any (is_from s.node) (take m said) ≡ false → number ≤ votes eq (take (m + 1) said) (expected s.value) s.value
          → Brings expected said number m
      brings among before enough = record {
        within = inside;
        counted = ap (λ o. option_map_or (λ (x : Said V). is_among (expected x.value) x.node && not (list_any (is_from x.node) (take m said))) o false) at ∙ (λ j. among j && not (before j));
        numbered = ap (λ o. option_map_or (λ (x : Said V). leb number (votes eq (take (m + 1) said) (expected x.value) x.value)) o false) at
            ∙ le-leb number (votes eq (take (m + 1) said) (expected s.value) s.value) enough;
      }

      by : (a : Bool) → is_among (expected v) s.node ≡ a → (b : Bool) → list_any (is_from s.node) (take m said) ≡ b → (c : Bool) → eq v s.value ≡ c → Brings expected said number m
      by false among b before c same = fails (λ p q r. false≢true (sym among ∙ p))
      by true among true before c same = fails (λ p q r. false≢true (sym q ∙ before))
      by true among false before false same = fails (λ p q r. false≢true (sym same ∙ r))
      by true among false before true same =
          let nodes : expected v ≡ expected s.value = equals v s.value same in
          brings (subst (λ ns. is_among ns s.node ≡ true) nodes among) before
          (omega (arith, many, votes-congr eq laws (take (m + 1) said) (expected v) v s.value same, ap (λ ns. votes eq (take (m + 1) said) ns s.value) nodes))

  no_votes : (nodes : List ℕ) (v : V) → 0 < votes eq [] nodes v → ⊥
  unfolding first_from
  no_votes nodes v some = let (node, w, first, same, among) = voted [] nodes v some in cc

  -- a value that has so many votes among the first arrivals was brought to them by one of these
  brought : IsEquivalence eq → (expected : V → List ℕ) (said : List (Said V)) (number : ℕ) (v : V) → IsOfEquals eq expected → 1 ≤ number → (arrivals : ℕ) → number ≤ votes eq (take arrivals said) (expected v) v
      → (place : ℕ) × (place < arrivals) × Brings expected said number place
  brought laws expected said number v equals some zero many = absurd (no_votes (expected v) v (omega arith))
  brought laws expected said number v equals some (suc m) many =
      ⊎_elim
      (λ inside. ⊎_elim (λ few. here inside few) (λ enough. earlier (brought laws expected said number v equals some m enough)) (cases_lt (votes eq (take m said) (expected v) v) number))
      (λ past.
      let same : take (suc m) said ≡ take m said = take_all (suc m) said (omega arith) ∙ sym (take_all m said past) in
      earlier (brought laws expected said number v equals some m (omega (arith, many, ap (λ l. votes eq l (expected v) v) same))))
      (cases_lt m (length said))
    where
      earlier : (place : ℕ) × (place < m) × Brings expected said number place → (place : ℕ) × (place < suc m) × Brings expected said number place
      earlier (place, less, brings) = (place, omega arith, brings)

      here : m < length said → votes eq (take m said) (expected v) v < number → (place : ℕ) × (place < suc m) × Brings expected said number place
      here inside few =
          let (s, at, more) = one_more said m inside in
          let next : suc m ≡ m + 1 = omega arith in
          (m, omega arith, bringing laws expected said number v m s equals at more inside few (omega (arith, many, ap (λ k. votes eq (take k said) (expected v) v) next)))

  -- the first arrival that brings a value to a number, where there is one
  reached_by : IsEquivalence eq → (expected : V → List ℕ) (said : List (Said V)) (number : ℕ) (v : V) → IsOfEquals eq expected → 1 ≤ number → (arrivals : ℕ) → number ≤ votes eq (take arrivals said) (expected v) v
      → (last : ℕ) × (reached eq expected said number ≡ Some last) × (last < arrivals)
  unfolding reached
  reached_by laws expected said number v equals some arrivals many =
      let (place, less, brings) = brought laws expected said number v equals some arrivals many in
      by place less brings (first_place (λ k. counts expected said k && has_number eq expected said number k) (length said)) refl
    where
      by : (place : ℕ) → place < arrivals → Brings expected said number place → (o : Option ℕ)
          → first_place (λ k. counts expected said k && has_number eq expected said number k) (length said) ≡ o
          → (last : ℕ) × (first_place (λ k. counts expected said k && has_number eq expected said number k) (length said) ≡ Some last) × (last < arrivals)
      by place less brings None is =
          absurd (false≢true (sym (first_place-none (λ k. counts expected said k && has_number eq expected said number k) (length said) is place brings.within)
          ∙ both_pass brings.counted brings.numbered))
      by place less brings (Some last) is =
          let first = first_place-is (λ k. counts expected said k && has_number eq expected said number k) (length said) last is in
          (last, is, ⊎_elim (λ sooner. absurd (false≢true (sym (first.before place sooner) ∙ both_pass brings.counted brings.numbered))) (λ not_sooner. omega arith) (cases_lt place last))

  equal_to_itself : IsEquivalence eq → (said : List (Said V)) (place : ℕ) (s : Said V) → slice_get said place ≡ Some s → have_equal eq said place place ≡ true
  unfolding have_equal
  equal_to_itself laws said place s at =
      ap (λ o. option_map_or (λ (x : Said V). passes_at said (λ y. eq x.value y.value) place) o false) at
      ∙ ap (λ o. option_map_or (λ (y : Said V). eq s.value y.value) o false) at ∙ laws.refl s.value

  counted_at : (expected : V → List ℕ) (said : List (Said V)) (place : ℕ) → counts expected said place ≡ true → (s : Said V) × (slice_get said place ≡ Some s)
  unfolding counts
  counted_at expected said place e =
      let (s, at, passes) = some_at said (λ x. is_among (expected x.value) x.node && not (list_any (is_from x.node) (take place said))) place e in (s, at)

  reached_first : (expected : V → List ℕ) (said : List (Said V)) (number last : ℕ) → reached eq expected said number ≡ Some last
      → IsFirst (λ k. counts expected said k && has_number eq expected said number k) last (length said)
  unfolding reached
  reached_first expected said number last e = first_place-is (λ k. counts expected said k && has_number eq expected said number k) (length said) last e

  pub number_given : IsEquivalence eq → (expected : V → List ℕ) (said : List (Said V)) (number : ℕ) (v : V) → IsOfEquals eq expected → 1 ≤ number → number ≤ votes eq said (expected v) v → IsSome (at_least eq expected said number)
  unfolding at_least
  number_given laws expected said number v equals some many = some_of (λ none.
      let (last, reach, within) = reached_by laws expected said number v equals some (length said) (omega (arith, many, ap (λ l. votes eq l (expected v) v) (take_all (length said) said (omega arith)))) in
      by last reach (sym (ap (λ o. option_and_then (λ m. first_place (λ k. counts expected said k && have_equal eq said m k) (length said)) o) reach) ∙ none))
    where
      by : (last : ℕ) → reached eq expected said number ≡ Some last → first_place (λ k. counts expected said k && have_equal eq said last k) (length said) ≡ None → ⊥
      by last reach none =
          let first = reached_first expected said number last reach in
          let (counts_here, numbered) = parts_of (counts expected said last) (has_number eq expected said number last) first.here in
          let (s, at) = counted_at expected said last counts_here in
          false≢true (sym (first_place-none (λ k. counts expected said k && have_equal eq said last k) (length said) none last first.below)
          ∙ both_pass counts_here (equal_to_itself laws said last s at))

  -- ---- the votes of a value that came to a number

  take_within : {A : Type 0} (xs : List A) (i j : ℕ) → i ≤ j → take i (take j xs) ≡ take i xs
  take_within [] zero zero less = refl
  take_within [] zero (suc j) less = refl
  take_within [] (suc i) zero less = absurd (omega arith)
  take_within [] (suc i) (suc j) less = refl
  take_within (x ∷ xs) zero j less = refl
  take_within (x ∷ xs) (suc i) zero less = absurd (omega arith)
  take_within (x ∷ xs) (suc i) (suc j) less = ap (λ l. x ∷ l) (take_within xs i j (omega arith))

  votes_prefix : (said : List (Said V)) (nodes : List ℕ) (v : V) (i j : ℕ) → i ≤ j → votes eq (take i said) nodes v ≤ votes eq (take j said) nodes v
  votes_prefix said nodes v i j less =
      let whole : take i said ++ drop i (take j said) ≡ take j said = ap (λ l. l ++ drop i (take j said)) (sym (take_within said i j less)) ∙ take-append-drop i (take j said) in
      omega (arith, votes-append eq (take i said) (drop i (take j said)) nodes v, ap (λ l. votes eq l nodes v) whole)

  -- the value at the arrival by which it came to the number
  record Numbered (expected : V → List ℕ) (said : List (Said V)) (number place last : ℕ) (t : Said V) (s : Said V) : Type 0 where
    last_at : slice_get said last ≡ Some t
    place_at : slice_get said place ≡ Some s
    same : eq t.value s.value ≡ true
    many : number ≤ votes eq (take (last + 1) said) (expected t.value) t.value

  numbered_at : (expected : V → List ℕ) (said : List (Said V)) (number place last : ℕ) → has_number eq expected said number last ≡ true → have_equal eq said last place ≡ true
      → (t : Said V) × (s : Said V) × Numbered expected said number place last t s
  unfolding has_number have_equal
  numbered_at expected said number place last enough equal =
      let (t, at, many) = some_at said (λ x. leb number (votes eq (take (last + 1) said) (expected x.value) x.value)) last enough in
      let same = sym (ap (λ o. option_map_or (λ (x : Said V). passes_at said (λ y. eq x.value y.value) place) o false) at) ∙ equal in
      let (s, found, passes) = some_at said (λ y. eq t.value y.value) place same in
      (t, s, record { last_at = at; place_at = found; same = passes; many = leb-true number (votes eq (take (last + 1) said) (expected t.value) t.value) many })

  pub number_votes : IsEquivalence eq → (expected : V → List ℕ) (said : List (Said V)) (number place : ℕ) → IsOfEquals eq expected
      → at_least eq expected said number ≡ Some place
      → (s : Said V) × (slice_get said place ≡ Some s) × (counts expected said place ≡ true) × (number ≤ votes eq said (expected s.value) s.value)
  number_votes laws expected said number place respects e =
      let r = reaching eq expected said number place e in
      let (counts_there, enough) = parts_of (counts expected said r.last) (has_number eq expected said number r.last) r.reach.here in
      let (counts_here, equal) = parts_of (counts expected said place) (have_equal eq said r.last place) r.first_equal.here in
      let (t, s, n) = numbered_at expected said number place r.last enough equal in
      let all = votes-append eq (take (r.last + 1) said) (drop (r.last + 1) said) (expected t.value) t.value in
      let whole = ap (λ l. votes eq l (expected t.value) t.value) (take-append-drop (r.last + 1) said) in
      let moved = votes-congr eq laws said (expected t.value) t.value s.value n.same in
      let asked = ap (λ nodes. votes eq said nodes s.value) (respects t.value s.value n.same) in
      (s, n.place_at, counts_here, omega (arith, n.many, all, whole, moved, asked))

  pub number_earliest : IsEquivalence eq → (expected : V → List ℕ) (said : List (Said V)) (number place arrivals : ℕ) (s : Said V) (v : V) → IsOfEquals eq expected → 1 ≤ number
      → at_least eq expected said number ≡ Some place → slice_get said place ≡ Some s
      → number ≤ votes eq (take arrivals said) (expected v) v → number ≤ votes eq (take arrivals said) (expected s.value) s.value
  unfolding reached
  number_earliest laws expected said number place arrivals s v equals some e is many =
      let r = reaching eq expected said number place e in
      let (last, reach, within) = reached_by laws expected said number v equals some arrivals many in
      let only = first_place-only (λ k. counts expected said k && has_number eq expected said number k) (length said) r.last r.reach in
      let same : last ≡ r.last = cc in
      let (counts_there, enough) = parts_of (counts expected said r.last) (has_number eq expected said number r.last) r.reach.here in
      let (counts_here, equal) = parts_of (counts expected said place) (have_equal eq said r.last place) r.first_equal.here in
      let (t, s', n) = numbered_at expected said number place r.last enough equal in
      let value : s' ≡ s = cc in
      let up = votes_prefix said (expected t.value) t.value (r.last + 1) arrivals (omega (arith, within, same)) in
      let moved = votes-congr eq laws (take arrivals said) (expected t.value) t.value s'.value n.same in
      let asked = ap (λ nodes. votes eq (take arrivals said) nodes s'.value) (equals t.value s'.value n.same) in
      omega (arith, n.many, up, moved, asked, ap (λ (x : Said V). votes eq (take arrivals said) (expected x.value) x.value) value)
