-- Where each node that is expected has said something, and all that was said is equal, every collator gives a value.
use Rattle.std.proofs.Common.{◌≡◌, ℕ, zero, suc, ◌+◌, ◌*◌, ◌<◌, ◌≤◌, Bool, true, false, cond, not, ◌&&◌, ◌||◌, ◌==◌, ltb, leb, List, [], ◌∷◌, length, take, find, slice_get, count_by, Option, Some, None, option_map, is_none, refl, sym, ap, subst, ◌∙◌, arith, eq-eqb, IsSome, if◌then◌else◌}
use Rattle.std.specs.Option.{option_map_or, option_and_then}
use Rattle.std.specs.List.{list_any, list_all}
use Rattle.std.specs.Cmp.{IsEquivalence}
use Rattle.std.proofs.lemmas.List.Sums.{sum_by-cons}
use Rattle.circus_value.specs.Among.{is_among}
use Rattle.circus_collate.specs.declared.giving.Said.{Said}
use Rattle.circus_collate.specs.declared.kind.Kind.{Kind}
use Rattle.circus_collate.specs.declared.kind.Kind.TheVariants as K
use Rattle.circus_collate.specs.Giving.{first_place, is_from, passes_at, first_from, all_have_said, counts, votes, have_equal, has_majority, has_number, majority, reached, at_least, first, first_difference, unanimous, place_of_value}
use Rattle.circus_collate.proofs.Places.{first_place-nothing, both_pass}
use Rattle.circus_collate.proofs.Reaching.{found_at, not_found, majority_given, number_given}

-- a collator asks for no more values than nodes are expected
abbrev pub IsWithin : Kind → ℕ → Type 0
IsWithin (K.AtLeast number) nodes = (1 ≤ number) × (number ≤ nodes)
IsWithin K.First nodes = Unit {0}
IsWithin K.Majority nodes = Unit {0}
IsWithin K.Unanimous nodes = Unit {0}
IsWithin K.Watchdog nodes = Unit {0}

-- ---- lists of nodes

among_first : (x : ℕ) (xs : List ℕ) → is_among (x ∷ xs) x ≡ true
among_first x xs = ap (λ b. b || list_any (λ n. n == x) xs) (eq-eqb x x refl)

among_later : (x y : ℕ) (xs : List ℕ) → is_among xs y ≡ true → is_among (x ∷ xs) y ≡ true
among_later x y xs h = go (x == y) _ h
  where
    go : (a b : Bool) → b ≡ true → (a || b) ≡ true
    go true b h = refl
    go false b h = h

count_all : (p : ℕ → Bool) (xs : List ℕ) → ((x : ℕ) → is_among xs x ≡ true → p x ≡ true) → count_by p xs ≡ length xs
count_all p [] h = refl
count_all p (x ∷ xs) h =
    let here : ◌≡◌ {A = ℕ} (cond (p x) 1 0) 1 = ap (λ b. cond b 1 0) (h x (among_first x xs)) in
    let rest = count_all p xs (λ y is. h y (among_later x y xs is)) in
    let both = sum_by-cons (λ (y : ℕ). cond (p y) 1 0) x xs in
    omega (arith, here, rest, both)

all_pass : (p : ℕ → Bool) (xs : List ℕ) → ((x : ℕ) → is_among xs x ≡ true → p x ≡ true) → list_all p xs ≡ true
all_pass p [] h = refl
all_pass p (x ∷ xs) h = both_pass (h x (among_first x xs)) (all_pass p xs (λ y is. h y (among_later x y xs is)))

-- ---- what was said

none_said : {V : Type 0} (node : ℕ) (said : List (Said V)) → said ≡ [] → list_any (is_from node) said ≡ true → ⊥
none_said node [] is any = cc
none_said node (s ∷ said) is any = cc

module _ {V : Type 0} (eq : V → V → Bool) (laws : IsEquivalence eq) (nodes : List ℕ) (said : List (Said V)) where
  -- each of the nodes has said something, and all that was said is equal
  pub record AllSay : Type 0 where
    pub some : 0 < length nodes
    pub each : (node : ℕ) → is_among nodes node ≡ true → list_any (is_from node) said ≡ true
    pub same : (one other : ℕ) (s t : Said V) → slice_get said one ≡ Some s → slice_get said other ≡ Some t → eq s.value t.value ≡ true

  module _ (all : AllSay) where
    first_said : (s : Said V) × (slice_get said 0 ≡ Some s)
    first_said = go nodes all.some all.each said refl
      where
        go : (ns : List ℕ) → 0 < length ns → ((node : ℕ) → is_among ns node ≡ true → list_any (is_from node) said ≡ true) → (l : List (Said V)) → said ≡ l → (s : Said V) × (slice_get l 0 ≡ Some s)
        go ns some each (s ∷ l) is = (s, refl)
        go [] some each [] is = absurd (omega (arith, some))
        go (n ∷ ns) some each [] is = absurd (none_said n said is (each n (among_first n ns)))

    votes_all : votes eq said nodes first_said.0.value ≡ length nodes
    unfolding votes first_from
    votes_all = count_all _ nodes (λ node is. one node (all.each node is))
      where
        one : (node : ℕ) → list_any (is_from node) said ≡ true → option_map_or (eq first_said.0.value) (option_map (λ (s : Said V). s.value) (find (is_from node) said)) false ≡ true
        one node any = by (find (is_from node) said) refl
          where
            by : (o : Option (Said V)) → find (is_from node) said ≡ o → option_map_or (eq first_said.0.value) (option_map (λ (s : Said V). s.value) o) false ≡ true
            by None none = absurd (let no_ : list_any (is_from node) said ≡ false = not_found (is_from node) said none in let clash : true ≡ false = sym any ∙ no_ in cc)
            by (Some s) is = (let at = found_at (is_from node) said s is in all.same 0 at.0 first_said.0 s first_said.1 at.1)

    no_difference : first_difference eq said ≡ None
    unfolding first_difference have_equal
    no_difference = first_place-nothing _ (length said) (λ place below. ap not (equal place (there said place below)))
      where
        there : (l : List (Said V)) (place : ℕ) → place < length l → (s : Said V) × (slice_get l place ≡ Some s)
        there [] place below = absurd (omega (arith, below))
        there (s ∷ l) zero below = (s, refl)
        there (s ∷ l) (suc place) below = there l place (omega (arith, below))

        equal : (place : ℕ) → (s : Said V) × (slice_get said place ≡ Some s) → passes_at said (λ s. passes_at said (λ t. eq s.value t.value) place) 0 ≡ true
        equal place s =
            ap (λ o. option_map_or (λ (x : Said V). passes_at said (λ t. eq x.value t.value) place) o false) first_said.1
            ∙ ap (λ o. option_map_or (λ (t : Said V). eq first_said.0.value t.value) o false) s.1
            ∙ all.same 0 place first_said.0 s.0 first_said.1 s.1

    first_given : IsSome (first said)
    unfolding first
    first_given = subst (λ (o : Option (Said V)). IsSome {T = ℕ} (if option_map_or (λ (s : Said V). true) o false then Some 0 else None)) (sym first_said.1) refl

    unanimous_given : (down : List ℕ) → IsSome (unanimous eq (λ _. nodes) said down)
    unfolding unanimous all_have_said
    unanimous_given down =
        chosen _
        (both_pass
        (ap (λ o. option_map_or (λ (s : Said V). list_all (λ node. is_among down node || list_any (is_from node) said) nodes) o false) first_said.1
        ∙ all_pass _ nodes (λ node is. either (is_among down node) _ (all.each node is)))
        (ap is_none no_difference))
      where
        either : (a b : Bool) → b ≡ true → (a || b) ≡ true
        either true b h = refl
        either false b h = h

        chosen : (b : Bool) → b ≡ true → IsSome {T = ℕ} (if b then Some 0 else None)
        chosen true h = refl
        chosen false h = absurd cc

    pub all_given : (kind : Kind) (down : List ℕ) → IsWithin kind (length nodes) → IsSome (place_of_value eq (λ _. nodes) said kind down)
    all_given K.First down within = first_given
    all_given K.Watchdog down within = first_given
    all_given K.Unanimous down within = unanimous_given down
    all_given K.Majority down within = (let many = votes_all in let some = all.some in majority_given eq laws (λ _. nodes) said first_said.0.value (λ v w h. refl) (omega (arith, many, some)))
    all_given (K.AtLeast number) down within = (let many = votes_all in number_given eq laws (λ _. nodes) said number first_said.0.value (λ v w h. refl) within.0 (omega (arith, many, within.1)))

-- ---- where the nodes that are expected depend on the value, but are the same for all that was said

first_place_alike : (p q : ℕ → Bool) (n : ℕ) → ((k : ℕ) → p k ≡ q k) → first_place p n ≡ first_place q n
first_place_alike p q zero same = refl
first_place_alike p q (suc n) same = (λ i. option_map_or Some (first_place_alike p q n same i) (if same n i then Some n else None))

module _ {V : Type 0} (eq : V → V → Bool) (expected : V → List ℕ) (nodes : List ℕ) (said : List (Said V)) (same : (place : ℕ) (s : Said V) → slice_get said place ≡ Some s → expected s.value ≡ nodes) where
  passes_alike : (p q : Said V → Bool) (place : ℕ) → ((s : Said V) → expected s.value ≡ nodes → p s ≡ q s) → passes_at said p place ≡ passes_at said q place
  passes_alike p q place alike = go (slice_get said place) refl
    where
      go : (o : Option (Said V)) → slice_get said place ≡ o → option_map_or p o false ≡ option_map_or q o false
      go None is = refl
      go (Some s) is = alike s (same place s is)

  counts_alike : (place : ℕ) → counts expected said place ≡ counts (λ _. nodes) said place
  unfolding counts
  counts_alike place = passes_alike _ _ place (λ s is. ap (λ ns. is_among ns s.node && not (list_any (is_from s.node) (take place said))) is)

  majority_alike : (place : ℕ) → has_majority eq expected said place ≡ has_majority eq (λ _. nodes) said place
  unfolding has_majority
  majority_alike place = passes_alike _ _ place (λ s is. ap (λ ns. ltb (length ns) (2 * votes eq said ns s.value)) is)

  number_alike : (number place : ℕ) → has_number eq expected said number place ≡ has_number eq (λ _. nodes) said number place
  unfolding has_number
  number_alike number place = passes_alike _ _ place (λ s is. ap (λ ns. leb number (votes eq (take (place + 1) said) ns s.value)) is)

  pub given_alike : (kind : Kind) (down : List ℕ) → place_of_value eq expected said kind down ≡ place_of_value eq (λ _. nodes) said kind down
  unfolding unanimous majority reached at_least
  given_alike K.First down = refl
  given_alike K.Watchdog down = refl
  given_alike K.Unanimous down =
      ap (λ b. if b && is_none (first_difference eq said) then Some 0 else None)
      (passes_alike (λ s. all_have_said said down (expected s.value)) (λ s. all_have_said said down nodes) 0 (λ s is. ap (all_have_said said down) is))
  given_alike K.Majority down = first_place_alike _ _ (length said) (λ k i. counts_alike k i && majority_alike k i)
  given_alike (K.AtLeast number) down =
      (λ i. option_and_then (λ last. first_place_alike (λ place. counts expected said place && have_equal eq said last place) (λ place. counts (λ _. nodes) said place && have_equal eq said last place) (length said) (λ k j. counts_alike k j && have_equal eq said last k) i)
      (first_place_alike (λ place. counts expected said place && has_number eq expected said number place) (λ place. counts (λ _. nodes) said place && has_number eq (λ _. nodes) said number place) (length said) (λ k j. counts_alike k j && number_alike number k j) i))
