-- Calls in slots, and where those are that pass a test.
use Rattle.std.specs.Prelude.{option_and_then, nat_eq, nat_le}
use Rattle.std.proofs.Common.{◌≡◌, ℕ, suc, ◌+◌, ◌<◌, ◌≤◌, Bool, true, false, not, ◌&&◌, cond, List, [], ◌∷◌, ◌++◌, length, map, filter, get_or, take, drop, slice_get, slice_set, Option, Some, None, refl, sym, ap, ◌∙◌, inl, inr, arith, append_assoc, append-nil, length-append}
use Rattle.std.specs.Option.{option_map_or}
use Rattle.std.proofs.Math.Seq.{set-append_seam}
use Rattle.std.proofs.lemmas.List.{drop_more, drop_all, take_more, length-take}
use Rattle.std.proofs.lemmas.List.Elements.{filter-append}
use Rattle.std.proofs.lemmas.List.Sums.{length-filter, count_by-le-length}
use Rattle.std.proofs.lemmas.Bool.{eqb-true, eq-eqb, ne_eqb, cases_eq}
use Rattle.circus_gather.specs.declared.held.HeldCall.{HeldCall}
use Rattle.circus_gather.specs.declared.group.Group.{Group}
use Rattle.circus_collate.specs.declared.view.View.{View}
use Rattle.circus_gather.specs.Gathering.{index_of, is_of_index, is_known, is_counted}
use Rattle.circus_gather.specs.Seen.Groups.{is_in_group, stays, spare_call}
use Rattle.circus_gather.specs.Seen.Slots.{items_in, places_from, item_at, calls_at, empty_slots}
use Rattle.circus_collate.proofs.Going.{front}

-- ---- what is made of the calls at places, one after another

module _ {X B : Type 0} (f : X → B) where
  pub made_more : (slots : List (Option X)) (places : List ℕ) (i : ℕ) (x : X) (y : B) (done whole : List B) → i < length places
      → Some x ≡ item_at slots (get_or places i 0) → y ≡ f x
      → whole ≡ done ++ map f (calls_at slots (drop i places)) → whole ≡ (done ++ y ∷ []) ++ map f (calls_at slots (drop (i + 1) places))
  made_more slots places i x y done whole few there made all =
      let rest : List X = calls_at slots (drop (i + 1) places) in
      all ∙ ap (λ ps. done ++ map f (calls_at slots ps)) (drop_more places i 0 few)
      ∙ ap (λ o. done ++ map f (option_map_or (λ z. z ∷ rest) o rest)) (sym there)
      ∙ ap (λ z. done ++ (z ∷ map f rest)) (sym made) ∙ sym (append_assoc done (y ∷ []) (map f rest))

  pub made_none : (slots : List (Option X)) (places : List ℕ) (i : ℕ) (done whole : List B) → i < length places
      → None ≡ item_at slots (get_or places i 0)
      → whole ≡ done ++ map f (calls_at slots (drop i places)) → whole ≡ done ++ map f (calls_at slots (drop (i + 1) places))
  made_none slots places i done whole few there all =
      let rest : List X = calls_at slots (drop (i + 1) places) in
      all ∙ ap (λ ps. done ++ map f (calls_at slots ps)) (drop_more places i 0 few)
      ∙ ap (λ o. done ++ map f (option_map_or (λ z. z ∷ rest) o rest)) (sym there)

  pub made_all : (slots : List (Option X)) (places : List ℕ) (i : ℕ) (done whole : List B) → length places ≤ i
      → whole ≡ done ++ map f (calls_at slots (drop i places)) → done ≡ whole
  made_all slots places i done whole all is =
      sym (is ∙ ap (λ ps. done ++ map f (calls_at slots ps)) (drop_all i places all) ∙ append-nil done)

-- and of those that pass

module _ {X B : Type 0} (p : X → Bool) (f : X → B) where
  abbrev passed : List X → List B
  passed xs = map f (filter p xs)

  passed_there : (slots : List (Option X)) (places : List ℕ) (i : ℕ) (o : Option X) (done whole : List B) → i < length places
      → o ≡ item_at slots (get_or places i 0) → whole ≡ done ++ passed (calls_at slots (drop i places))
      → let rest : List X = calls_at slots (drop (i + 1) places) in whole ≡ done ++ passed (option_map_or (λ z. z ∷ rest) o rest)
  passed_there slots places i o done whole few there all =
      let rest : List X = calls_at slots (drop (i + 1) places) in
      all ∙ ap (λ ps. done ++ passed (calls_at slots ps)) (drop_more places i 0 few)
      ∙ ap (λ q. done ++ passed (option_map_or (λ z. z ∷ rest) q rest)) (sym there)

  pub passed_more : (slots : List (Option X)) (places : List ℕ) (i : ℕ) (x : X) (y : B) (done whole : List B) → i < length places
      → Some x ≡ item_at slots (get_or places i 0) → p x ≡ true → y ≡ f x
      → whole ≡ done ++ map f (filter p (calls_at slots (drop i places))) → whole ≡ (done ++ y ∷ []) ++ map f (filter p (calls_at slots (drop (i + 1) places)))
  passed_more slots places i x y done whole few there passes made all =
      let rest : List X = calls_at slots (drop (i + 1) places) in
      passed_there slots places i (Some x) done whole few there all
      ∙ ap (λ b. done ++ map f (cond b (x ∷ filter p rest) (filter p rest))) passes
      ∙ ap (λ z. done ++ (z ∷ passed rest)) (sym made) ∙ sym (append_assoc done (y ∷ []) (passed rest))

  pub passed_over : (slots : List (Option X)) (places : List ℕ) (i : ℕ) (x : X) (done whole : List B) → i < length places
      → Some x ≡ item_at slots (get_or places i 0) → p x ≡ false
      → whole ≡ done ++ map f (filter p (calls_at slots (drop i places))) → whole ≡ done ++ map f (filter p (calls_at slots (drop (i + 1) places)))
  passed_over slots places i x done whole few there fails all =
      let rest : List X = calls_at slots (drop (i + 1) places) in
      passed_there slots places i (Some x) done whole few there all
      ∙ ap (λ b. done ++ map f (cond b (x ∷ filter p rest) (filter p rest))) fails

  pub passed_none : (slots : List (Option X)) (places : List ℕ) (i : ℕ) (done whole : List B) → i < length places
      → None ≡ item_at slots (get_or places i 0)
      → whole ≡ done ++ map f (filter p (calls_at slots (drop i places))) → whole ≡ done ++ map f (filter p (calls_at slots (drop (i + 1) places)))
  passed_none slots places i done whole few there all = passed_there slots places i None done whole few there all

  pub passed_all : (slots : List (Option X)) (places : List ℕ) (i : ℕ) (done whole : List B) → length places ≤ i
      → whole ≡ done ++ map f (filter p (calls_at slots (drop i places))) → done ≡ whole
  passed_all slots places i done whole all is =
      sym (is ∙ ap (λ ps. done ++ passed (calls_at slots ps)) (drop_all i places all) ∙ append-nil done)

module _ {X : Type 0} where
  -- ---- all calls, one after another

  pub kept_more : (slots : List (Option X)) (i : ℕ) (o : Option X) (x y : X) (done whole : List X) → i < length slots → o ≡ get_or slots i o
      → Some x ≡ o → y ≡ x → whole ≡ done ++ items_in (drop i slots) → whole ≡ (done ++ y ∷ []) ++ items_in (drop (i + 1) slots)
  kept_more slots i o x y done whole few is there made all =
      let rest : List X = items_in (drop (i + 1) slots) in
      all ∙ ap (λ os. done ++ items_in os) (front slots i o few is ∙ ap (λ p. p ∷ drop (i + 1) slots) (sym there))
      ∙ ap (λ z. done ++ (z ∷ rest)) (sym made) ∙ sym (append_assoc done (y ∷ []) rest)

  pub kept_none : (slots : List (Option X)) (i : ℕ) (o : Option X) (done whole : List X) → i < length slots → o ≡ get_or slots i o
      → None ≡ o → whole ≡ done ++ items_in (drop i slots) → whole ≡ done ++ items_in (drop (i + 1) slots)
  kept_none slots i o done whole few is there all =
      all ∙ ap (λ os. done ++ items_in os) (front slots i o few is ∙ ap (λ p. p ∷ drop (i + 1) slots) (sym there))

  pub kept_all : (slots : List (Option X)) (i : ℕ) (done whole : List X) → length slots ≤ i → whole ≡ done ++ items_in (drop i slots) → done ≡ whole
  kept_all slots i done whole all is = sym (is ∙ ap (λ os. done ++ items_in os) (drop_all i slots all) ∙ append-nil done)

  -- ---- one slot more

  pub kept-append : (slots : List (Option X)) (x : X) → items_in (slots ++ Some x ∷ []) ≡ items_in slots ++ x ∷ []
  kept-append [] x = refl
  kept-append (None ∷ slots) x = kept-append slots x
  kept-append (Some y ∷ slots) x = ap (λ ys. y ∷ ys) (kept-append slots x)

  pub places-append : (p : X → Bool) (at n : ℕ) (slots : List (Option X)) (x : X) → n ≡ at + length slots
      → places_from p at (slots ++ Some x ∷ []) ≡ places_from p at slots ++ cond (p x) (n ∷ []) []
  places-append p at n [] x is = let same : at ≡ n = omega arith in ap (λ k. cond (p x) (k ∷ []) []) same
  places-append p at n (None ∷ slots) x is = places-append p (suc at) n slots x (omega arith)
  places-append p at n (Some y ∷ slots) x is =
      let rest = places-append p (suc at) n slots x (omega arith) in
      elim (p y) as (λ b. cond b (at ∷ places_from p (suc at) (slots ++ Some x ∷ [])) (places_from p (suc at) (slots ++ Some x ∷ []))
      ≡ cond b (at ∷ places_from p (suc at) slots) (places_from p (suc at) slots) ++ cond (p x) (n ∷ []) []) [
        | true ↦ ap (λ ps. at ∷ ps) rest
        | false ↦ rest
      ]

  -- ---- the slots of those that pass

  seam : (before slots : List (Option X)) (o : Option X) → slice_get (before ++ o ∷ slots) (length before) ≡ Some o
  seam [] slots o = refl
  seam (p ∷ before) slots o = seam before slots o

  longer : (before : List (Option X)) (o : Option X) (n : ℕ) → n ≡ length before → suc n ≡ length (before ++ o ∷ [])
  longer before o n is = omega (arith, is, length-append before (o ∷ []))

  stood_at : (p : X → Bool) (all before slots : List (Option X)) (n : ℕ) → all ≡ before ++ slots → n ≡ length before
      → calls_at all (places_from p n slots) ≡ filter p (items_in slots)
  stood_at p all before [] n is upto = refl
  stood_at p all before (None ∷ slots) n is upto =
      stood_at p all (before ++ None ∷ []) slots (suc n) (is ∙ sym (append_assoc before (None ∷ []) slots)) (longer before None n upto)
  stood_at p all before (Some x ∷ slots) n is upto =
      let rest = stood_at p all (before ++ Some x ∷ []) slots (suc n) (is ∙ sym (append_assoc before (Some x ∷ []) slots)) (longer before (Some x) n upto) in
      let there : item_at all n ≡ Some x =
      ap (λ os. item_at os n) is ∙ ap (λ k. item_at (before ++ Some x ∷ slots) k) upto ∙ ap (λ o. option_and_then (λ z. z) o) (seam before slots (Some x)) in
      let others : List X = calls_at all (places_from p (suc n) slots) in
      elim (p x) as (λ b. calls_at all (cond b (n ∷ places_from p (suc n) slots) (places_from p (suc n) slots)) ≡ cond b (x ∷ filter p (items_in slots)) (filter p (items_in slots))) [
        | true ↦ ap (λ o. option_map_or (λ z. z ∷ others) o others) there ∙ ap (λ r. x ∷ r) rest
        | false ↦ rest
      ]

  -- what stands there are those that pass
  pub calls-places : (p : X → Bool) (slots : List (Option X)) → calls_at slots (places_from p 0 slots) ≡ filter p (items_in slots)
  calls-places p slots = stood_at p slots [] slots 0 refl refl

  -- once those that pass are gone
  abbrev cleared : (X → Bool) → List (Option X) → List (Option X)
  cleared p [] = []
  cleared p (None ∷ slots) = None ∷ cleared p slots
  cleared p (Some x ∷ slots) = cond (p x) None (Some x) ∷ cleared p slots

  emptied_at : (p : X → Bool) (all before slots : List (Option X)) (n : ℕ) → all ≡ before ++ slots → n ≡ length before
      → empty_slots all (places_from p n slots) ≡ before ++ cleared p slots
  emptied_at p all before [] n is upto = is
  emptied_at p all before (None ∷ slots) n is upto =
      emptied_at p all (before ++ None ∷ []) slots (suc n) (is ∙ sym (append_assoc before (None ∷ []) slots)) (longer before None n upto)
      ∙ append_assoc before (None ∷ []) (cleared p slots)
  emptied_at p all before (Some x ∷ slots) n is upto =
      let set : slice_set all n None ≡ (before ++ None ∷ []) ++ slots =
      ap (λ os. slice_set os n None) is ∙ ap (λ k. slice_set (before ++ Some x ∷ slots) k None) upto ∙ set-append_seam before (Some x) slots None
      ∙ sym (append_assoc before (None ∷ []) slots) in
      elim (p x) as (λ b. empty_slots all (cond b (n ∷ places_from p (suc n) slots) (places_from p (suc n) slots)) ≡ before ++ (cond b None (Some x) ∷ cleared p slots)) [
        | true ↦ emptied_at p (slice_set all n None) (before ++ None ∷ []) slots (suc n) set (longer before None n upto)
            ∙ append_assoc before (None ∷ []) (cleared p slots)
        | false ↦ emptied_at p all (before ++ Some x ∷ []) slots (suc n) (is ∙ sym (append_assoc before (Some x ∷ []) slots)) (longer before (Some x) n upto)
            ∙ append_assoc before (Some x ∷ []) (cleared p slots)
      ]

  emptied-places : (p : X → Bool) (slots : List (Option X)) → empty_slots slots (places_from p 0 slots) ≡ cleared p slots
  emptied-places p slots = emptied_at p slots [] slots 0 refl refl

  kept-cleared : (p : X → Bool) (slots : List (Option X)) → items_in (cleared p slots) ≡ filter (λ x. not (p x)) (items_in slots)
  kept-cleared p [] = refl
  kept-cleared p (None ∷ slots) = kept-cleared p slots
  kept-cleared p (Some x ∷ slots) =
      let rest : List X = filter (λ y. not (p y)) (items_in slots) in
      elim (p x) as (λ b. items_in (cond b None (Some x) ∷ cleared p slots) ≡ cond (not b) (x ∷ rest) rest) [
        | true ↦ kept-cleared p slots
        | false ↦ ap (λ ys. x ∷ ys) (kept-cleared p slots)
      ]

  places-cleared : (p q : X → Bool) (at : ℕ) (slots : List (Option X)) → places_from q at (cleared p slots) ≡ places_from (λ x. not (p x) && q x) at slots
  places-cleared p q at [] = refl
  places-cleared p q at (None ∷ slots) = places-cleared p q (suc at) slots
  places-cleared p q at (Some x ∷ slots) =
      let rest : List ℕ = places_from (λ y. not (p y) && q y) (suc at) slots in
      elim (p x) as (λ b. places_from q at (cond b None (Some x) ∷ cleared p slots) ≡ cond (not b && q x) (at ∷ rest) rest) [
        | true ↦ places-cleared p q (suc at) slots
        | false ↦ ap (λ ps. cond (q x) (at ∷ ps) ps) (places-cleared p q (suc at) slots)
      ]

  places-same : (q r : X → Bool) → ((x : X) → q x ≡ r x) → (at : ℕ) (slots : List (Option X)) → places_from q at slots ≡ places_from r at slots
  places-same q r same at [] = refl
  places-same q r same at (None ∷ slots) = places-same q r same (suc at) slots
  places-same q r same at (Some x ∷ slots) = λ i. cond (same x i) (at ∷ places-same q r same (suc at) slots i) (places-same q r same (suc at) slots i)

  places-none : (q : X → Bool) → ((x : X) → q x ≡ false) → (at : ℕ) (slots : List (Option X)) → places_from q at slots ≡ []
  places-none q none at [] = refl
  places-none q none at (None ∷ slots) = places-none q none (suc at) slots
  places-none q none at (Some x ∷ slots) = ap (λ b. cond b (at ∷ places_from q (suc at) slots) (places_from q (suc at) slots)) (none x) ∙ places-none q none (suc at) slots

  -- without those that pass
  pub kept-emptied : (p : X → Bool) (slots : List (Option X)) → items_in (empty_slots slots (places_from p 0 slots)) ≡ filter (λ x. not (p x)) (items_in slots)
  kept-emptied p slots = ap items_in (emptied-places p slots) ∙ kept-cleared p slots

  narrow_by : (p q : X → Bool) (x : X) (xs : List X) (b : Bool) → p x ≡ b → (p x ≡ false → q x ≡ false) → filter q (filter p xs) ≡ filter q xs
      → filter q (cond b (x ∷ filter p xs) (filter p xs)) ≡ cond (q x) (x ∷ filter q xs) (filter q xs)
  narrow_by p q x xs true is none rest = ap (λ ys. cond (q x) (x ∷ ys) ys) rest
  narrow_by p q x xs false is none rest = rest ∙ ap (λ b. cond b (x ∷ filter q xs) (filter q xs)) (sym (none is))

  -- of those that pass one test, those that pass a narrower one
  pub filter-narrow : (p q : X → Bool) → ((x : X) → p x ≡ false → q x ≡ false) → (xs : List X) → filter q (filter p xs) ≡ filter q xs
  filter-narrow p q none [] = refl
  filter-narrow p q none (x ∷ xs) = narrow_by p q x xs (p x) refl (none x) (filter-narrow p q none xs)

-- ---- the slots of each index

none_passes : (b : Bool) → (not b && b) ≡ false
none_passes true = refl
none_passes false = refl

never : (b : Bool) → (b && false) ≡ false
never true = refl
never false = refl

-- a call of another index is not of this one
apart : (n index other : ℕ) → nat_eq index other ≡ false → (not (nat_eq n index) && nat_eq n other) ≡ nat_eq n other
apart n index other differ = elim (cases_eq n other) [
  | inl same ↦
      let not_here : nat_eq n index ≡ false = ne_eqb n index (λ is. let yes : nat_eq index other ≡ true = eq-eqb index other (sym is ∙ same) in cc) in
      ap (λ b. not b && nat_eq n other) not_here
  | inr unlike ↦ ap (λ b. not (nat_eq n index) && b) (ne_eqb n other unlike) ∙ never (not (nat_eq n index)) ∙ sym (ne_eqb n other unlike)
]

-- of the calls that stand at the places of an index, those that count are all that count
pub counted-places : («module» required : ℕ) (views : List View) (index : ℕ) (slots : List (Option HeldCall))
    → filter (is_counted «module» required views index) (calls_at slots (places_from (is_of_index «module» index) 0 slots))
    ≡ filter (is_counted «module» required views index) (items_in slots)
unfolding is_counted
counted-places «module» required views index slots =
    let narrow = λ (call : HeldCall) (is : is_of_index «module» index call ≡ false).
    ap (λ b. b && nat_le required call.header.server_incarnation && is_known views call.header.client call.header.client_incarnation) is in
    ap (filter (is_counted «module» required views index)) (calls-places (is_of_index «module» index) slots)
    ∙ filter-narrow (is_of_index «module» index) (is_counted «module» required views index) narrow (items_in slots)

module _ («module» : ℕ) where
  -- once the calls of an index are gone, those of the others are where they were
  pub places-left : (slots : List (Option HeldCall)) (index other : ℕ)
      → places_from (is_of_index «module» other) 0 (empty_slots slots (places_from (is_of_index «module» index) 0 slots))
      ≡ cond (nat_eq index other) [] (places_from (is_of_index «module» other) 0 slots)
  places-left slots index other =
      ap (places_from (is_of_index «module» other) 0) (emptied-places (is_of_index «module» index) slots)
      ∙ places-cleared (is_of_index «module» index) (is_of_index «module» other) 0 slots
      ∙ by (nat_eq index other) refl
    where
      by : (b : Bool) → nat_eq index other ≡ b
          → places_from (λ x. not (is_of_index «module» index x) && is_of_index «module» other x) 0 slots ≡ cond b [] (places_from (is_of_index «module» other) 0 slots)
      by true is =
          let same : index ≡ other = eqb-true index other is in
          places-none (λ x. not (is_of_index «module» index x) && is_of_index «module» other x)
          (λ x. ap (λ k. not (is_of_index «module» k x) && is_of_index «module» other x) same ∙ none_passes (is_of_index «module» other x)) 0 slots
      by false is =
          places-same (λ x. not (is_of_index «module» index x) && is_of_index «module» other x) (is_of_index «module» other)
          (λ x. apart (index_of «module» x.header) index other is) 0 slots

  -- where no index has a call there is none
  pub none_left : (at : ℕ) (slots : List (Option HeldCall)) → ((index : ℕ) → places_from (is_of_index «module» index) at slots ≡ []) → items_in slots ≡ []
  none_left at [] none = refl
  none_left at (None ∷ slots) none = none_left (suc at) slots none
  none_left at (Some x ∷ slots) none =
      let i : ℕ = index_of «module» x.header in
      let rest : List ℕ = places_from (is_of_index «module» i) (suc at) slots in
      let wrong : at ∷ rest ≡ [] = ap (λ b. cond b (at ∷ rest) rest) (sym (eq-eqb i i refl)) ∙ none i in
      cc

  -- once the calls of a group are gone
  pub kept-spared : (group : Group) (slots : List (Option HeldCall)) → items_in (filter (stays «module» group) slots) ≡ filter (λ c. not (is_in_group «module» group c)) (items_in slots)
  kept-spared group [] = refl
  kept-spared group (None ∷ slots) = kept-spared group slots
  kept-spared group (Some c ∷ slots) =
      elim (not (is_in_group «module» group c)) as (λ b. items_in (cond b (Some c ∷ filter (stays «module» group) slots) (filter (stays «module» group) slots))
      ≡ cond b (c ∷ filter (λ d. not (is_in_group «module» group d)) (items_in slots)) (filter (λ d. not (is_in_group «module» group d)) (items_in slots))) [
        | true ↦ ap (λ cs. c ∷ cs) (kept-spared group slots)
        | false ↦ kept-spared group slots
      ]

-- ---- the calls that stay, one slot after another

spared_some : (b : Bool) (o : Option HeldCall) (c : HeldCall) → Some c ≡ cond b o None → (b ≡ true) × (o ≡ Some c)
spared_some true o c e = (refl, sym e)
spared_some false o c e = cc

spared_none : («module» : ℕ) (group : Group) (o : Option HeldCall) → None ≡ spare_call «module» group o → stays «module» group o ≡ false
spared_none «module» group None e = refl
spared_none «module» group (Some d) e = by (not (is_in_group «module» group d)) e
  where
    by : (b : Bool) → None ≡ cond b (Some d) None → b ≡ false
    by true e' = cc
    by false e' = refl

module _ («module» : ℕ) (group : Group) (slots : List (Option HeldCall)) (i : ℕ) where
  abbrev pub so_far : List (Option HeldCall)
  so_far = filter (stays «module» group) (take i slots)

  so_far_and : (o : Option HeldCall) → i < length slots → o ≡ get_or slots i o
      → filter (stays «module» group) (take (i + 1) slots) ≡ so_far ++ cond (stays «module» group o) (o ∷ []) []
  so_far_and o few is =
      ap (filter (stays «module» group)) (take_more slots i o few ∙ ap (λ p. take i slots ++ p ∷ []) (sym is))
      ∙ filter-append (stays «module» group) (take i slots) (o ∷ [])

  pub stay_more : (o : Option HeldCall) (c : HeldCall) → i < length slots → o ≡ get_or slots i o → Some c ≡ spare_call «module» group o
      → filter (stays «module» group) (take (i + 1) slots) ≡ so_far ++ Some c ∷ []
  stay_more o c few is there =
      let both = spared_some (stays «module» group o) o c there in
      so_far_and o few is ∙ ap (λ b. so_far ++ cond b (o ∷ []) []) both.0 ∙ ap (λ p. so_far ++ p ∷ []) both.1

  pub stay_none : (o : Option HeldCall) → i < length slots → o ≡ get_or slots i o → None ≡ spare_call «module» group o
      → filter (stays «module» group) (take (i + 1) slots) ≡ so_far
  stay_none o few is there =
      so_far_and o few is ∙ ap (λ b. so_far ++ cond b (o ∷ []) []) (spared_none «module» group o there) ∙ append-nil so_far

  pub so_far_few : length so_far ≤ i
  so_far_few =
      omega (
        arith,
        length-filter (stays «module» group) (take i slots),
        count_by-le-length (stays «module» group) (take i slots),
        length-take i slots,
      )
