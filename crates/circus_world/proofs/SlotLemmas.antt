-- The nodes of a world, where each slot has its node.
use Rattle.std.proofs.Common.{◌≡◌, ℕ, zero, suc, ◌+◌, ◌<◌, ◌⊎◌, inl, inr, true, false, List, [], ◌∷◌, ◌++◌, length, set, get_or, All, Option, None, Some, refl, sym, ap, subst, ◌∙◌, arith, zero-add}
use Rattle.std.specs.Prelude.{IsSome, is_some, slice_get, option_map, option_and_then}
use Rattle.std.specs.Option.{option_map_or}
use Rattle.std.proofs.lemmas.Option.{slice_get_read, slice_get_within, get_or_from_slice_get}
use Rattle.std.proofs.lemmas.List.Elements.{All-head, All-tail, All-set, All-push}
use Rattle.circus_node.specs.NodeState.{NodeState}
use Rattle.circus_world.specs.declared.slot.Slot.{Slot}
use Rattle.circus_world.specs.WorldState.{Standing}
use Rattle.circus_world.specs.Seen.Slots.{standing, before, standings, AreFull}

-- ---- lists

-- what stands at a place of a list that was changed at one
pub get_set : {X : Type 0} (xs : List X) (i j : ℕ) (v x : X) → slice_get (set xs i v) j ≡ Some x → ((j ≡ i) × (x ≡ v)) ⊎ (slice_get xs j ≡ Some x)
get_set {X} [] i j v x at = absurd (let clash : ◌≡◌ {A = Option X} None (Some x) = at in cc)
get_set (y ∷ ys) zero zero v x at = inl (refl, (let e : x ≡ v = cc in e))
get_set (y ∷ ys) zero (suc j) v x at = inr at
get_set (y ∷ ys) (suc i) zero v x at = inr at
get_set (y ∷ ys) (suc i) (suc j) v x at =
    elim (get_set ys i j v x at) [ inl h ↦ inl (ap suc h.0, h.1) | inr h ↦ inr h ]

-- what stands at a place of two lists joined
pub get_append : {X : Type 0} (xs ys : List X) (i : ℕ) (x : X) → slice_get (xs ++ ys) i ≡ Some x
    → (slice_get xs i ≡ Some x) ⊎ ((j : ℕ) × (i ≡ length xs + j) × (slice_get ys j ≡ Some x))
get_append [] ys i x at = inr (i, sym (zero-add i), at)
get_append (y ∷ xs) ys zero x at = inl at
get_append (y ∷ xs) ys (suc i) x at =
    elim (get_append xs ys i x at) [ inl h ↦ inl h | inr h ↦ inr (h.0, omega (arith, h.1), h.2) ]

alone : {X : Type 0} (i : ℕ) (v x : X) → slice_get (v ∷ []) i ≡ Some x → (i ≡ 0) × (x ≡ v)
alone zero v x at = (refl, (let e : x ≡ v = cc in e))
alone {X} (suc i) v x at = absurd (let clash : ◌≡◌ {A = Option X} None (Some x) = at in cc)

-- what stands at a place of a list that was added to
pub get_push : {X : Type 0} (xs : List X) (i : ℕ) (v x : X) → slice_get (xs ++ v ∷ []) i ≡ Some x → ((i ≡ length xs) × (x ≡ v)) ⊎ (slice_get xs i ≡ Some x)
get_push xs i v x at =
    elim (get_append xs (v ∷ []) i x at) [
      | inl h ↦ inr h
      | inr h ↦ let last = alone h.0 v x h.2 in inl (omega (arith, h.1, last.0), last.1)
    ]

pub get_there : {X : Type 0} (xs : List X) (i : ℕ) → i < length xs → (x : X) × (slice_get xs i ≡ Some x)
get_there [] i less = absurd (omega (arith, less))
get_there (x ∷ xs) zero less = (x, refl)
get_there (x ∷ xs) (suc i) less = get_there xs i (omega (arith, less))

-- what holds of all holds of what stands at a place
pub all_at : {X : Type 0} (Holds : X → Type 0) (xs : List X) (i : ℕ) (x : X) → All Holds xs → slice_get xs i ≡ Some x → Holds x
all_at Holds xs i x all at = subst Holds (get_or_from_slice_get xs i x x at) (all i x (slice_get_within xs i x at))

module _ {M P : Type 0} where
  -- ---- full slots

  abbrev Full : Slot M P → Type 0
  Full slot = IsSome slot.core

  none_full : {X : Type 0} (slot : Slot M P) → slot.core ≡ None → Full slot → X
  none_full slot is full =
      let clash : false ≡ true = subst (λ (o : Option (NodeState M)). IsSome o) is full in cc

  pub core_there : (slot : Slot M P) → Full slot → (n : NodeState M) × (slot.core ≡ Some n)
  core_there slot full = by_core slot.core refl
    where
      by_core : (o : Option (NodeState M)) → slot.core ≡ o → (n : NodeState M) × (slot.core ≡ Some n)
      by_core None is = none_full slot is full
      by_core (Some n) is = (n, is)

  pub full_at : (slots : List (Slot M P)) (i : ℕ) (slot : Slot M P) → AreFull slots → slice_get slots i ≡ Some slot → (n : NodeState M) × (slot.core ≡ Some n)
  full_at slots i slot full at = core_there slot (all_at Full slots i slot full at)

  pub length_full : (slots : List (Slot M P)) → AreFull slots → length (standings slots) ≡ length slots
  length_full [] full = refl
  length_full (slot ∷ slots) full = by_core slot.core refl (length_full slots (All-tail Full slot slots full))
    where
      by_core : (o : Option (NodeState M)) → slot.core ≡ o → length (standings slots) ≡ length slots → length (before slot o (standings slots)) ≡ suc (length slots)
      by_core None is rest = none_full slot is (All-head Full slot slots full)
      by_core (Some n) is rest = ap suc rest

  pub get_full : (slots : List (Slot M P)) (i : ℕ) (slot : Slot M P) (n : NodeState M) → AreFull slots → slice_get slots i ≡ Some slot → slot.core ≡ Some n
      → slice_get (standings slots) i ≡ Some (standing n slot)
  get_full [] i slot n full at core = absurd (let clash : ◌≡◌ {A = Option (Slot M P)} None (Some slot) = at in cc)
  get_full (x ∷ slots) zero slot n full at core =
      let same : x ≡ slot = cc in
      ap (λ (y : Slot M P). slice_get (before y y.core (standings slots)) 0) same ∙ ap (λ o. slice_get (before slot o (standings slots)) 0) core
  get_full (x ∷ slots) (suc i) slot n full at core = by_core x.core refl (get_full slots i slot n (All-tail Full x slots full) at core)
    where
      by_core : (o : Option (NodeState M)) → x.core ≡ o → slice_get (standings slots) i ≡ Some (standing n slot) → slice_get (before x o (standings slots)) (suc i) ≡ Some (standing n slot)
      by_core None is rest = none_full x is (All-head Full x slots full)
      by_core (Some m) is rest = rest

  pub set_full : (slots : List (Slot M P)) (i : ℕ) (slot : Slot M P) (n : NodeState M) → AreFull slots → slot.core ≡ Some n
      → standings (set slots i slot) ≡ set (standings slots) i (standing n slot)
  set_full [] i slot n full core = refl
  set_full (x ∷ slots) zero slot n full core = by_core x.core refl
    where
      by_core : (o : Option (NodeState M)) → x.core ≡ o → standings (slot ∷ slots) ≡ set (before x o (standings slots)) 0 (standing n slot)
      by_core None is = none_full x is (All-head Full x slots full)
      by_core (Some m) is = ap (λ o. before slot o (standings slots)) core
  set_full (x ∷ slots) (suc j) slot n full core = by_core x.core refl (set_full slots j slot n (All-tail Full x slots full) core)
    where
      by_core : (o : Option (NodeState M)) → x.core ≡ o → standings (set slots j slot) ≡ set (standings slots) j (standing n slot)
          → before x x.core (standings (set slots j slot)) ≡ set (before x o (standings slots)) (suc j) (standing n slot)
      by_core None is rest = none_full x is (All-head Full x slots full)
      by_core (Some m) is rest =
          ap (λ o. before x o (standings (set slots j slot))) is ∙ ap (λ l. standing m x ∷ l) rest

  pub push_full : (slots : List (Slot M P)) (slot : Slot M P) (n : NodeState M) → AreFull slots → slot.core ≡ Some n
      → standings (slots ++ slot ∷ []) ≡ standings slots ++ standing n slot ∷ []
  push_full [] slot n full core = ap (λ o. before slot o []) core
  push_full (x ∷ slots) slot n full core = by_core x.core refl (push_full slots slot n (All-tail Full x slots full) core)
    where
      by_core : (o : Option (NodeState M)) → x.core ≡ o → standings (slots ++ slot ∷ []) ≡ standings slots ++ standing n slot ∷ []
          → before x x.core (standings (slots ++ slot ∷ [])) ≡ before x o (standings slots) ++ standing n slot ∷ []
      by_core None is rest = none_full x is (All-head Full x slots full)
      by_core (Some m) is rest =
          ap (λ o. before x o (standings (slots ++ slot ∷ []))) is ∙ ap (λ l. standing m x ∷ l) rest

  core_full : (slot : Slot M P) (n : NodeState M) → slot.core ≡ Some n → Full slot
  core_full slot n core = ap (λ (o : Option (NodeState M)). is_some o) core

  pub still_full : (slots : List (Slot M P)) (i : ℕ) (slot : Slot M P) (n : NodeState M) → AreFull slots → slot.core ≡ Some n → AreFull (set slots i slot)
  still_full slots i slot n full core = All-set Full slots i slot (core_full slot n core) full

  pub more_full : (slots : List (Slot M P)) (slot : Slot M P) (n : NodeState M) → AreFull slots → slot.core ≡ Some n → AreFull (slots ++ slot ∷ [])
  more_full slots slot n full core = All-push Full slots slot full (core_full slot n core)

  pub slot_at : (slots : List (Slot M P)) (i : ℕ) (slot : Slot M P) → i < length slots → slot ≡ get_or slots i slot → slice_get slots i ≡ Some slot
  slot_at slots i slot below is = slice_get_read slots (length slots) i slot refl below is

  -- ---- what a slot shows

  pub core_of : (slots : List (Slot M P)) (i : ℕ) (slot : Slot M P) (n : NodeState M) → AreFull slots → slice_get slots i ≡ Some slot → slot.core ≡ Some n
      → option_map (λ (s : Standing M). s.node) (slice_get (standings slots) i) ≡ Some n
  core_of slots i slot n full at core = ap (λ (o : Option (Standing M)). option_map (λ (s : Standing M). s.node) o) (get_full slots i slot n full at core)

  pub crashed_of : (slots : List (Slot M P)) (i : ℕ) (slot : Slot M P) → AreFull slots → slice_get slots i ≡ Some slot
      → slot.crashed ≡ option_and_then (λ (s : Standing M). s.crashed) (slice_get (standings slots) i)
  crashed_of slots i slot full at =
      let core = full_at slots i slot full at in
      sym (ap (λ (o : Option (Standing M)). option_and_then (λ (s : Standing M). s.crashed) o) (get_full slots i slot core.0 full at core.1))

  pub joins_of : (slots : List (Slot M P)) (i : ℕ) (slot : Slot M P) → AreFull slots → slice_get slots i ≡ Some slot
      → slot.joins ≡ option_map_or (λ (s : Standing M). s.joins) (slice_get (standings slots) i) false
  joins_of slots i slot full at =
      let core = full_at slots i slot full at in
      sym (ap (λ (o : Option (Standing M)). option_map_or (λ (s : Standing M). s.joins) o false) (get_full slots i slot core.0 full at core.1))
