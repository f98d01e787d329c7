-- The places of the other nodes, and lists that change at a place.
use Rattle.std.proofs.Common.{◌≡◌, ◌≢◌, ℕ, zero, suc, ◌<◌, ◌≤◌, List, [], ◌∷◌, length, set, Option, None, Some, refl, sym, ap, subst, ◌∙◌, arith, inl, inr}
use Rattle.std.specs.Prelude.{slice_get, option_map}
use Rattle.std.proofs.lemmas.Bool.{ne_eqb}
use Rattle.std.proofs.lemmas.Bool.Decides.{eqb_tells}
use Rattle.circus_wire.specs.Wire.{place_of, node_at, changed_at}

-- ---- places

-- the node at the place of another node is that node
pub back_at : (own node : ℕ) → node ≢ own → node_at own (place_of own node) ≡ node
back_at own node differ = grind (arith, ne_eqb)

-- a place is that of the node there
pub place_back : (own place node : ℕ) → node_at own place ≡ node → place ≡ place_of own node
place_back own place node is = grind arith

-- no place is that of the node itself
pub node_differs : (own place : ℕ) → node_at own place ≢ own
node_differs own place is = grind arith

pub place_within : (own node count : ℕ) → node ≢ own → node ≤ count → own ≤ count → place_of own node < count
place_within own node count differ le own_le = grind arith

-- ---- lists

module _ {X : Type 0} (f : X → X) where
  some_is : (x y : X) → ◌≡◌ {A = Option X} (Some x) (Some y) → x ≡ y
  some_is x y e = cc

  pub set_is : (xs : List X) (place : ℕ) (x : X) → slice_get xs place ≡ Some x → set xs place (f x) ≡ changed_at f xs place
  unfolding changed_at
  set_is [] place x is = refl
  set_is (y ∷ ys) zero x is = (let same : x ≡ y = some_is x y (sym is) in ap (λ z. f z ∷ ys) same)
  set_is (y ∷ ys) (suc place) x is = ap (λ zs. y ∷ zs) (set_is ys place x is)

  pub get_changed : (xs : List X) (place : ℕ) → slice_get (changed_at f xs place) place ≡ option_map f (slice_get xs place)
  unfolding changed_at
  get_changed [] place = refl
  get_changed (y ∷ ys) zero = refl
  get_changed (y ∷ ys) (suc place) = get_changed ys place

  pub get_other : (xs : List X) (place other : ℕ) → other ≢ place → slice_get (changed_at f xs place) other ≡ slice_get xs other
  unfolding changed_at
  get_other [] place other differ = refl
  get_other (y ∷ ys) zero zero differ = absurd (differ refl)
  get_other (y ∷ ys) zero (suc other) differ = refl
  get_other (y ∷ ys) (suc place) zero differ = refl
  get_other (y ∷ ys) (suc place) (suc other) differ = get_other ys place other (λ same. differ (ap suc same))

  pub length_changed : (xs : List X) (place : ℕ) → length (changed_at f xs place) ≡ length xs
  unfolding changed_at
  length_changed [] place = refl
  length_changed (y ∷ ys) zero = refl
  length_changed (y ∷ ys) (suc place) = ap suc (length_changed ys place)

  -- what has changed where, of a list that was changed
  pub changed_has : (xs : List X) (place other : ℕ) (x : X) → slice_get (changed_at f xs place) other ≡ Some x → (P : ℕ → X → Type 0) → ((y : X) → slice_get xs place ≡ Some y → P place (f y)) → ((y : X) → other ≢ place → slice_get xs other ≡ Some y → P other y) → P other x
  changed_has xs place other x is P here there = elim (eqb_tells other place) [
    | inl same ↦ (
        let at : other ≡ place = same.1 in
        subst (λ n. P n x) (sym at) (given (slice_get xs place) refl (sym (get_changed xs place) ∙ ap (λ n. slice_get (changed_at f xs place) n) (sym at) ∙ is)))
    | inr differ ↦ there x differ.1 (sym (get_other xs place other differ.1) ∙ is)
  ]
    where
      given : (o : Option X) → slice_get xs place ≡ o → option_map f o ≡ Some x → P place x
      given None at h = absurd cc
      given (Some y) at h = subst (λ z. P place z) (some_is (f y) x h) (here y at)
