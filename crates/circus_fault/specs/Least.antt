-- The least of faults, whose causes have ranks.
use Rattle.std.specs.Prelude.{◌≡◌, ℕ, Bool, true, false, ◌&&◌, ◌||◌, ◌==◌, nat_lt, cond, List, [], ◌∷◌, Option, Some, None, Contains}
use Rattle.circus_syntax.specs.declared.named.Numeral.{Numeral}
use Rattle.circus_fault.specs.declared.fault.Fault.{Fault}

-- the least place first, at one place the least rank
abbrev pub is_before : {C : Type 0} → (C → ℕ) → Fault C → Fault C → Bool
is_before rank f g = nat_lt f.place g.place || ((f.place == g.place) && nat_lt (rank f.cause) (rank g.cause))

-- one of the faults, which none of them is before
pub record IsLeast {C : Type 0} (rank : C → ℕ) (f : Fault C) (faults : List (Fault C)) : Type 0 where
  pub found : Contains faults f
  pub first : (g : Fault C) → Contains faults g → is_before rank g f ≡ false

-- the lesser of two faults
abbrev pub lesser : {C : Type 0} → (C → ℕ) → Option (Fault C) → Fault C → Option (Fault C)
lesser rank None f = Some f
lesser rank (Some g) f = cond (is_before rank f g) (Some f) (Some g)

-- the least of this fault and others
abbrev pub least_from : {C : Type 0} → (C → ℕ) → Option (Fault C) → List (Fault C) → Option (Fault C)
least_from rank best [] = best
least_from rank best (f ∷ fs) = least_from rank (lesser rank best f) fs

-- a fault where it is one
abbrev pub faults_if : {C : Type 0} → Bool → ℕ → C → List (Fault C)
faults_if is_fault place cause = cond is_fault (record { place = place; cause = cause } ∷ []) []

-- no faults
abbrev pub is_clean : {C : Type 0} → List (Fault C) → Bool
is_clean [] = true
is_clean (_ ∷ _) = false

-- a number that isn't 1 to the greatest
abbrev pub out_of : {C : Type 0} → C → ℕ → Numeral → List (Fault C)
out_of cause greatest n = faults_if ((n.value == 0) || nat_lt greatest n.value) n.at cause
