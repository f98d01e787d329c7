-- The places of numbers in a map that a loop fills, each with the first place at which the number stands.
use Rattle.std.proofs.Common.{◌≡◌, ℕ, ◌+◌, ◌<◌, Bool, true, false, cond, List, [], ◌∷◌, length, get_or, refl, arith, suc, sym, ◌∙◌, Option, Some, None, nat_eq}
use Rattle.std.proofs.Common.{nat_cmp, is_some, subst, eq-eqb, ne_eqb, ◌⊎◌, inl, inr}
use Rattle.std.proofs.lemmas.Bool.{cases_eq}
use Rattle.std.specs.BTreeMap.{BTreeMap, get, Updates}
use Rattle.circus_idl.proofs.NumberMaps.{get-updates}
use Rattle.std.specs.Prelude.{find, slice_get}
use Rattle.std.specs.List.{position_from}
use Rattle.std.specs.Option.{option_map_or}
use Rattle.circus_idl.specs.declared.interface.DeclaredError.{DeclaredError}
use Rattle.circus_idl.specs.Shown.{has_number, error_name}

-- the place that was found, or else another
abbrev pub or_place : Option ℕ → Option ℕ → Option ℕ
or_place (Some k) other = Some k
or_place None other = other

-- one more error: its place is taken where its number had none
pub place_more : (n i : ℕ) (e : DeclaredError) (rest : List DeclaredError) (old new whole : Option ℕ) → new ≡ or_place old (cond (has_number n e) (Some i) None) → or_place old (position_from (has_number n) i (e ∷ rest)) ≡ whole → or_place new (position_from (has_number n) (i + 1) rest) ≡ whole
place_more n i e rest (Some k) new whole is before = rw is before
place_more n i e rest None new whole is before = more (has_number n e) is before
  where
    more : (b : Bool) → new ≡ cond b (Some i) None → cond b (Some i) (position_from (has_number n) (i + 1) rest) ≡ whole → or_place new (position_from (has_number n) (i + 1) rest) ≡ whole
    more true is before = rw is before
    more false is before = rw is before

-- the error at the place that is found from a place on is the first of the number
abbrev IsFoundFrom : ℕ → ℕ → List DeclaredError → Option ℕ → Type 0
IsFoundFrom n i errors None = find (has_number n) errors ≡ None
IsFoundFrom n i errors (Some k) = (j : ℕ) × (k ≡ i + j) × (slice_get errors j ≡ find (has_number n) errors)

found_from : (n i : ℕ) (errors : List DeclaredError) → IsFoundFrom n i errors (position_from (has_number n) i errors)
found_from n i [] = refl
found_from n i (e ∷ errors) = more (has_number n e) (position_from (has_number n) (i + 1) errors) refl (found_from n (i + 1) errors)
  where
    more : (b : Bool) (o : Option ℕ) → has_number n e ≡ b → IsFoundFrom n (i + 1) errors o → IsFoundFrom n i (e ∷ errors) (cond b (Some i) o)
    more true o is found = (0, omega arith, rw is refl)
    more false None is found = rw is found
    more false (Some k) is found = (suc found.0, omega (arith, found.1), rw is found.2)

-- the error that a map of first places leads to
pub found_is : (errors : List DeclaredError) (n k : ℕ) → Some k ≡ position_from (has_number n) 0 errors → slice_get errors k ≡ find (has_number n) errors
found_is errors n k is =
    let (j, same, found) = subst (IsFoundFrom n 0 errors) (sym is) (found_from n 0 errors) in
    let e : j ≡ k = omega arith in
    subst (λ i. slice_get errors i ≡ find (has_number n) errors) e found

-- no error has a number without a place
pub none_is : (errors : List DeclaredError) (n : ℕ) → None ≡ position_from (has_number n) 0 errors → None ≡ find (has_number n) errors
none_is errors n is = sym (subst (IsFoundFrom n 0 errors) (sym is) (found_from n 0 errors))

-- the name of a number is that of the first error that has it
pub name_found : (errors : List DeclaredError) (n : ℕ) → option_map_or (λ (e : DeclaredError). e.name) (find (has_number n) errors) [] ≡ error_name errors n
name_found [] n = refl
name_found (e ∷ errors) n = more (has_number n e) (name_found errors n)
  where
    more : (b : Bool) → option_map_or (λ (e : DeclaredError). e.name) (find (has_number n) errors) [] ≡ error_name errors n → option_map_or (λ (e : DeclaredError). e.name) (cond b (Some e) (find (has_number n) errors)) [] ≡ cond b e.name (error_name errors n)
    more true rest = refl
    more false rest = rest

-- a number that had no place takes one
pub place_taken : (m m' : BTreeMap ℕ ℕ) (k i n : ℕ) → Updates nat_cmp m m' k (Some i) → is_some (get nat_cmp m k) ≡ false → get nat_cmp m' n ≡ or_place (get nat_cmp m n) (cond (nat_eq k n) (Some i) None)
place_taken m m' k i n updates absent = get-updates m m' k (Some i) updates n ∙ more (cases_eq k n)
  where
    none : (o : Option ℕ) → is_some o ≡ false → Some i ≡ or_place o (Some i)
    none None is = refl
    none (Some j) is = absurd (cc)

    same : (o : Option ℕ) → o ≡ or_place o None
    same None = refl
    same (Some j) = refl

    more : (k ≡ n) ⊎ (k ≡ n → ⊥) → cond (nat_eq k n) (Some i) (get nat_cmp m n) ≡ or_place (get nat_cmp m n) (cond (nat_eq k n) (Some i) None)
    more (inl e) = rw (eq-eqb k n e) (none (get nat_cmp m n) (subst (λ q. is_some (get nat_cmp m q) ≡ false) e absent))
    more (inr ne) = rw (ne_eqb k n ne) (same (get nat_cmp m n))

-- a number that had a place keeps it
pub place_kept : (m : BTreeMap ℕ ℕ) (k i n : ℕ) → is_some (get nat_cmp m k) ≡ true → get nat_cmp m n ≡ or_place (get nat_cmp m n) (cond (nat_eq k n) (Some i) None)
place_kept m k i n there = more (cases_eq k n)
  where
    some : (o other : Option ℕ) → is_some o ≡ true → o ≡ or_place o other
    some None other is = absurd (cc)
    some (Some j) other is = refl

    same : (o : Option ℕ) → o ≡ or_place o None
    same None = refl
    same (Some j) = refl

    more : (k ≡ n) ⊎ (k ≡ n → ⊥) → get nat_cmp m n ≡ or_place (get nat_cmp m n) (cond (nat_eq k n) (Some i) None)
    more (inl e) = some (get nat_cmp m n) _ (subst (λ q. is_some (get nat_cmp m q) ≡ true) e there)
    more (inr ne) = rw (ne_eqb k n ne) (same (get nat_cmp m n))
