-- Where lines end.
use Rattle.std.proofs.Common.{◌≡◌, ℕ, zero, suc, ◌<◌, ◌≤◌, Bool, true, false, nat_eq, List, [], ◌∷◌, length, drop, refl, sym, ap, arith}
use Rattle.std.proofs.lemmas.Bool.{eqb-true}
use Rattle.std.proofs.lemmas.Bool.Decides.{nat_tests}
use Rattle.std.proofs.lemmas.List.{drop_all}
use Rattle.circus_value_text.specs.Reading.{is_empty}

not_empty : (n : ℕ) (xs : List ℕ) → n < length xs → is_empty (drop n xs) ≡ false
not_empty n [] within = absurd (omega (arith, within))
not_empty zero (x ∷ xs) within = refl
not_empty (suc n) (x ∷ xs) within = not_empty n xs (omega (arith, within))

less_of : (n m : ℕ) → n ≤ m → nat_eq n m ≡ false → n < m
less_of n m within other = grind (arith, nat_tests)

pub end_is : (n : ℕ) (xs : List ℕ) → n ≤ length xs → nat_eq n (length xs) ≡ is_empty (drop n xs)
end_is n xs within = by_test (nat_eq n (length xs)) refl
  where
    by_test : (b : Bool) → nat_eq n (length xs) ≡ b → b ≡ is_empty (drop n xs)
    by_test true is = let same = eqb-true n (length xs) is in sym (ap is_empty (drop_all n xs (omega (arith, same))))
    by_test false is = sym (not_empty n xs (less_of n (length xs) within is))
