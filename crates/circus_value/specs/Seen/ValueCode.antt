-- A tree as a tree of numbers, by which a proof tells two apart.
use Rattle.std.specs.Prelude.{ℕ, ℤ, pos, negsuc, Bool, true, false, List, [], ◌∷◌, ◌≡◌, refl}
use Rattle.std.specs.Coded.{Coded, code_by}
use Rattle.std.proofs.Common.{ap, zero, suc}
use base.Stored.{Gv, gnil, gnum, gcons, num}
use denote.Struct.Codes.{itself}
use Rattle.circus_value.specs.ValueTree.{ValueTree, ValueTrees, boolean, cardinal, long_cardinal, integer, long_integer, text, enumeration, array, sequence, «record», choice, none, more}

abbrev pub truth_to : Bool → Gv
truth_to false = gnum 0
truth_to true = gnum 1

abbrev pub truth_of_number : ℕ → Bool
truth_of_number zero = false
truth_of_number (suc _) = true

pub truth_back : (b : Bool) → truth_of_number (num (truth_to b)) ≡ b
truth_back false = refl
truth_back true = refl

abbrev pub whole_to : ℤ → Gv
whole_to (pos n) = gcons (gnum 0) (gnum n)
whole_to (negsuc n) = gcons (gnum 1) (gnum n)

abbrev pub whole_of_numbers : ℕ → ℕ → ℤ
whole_of_numbers zero n = pos n
whole_of_numbers (suc _) n = negsuc n

abbrev pub whole_from : Gv → ℤ
whole_from gnil = pos 0
whole_from (gnum _) = pos 0
whole_from (gcons sign n) = whole_of_numbers (num sign) (num n)

pub whole_back : (z : ℤ) → whole_from (whole_to z) ≡ z
whole_back (pos n) = refl
whole_back (negsuc n) = refl

abbrev pub bytes_to : List ℕ → Gv
bytes_to [] = gnil
bytes_to (x ∷ xs) = gcons (gnum x) (bytes_to xs)

abbrev pub bytes_from : Gv → List ℕ
bytes_from gnil = []
bytes_from (gnum _) = []
bytes_from (gcons x xs) = num x ∷ bytes_from xs

pub bytes_back : (xs : List ℕ) → bytes_from (bytes_to xs) ≡ xs
bytes_back [] = refl
bytes_back (x ∷ xs) = ap (λ ys. x ∷ ys) (bytes_back xs)

abbrev mutual
  pub value_to : ValueTree → Gv
  value_to (boolean b) = gcons (gnum 0) (truth_to b)
  value_to (cardinal n) = gcons (gnum 1) (gnum n)
  value_to (long_cardinal n) = gcons (gnum 2) (gnum n)
  value_to (integer z) = gcons (gnum 3) (whole_to z)
  value_to (long_integer z) = gcons (gnum 4) (whole_to z)
  value_to (text bytes) = gcons (gnum 5) (bytes_to bytes)
  value_to (enumeration n) = gcons (gnum 6) (gnum n)
  value_to (array ts) = gcons (gnum 7) (values_to ts)
  value_to (sequence ts) = gcons (gnum 8) (values_to ts)
  value_to («record» ts) = gcons (gnum 9) (values_to ts)
  value_to (choice n t) = gcons (gnum (suc (suc (suc (suc (suc (suc (suc (suc (suc (suc n))))))))))) (value_to t)

  pub values_to : ValueTrees → Gv
  values_to none = gnil
  values_to (more t ts) = gcons (value_to t) (values_to ts)

-- the value with this tag, of what follows the tag read as each kind
abbrev pub value_of_tag : ℕ → Gv → ValueTrees → ValueTree → ValueTree
value_of_tag zero g ts t = boolean (truth_of_number (num g))
value_of_tag (suc zero) g ts t = cardinal (num g)
value_of_tag (suc (suc zero)) g ts t = long_cardinal (num g)
value_of_tag (suc (suc (suc zero))) g ts t = integer (whole_from g)
value_of_tag (suc (suc (suc (suc zero)))) g ts t = long_integer (whole_from g)
value_of_tag (suc (suc (suc (suc (suc zero))))) g ts t = text (bytes_from g)
value_of_tag (suc (suc (suc (suc (suc (suc zero)))))) g ts t = enumeration (num g)
value_of_tag (suc (suc (suc (suc (suc (suc (suc zero))))))) g ts t = array ts
value_of_tag (suc (suc (suc (suc (suc (suc (suc (suc zero)))))))) g ts t = sequence ts
value_of_tag (suc (suc (suc (suc (suc (suc (suc (suc (suc zero))))))))) g ts t = «record» ts
value_of_tag (suc (suc (suc (suc (suc (suc (suc (suc (suc (suc n)))))))))) g ts t = choice n t

abbrev mutual
  pub value_from : Gv → ValueTree
  value_from gnil = boolean false
  value_from (gnum _) = boolean false
  value_from (gcons tag rest) = value_of_tag (num tag) rest (values_from rest) (value_from rest)

  pub values_from : Gv → ValueTrees
  values_from gnil = none
  values_from (gnum _) = none
  values_from (gcons t ts) = more (value_from t) (values_from ts)

mutual
  pub value_back : (t : ValueTree) → value_from (value_to t) ≡ t
  value_back (boolean b) = ap boolean (truth_back b)
  value_back (cardinal n) = refl
  value_back (long_cardinal n) = refl
  value_back (integer z) = ap integer (whole_back z)
  value_back (long_integer z) = ap long_integer (whole_back z)
  value_back (text bytes) = ap text (bytes_back bytes)
  value_back (enumeration n) = refl
  value_back (array ts) = ap array (values_back ts)
  value_back (sequence ts) = ap sequence (values_back ts)
  value_back («record» ts) = ap «record» (values_back ts)
  value_back (choice n t) = ap (choice n) (value_back t)

  pub values_back : (ts : ValueTrees) → values_from (values_to ts) ≡ ts
  values_back none = refl
  values_back (more t ts) = λ i. more (value_back t i) (values_back ts i)

abbrev pub coded_value : Coded ValueTree
coded_value = code_by Gv itself value_to value_from value_back
