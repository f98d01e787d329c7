-- The zero value of a type that obeys the rules is one of its values.
use Rattle.std.proofs.Common.{◌≡◌, ℕ, ◌≤◌, ◌<◌, zero, suc, Bool, true, List, [], ◌∷◌, length, refl, ap, ◌∙◌, arith, inl, inr, nat_lt, nat_le, le-leb}
use Rattle.std.specs.Prelude.{◌&&◌, ◌==◌, ◌||◌, cond}
use Rattle.std.specs.List.{AllByRecursion, list_any}
use Rattle.std.proofs.lemmas.Bool.Decides.{nat_tests}
use Rattle.circus_value.specs.declared.shape.Label.{Label}
use Rattle.circus_value.specs.ShapeTree.{ShapeTree, FieldTrees, ArmTrees, boolean, cardinal, long_cardinal, integer, long_integer, text, enumeration, array, sequence, «record», choice, no_fields, more_fields, no_arms, more_arms}
use Rattle.circus_value.specs.ValueTree.{ValueTree, ValueTrees}
use Rattle.circus_value.specs.Fits.{fits, fields_fit, arm_fits, is_labelled, count_of, every}
use Rattle.circus_value.specs.ValueTree as V
use Rattle.circus_type.specs.Limits.{greatest_word}
use Rattle.circus_type.specs.Obeys.{ObeysInside, ObeyFields, ObeyArmTypes, ObeyLabels, arm_names, arm_numbers}
use Rattle.circus_type.specs.Written.{zero_value, zero_values, zero_choice, copies, first_label}

pub both : (a b : Bool) → a ≡ true → b ≡ true → (a && b) ≡ true
both a b first then = ap (λ c. c && b) first ∙ then

same_number : (n : ℕ) → (n == n) ≡ true
same_number n = grind (arith, nat_tests)

is_word : (n : ℕ) → n ≤ greatest_word → nat_lt n 65536 ≡ true
is_word n small = grind (arith, nat_tests)

count_copies : (n : ℕ) (t : ValueTree) → count_of (copies n t) ≡ n
count_copies zero t = refl
count_copies (suc n) t = ap suc (count_copies n t)

every_copy : (passes : ValueTree → Bool) (n : ℕ) (t : ValueTree) → passes t ≡ true → every passes (copies n t) ≡ true
every_copy passes zero t is = refl
every_copy passes (suc n) t is = both (passes t) (every passes (copies n t)) is (every_copy passes n t is)

label_fits : (labels : List Label) → ObeyLabels labels → is_labelled labels (V.enumeration (first_label labels)) ≡ true
label_fits [] obey = absurd (let some = obey.some in omega (arith, some))
label_fits (l ∷ ls) obey =
    both (nat_lt l.number 65536) (list_any (λ (other : Label). other.number == l.number) (l ∷ ls)) (is_word l.number obey.in_range.0) (ap (λ b. b || list_any (λ (other : Label). other.number == l.number) ls) (same_number l.number))

mutual
  pub zero_fits : (s : ShapeTree) → ObeysInside s → fits s (zero_value s) ≡ true
  zero_fits boolean obey = refl
  zero_fits cardinal obey = refl
  zero_fits long_cardinal obey = refl
  zero_fits integer obey = refl
  zero_fits long_integer obey = refl
  zero_fits text obey = refl
  zero_fits (enumeration labels) obey = label_fits labels obey
  zero_fits (array n s) obey =
      both (count_of (copies n (zero_value s)) == n) (every (fits s) (copies n (zero_value s))) (ap (λ m. m == n) (count_copies n (zero_value s)) ∙ same_number n) (every_copy (fits s) n (zero_value s) (zero_fits s obey.2))
  zero_fits (sequence n s) obey = both (nat_le 0 n) true (le-leb 0 n (omega arith)) refl
  zero_fits («record» fs) obey = zeros_fit fs obey.2
  zero_fits (choice arms) obey = first_fits arms obey.0.some obey.0.in_range obey.1

  zeros_fit : (fs : FieldTrees) → ObeyFields fs → fields_fit fs (zero_values fs) ≡ true
  zeros_fit no_fields obey = refl
  zeros_fit (more_fields name s fs) obey = both (fits s (zero_value s)) (fields_fit fs (zero_values fs)) (zero_fits s obey.0) (zeros_fit fs obey.1)

  first_fits : (arms : ArmTrees) → 0 < length (arm_names arms) → AllByRecursion (λ n. n ≤ greatest_word) (arm_numbers arms) → ObeyArmTypes arms → fits (choice arms) (zero_choice arms) ≡ true
  first_fits no_arms some in_range obey = absurd (omega (arith, some))
  first_fits (more_arms name number s arms) some in_range obey =
      both (nat_lt number 65536) (cond (number == number) (fits s (zero_value s)) (arm_fits arms number (zero_value s))) (is_word number in_range.0)
      (ap (λ b. cond b (fits s (zero_value s)) (arm_fits arms number (zero_value s))) (same_number number) ∙ elim obey.0 [ inl is ↦ ap (λ t. fits t (zero_value t)) is | inr inside ↦ zero_fits s inside ])
