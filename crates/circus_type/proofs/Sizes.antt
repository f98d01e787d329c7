-- The size of a type is that of the shape that it means.
use Rattle.std.proofs.Common.{◌≡◌, ℕ, zero, suc, ◌+◌, ◌*◌, ◌⊎◌, inl, inr, ◌≤◌, ◌<◌, min, max, false, cond, List, [], ◌∷◌, ◌++◌, length, refl, sym, ◌∙◌, ap, arith}
use Rattle.std.proofs.lemmas.Bool.{cases_lt}
use Rattle.std.proofs.lemmas.Grind.{common_steps}
use Rattle.std.specs.Prelude.{◌==◌}
use Rattle.std.proofs.lemmas.List.{length-map}
use Rattle.std.proofs.lemmas.List.Sums.{sum_by-cons}
use Rattle.circus_value.specs.ShapeTree.{ShapeTree, FieldTrees, ArmTrees, FieldTree, more_fields, field_trees, arm_trees, no_arms, more_arms}
use Rattle.circus_value.specs.ShapeTree as shape
use Rattle.circus_value.specs.ValueTree.{ValueTree}
use Rattle.circus_value.specs.ExternalSize.{external_size, external_sizes}
use Rattle.circus_syntax.specs.declared.named.Named.{Named}
use Rattle.circus_syntax.specs.declared.named.TypeName.{TypeName}
use Rattle.circus_syntax.specs.TypeTree.{TypeTree, GroupTrees, boolean, cardinal, long_cardinal, integer, long_integer, text, enumeration, array, sequence, «record», choice, called, no_groups, more_groups}
use Rattle.circus_syntax.specs.TypeTree as syntax
use Rattle.circus_type.specs.Written.{parts, field_parts, arm_parts, levels, field_levels, arm_levels, zero_size, zero_value, zero_values, copies}
use Rattle.circus_type.specs.Together.{shapes_of, zero_size_of}
use Rattle.circus_type.specs.Meaning.{bound_of, label_meant, fields_named, shape_of_type, written_groups, written_arms}
use Rattle.circus_type.specs.Seen.Measured.{measure, measure_of, fields_measure, arms_measure, items_measure, sequence_measure, group_measure, arm_measure, record_measure, choice_measure, measure_of_type, measured_groups, measured_arms}

copies_size : (n : ℕ) (v : ValueTree) → external_sizes (copies n v) ≡ n * external_size v
copies_size zero v = omega arith
copies_size (suc n) v = omega (arith, copies_size n v)

same_measure : (p q l k z y : ℕ) → min p 16385 ≡ min q 16385 → min l 65 ≡ min k 65 → min z 65537 ≡ min y 65537 → measure p l z ≡ measure q k y
same_measure p q l k z y parts levels zeros = λ i. record { parts = parts i; levels = levels i; zeros = zeros i }

-- Numbers that stop at a limit.

stopped_again : (limit n : ℕ) → min (min n limit) limit ≡ min n limit
stopped_again limit n = omega arith

stopped_more : (limit m n : ℕ) → min (m + min n limit) limit ≡ min (m + n) limit
stopped_more limit m n = omega arith

pub stopped_times : (limit n z : ℕ) → min (n * min z limit) limit ≡ min (n * z) limit
stopped_times limit zero z = omega arith
stopped_times limit (suc n) z = by_order (cases_lt limit z)
  where
    by_order : (limit < z) ⊎ (z ≤ limit) → min (suc n * min z limit) limit ≡ min (suc n * z) limit
    by_order (inl above) = let least : min z limit ≡ limit = omega arith in omega (arith, ap (λ m. suc n * m) least)
    by_order (inr within) = let least : min z limit ≡ z = omega arith in ap (λ m. min (suc n * m) limit) least

stopped_parts : (n p q : ℕ) → min (n * (1 + min p 16385) + min q 16385) 16385 ≡ min (n * (1 + p) + q) 16385
stopped_parts n p q = omega (arith, stopped_times 16385 n p)

stopped_zeros : (n z y : ℕ) → min (n * min z 65537 + min y 65537) 65537 ≡ min (n * z + y) 65537
stopped_zeros n z y = omega (arith, stopped_times 65537 n z)

-- the zero values of fields together
pub zeros_together : (fields : List FieldTree) → zero_size_of fields ≡ external_sizes (zero_values (field_trees fields))
zeros_together [] = refl
zeros_together (f ∷ fields) = omega (arith, sum_by-cons zero_size f.shape (shapes_of fields), zeros_together fields)

-- Fields that share a type.

named_parts : (ns : List Named) (s : ShapeTree) (rest : List FieldTree) → field_parts (field_trees (fields_named ns s ++ rest)) ≡ length ns * (1 + parts s) + field_parts (field_trees rest)
named_parts [] s rest = omega arith
named_parts (n ∷ ns) s rest = omega (arith, named_parts ns s rest)

named_zeros : (ns : List Named) (s : ShapeTree) (rest : List FieldTree) → external_sizes (zero_values (field_trees (fields_named ns s ++ rest))) ≡ length ns * zero_size s + external_sizes (zero_values (field_trees rest))
named_zeros [] s rest = omega arith
named_zeros (n ∷ ns) s rest = omega (arith, named_zeros ns s rest)

named_levels : (n : Named) (ns : List Named) (s : ShapeTree) (rest : List FieldTree) → field_levels (field_trees (fields_named (n ∷ ns) s ++ rest)) ≡ max (levels s) (field_levels (field_trees rest))
named_levels n [] s rest = refl
named_levels n (m ∷ ns) s rest = omega (arith, named_levels m ns s rest)

some_names : (n : ℕ) → (suc n == 0) ≡ false
some_names n = grind (arith, common_steps)

group_levels : (ns : List Named) (s : ShapeTree) (rest : List FieldTree) → min (cond (length ns == 0) (min (field_levels (field_trees rest)) 65) (max (min (levels s) 65) (min (field_levels (field_trees rest)) 65))) 65 ≡ min (field_levels (field_trees (fields_named ns s ++ rest))) 65
group_levels [] s rest = stopped_again 65 (field_levels (field_trees rest))
group_levels (n ∷ ns) s rest =
    ap (λ b. min (cond b (min (field_levels (field_trees rest)) 65) (max (min (levels s) 65) (min (field_levels (field_trees rest)) 65))) 65) (some_names (length ns))
    ∙ omega (arith, named_levels n ns s rest)

-- One more level or item.

group_is : (ns : List Named) (s : ShapeTree) (rest : List FieldTree) → group_measure (length ns) (measure_of s) (fields_measure (field_trees rest)) ≡ fields_measure (field_trees (fields_named ns s ++ rest))
group_is ns s rest =
    same_measure _ _ _ _ _ _
    (stopped_parts (length ns) (parts s) (field_parts (field_trees rest)) ∙ ap (λ p. min p 16385) (sym (named_parts ns s rest)))
    (group_levels ns s rest)
    (stopped_zeros (length ns) (zero_size s) (external_sizes (zero_values (field_trees rest))) ∙ ap (λ z. min z 65537) (sym (named_zeros ns s rest)))

-- one field before others
pub field_is : (name : List ℕ) (s : ShapeTree) (rest : FieldTrees) → group_measure 1 (measure_of s) (fields_measure rest) ≡ fields_measure (more_fields name s rest)
field_is name s rest = same_measure _ _ _ _ _ _ (omega arith) (omega arith) (omega arith)

pub arm_is : (name : List ℕ) (number : ℕ) (s : ShapeTree) (arms : ArmTrees) → arm_measure (measure_of s) (arms_measure arms) ≡ arms_measure (more_arms name number s arms)
arm_is name number s arms = same_measure _ _ _ _ _ _ (omega arith) (omega arith) (stopped_again 65537 (zero_size s))

pub items_are : (n : ℕ) (s : ShapeTree) → items_measure n (measure_of s) ≡ measure_of (shape.array n s)
items_are n s =
    same_measure _ _ _ _ _ _ (stopped_more 16385 1 (parts s)) (stopped_more 65 1 (levels s))
    (stopped_times 65537 n (zero_size s) ∙ ap (λ z. min z 65537) (sym (copies_size n (zero_value s))))

pub sequence_is : (n : ℕ) (s : ShapeTree) → sequence_measure (measure_of s) ≡ measure_of (shape.sequence n s)
sequence_is n s = same_measure _ _ _ _ 2 2 (stopped_more 16385 1 (parts s)) (stopped_more 65 1 (levels s)) refl

pub record_is : (fs : FieldTrees) → record_measure (fields_measure fs) ≡ measure_of (shape.«record» fs)
record_is fs =
    same_measure _ _ _ _ _ _ (stopped_more 16385 1 (field_parts fs)) (stopped_more 65 1 (field_levels fs))
    (stopped_again 65537 (external_sizes (zero_values fs)))

pub choice_is : (arms : ArmTrees) → choice_measure (arms_measure arms) ≡ measure_of (shape.choice arms)
choice_is no_arms = refl
choice_is (more_arms name number s arms) =
    same_measure _ _ _ _ _ _ (stopped_more 16385 1 (arm_parts (more_arms name number s arms))) (stopped_more 65 1 (arm_levels (more_arms name number s arms)))
    (stopped_more 65537 2 (zero_size s))

mutual
  -- where this is what each name stands for
  pub measured_is : (form : TypeName → ShapeTree) (t : TypeTree) → measure_of_type (λ n. measure_of (form n)) t ≡ measure_of (shape_of_type form t)
  measured_is form (boolean at) = refl
  measured_is form (cardinal at) = refl
  measured_is form (long_cardinal at) = refl
  measured_is form (integer at) = refl
  measured_is form (long_integer at) = refl
  measured_is form (text at) = refl
  measured_is form (enumeration at labels) = ap (λ n. measure (1 + n) 0 2) (sym (length-map labels label_meant))
  measured_is form (array at n t) = ap (items_measure n.value) (measured_is form t) ∙ items_are n.value (shape_of_type form t)
  measured_is form (sequence at bound t) = ap sequence_measure (measured_is form t) ∙ sequence_is (bound_of bound) (shape_of_type form t)
  measured_is form («record» at groups) = ap record_measure (groups_measured form groups) ∙ record_is (field_trees (written_groups form groups))
  measured_is form (choice at arms) = ap choice_measure (arms_measured form arms) ∙ choice_is (arm_trees (written_arms form arms))
  measured_is form (called at t) = refl

  pub groups_measured : (form : TypeName → ShapeTree) (groups : GroupTrees) → measured_groups (λ n. measure_of (form n)) groups ≡ fields_measure (field_trees (written_groups form groups))
  groups_measured form no_groups = refl
  groups_measured form (more_groups names t groups) =
      (λ i. group_measure (length names) (measured_is form t i) (groups_measured form groups i))
      ∙ group_is names (shape_of_type form t) (written_groups form groups)

  pub arms_measured : (form : TypeName → ShapeTree) (arms : syntax.ArmTrees) → measured_arms (λ n. measure_of (form n)) arms ≡ arms_measure (arm_trees (written_arms form arms))
  arms_measured form syntax.no_arms = refl
  arms_measured form (syntax.more_arms name number t arms) =
      (λ i. arm_measure (measured_is form t i) (arms_measured form arms i))
      ∙ arm_is name.name number.value (shape_of_type form t) (arm_trees (written_arms form arms))
