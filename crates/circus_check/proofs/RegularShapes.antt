-- Shapes in which no rule is broken are regular where they have no more parts than there may be.
use Rattle.std.proofs.Common.{◌≡◌, ◌≢◌, ℕ, ◌<◌, ◌≤◌, List, [], ◌∷◌, sym, subst, arith, ◌⊎◌, inl, inr}
use Rattle.std.specs.List.{AllByRecursion}
use Rattle.circus_value.specs.declared.shape.Label.{Label}
use Rattle.circus_value.specs.ShapeTree.{ShapeTree, FieldTrees, ArmTrees, boolean, cardinal, long_cardinal, integer, long_integer, text, enumeration, array, sequence, «record», choice, no_fields, more_fields, no_arms, more_arms}
use Rattle.circus_type.specs.Distinct.{AreDistinct}
use Rattle.circus_type.specs.Obeys.{ObeysInside, ObeyFields, ObeyArmTypes, arm_numbers}
use Rattle.circus_type.specs.Written.{parts, field_parts, arm_parts}
use Rattle.circus_resolve.specs.Faults.{field_count}
use Rattle.circus_resolve.specs.Regular.{IsRegular, AreRegular, HasRegular, HasNone}

words : (labels : List Label) → AllByRecursion (λ (l : Label). l.number ≤ 65535) labels → AllByRecursion (λ (l : Label). l.number < 65536) labels
words [] all = tt
words (l ∷ ls) all = (omega (arith, all.0), words ls all.1)

count_within : (fs : FieldTrees) → field_count fs ≤ field_parts fs
count_within no_fields = omega arith
count_within (more_fields _ s fs) = omega (arith, count_within fs)

none_has : (n : ℕ) (arms : ArmTrees) → AllByRecursion (λ m. n ≢ m) (arm_numbers arms) → HasNone n arms
none_has n no_arms all = tt
none_has n (more_arms _ m _ arms) all = (all.0, none_has n arms all.1)

-- an arm's may be a record without fields
arm_is_regular : (s : ShapeTree) → (s ≡ «record» no_fields) ⊎ ObeysInside s → (ObeysInside s → IsRegular s) → IsRegular s
arm_is_regular s (inl empty) others = subst IsRegular (sym empty) (omega arith, tt)
arm_is_regular s (inr obeys) others = others obeys

mutual
  pub is_regular : (s : ShapeTree) → ObeysInside s → parts s ≤ 65536 → IsRegular s
  is_regular boolean obeys few = tt
  is_regular cardinal obeys few = tt
  is_regular long_cardinal obeys few = tt
  is_regular integer obeys few = tt
  is_regular long_integer obeys few = tt
  is_regular text obeys few = tt
  is_regular (enumeration labels) obeys few = words labels obeys.in_range
  is_regular (array _ s) obeys few = is_regular s obeys.2 (omega (arith, few))
  is_regular (sequence _ s) obeys few = is_regular s obeys.1 (omega (arith, few))
  is_regular («record» fs) obeys few = (omega (arith, few, count_within fs), are_regular fs obeys.2 (omega (arith, few)))
  is_regular (choice arms) obeys few = have_regular arms obeys.0.distinct_numbers obeys.0.in_range obeys.1 (omega (arith, few))

  are_regular : (fs : FieldTrees) → ObeyFields fs → field_parts fs ≤ 65536 → AreRegular fs
  are_regular no_fields obey few = tt
  are_regular (more_fields _ s fs) obey few = (is_regular s obey.0 (omega (arith, few)), are_regular fs obey.1 (omega (arith, few)))

  have_regular : (arms : ArmTrees) → AreDistinct (arm_numbers arms) → AllByRecursion (λ n. n ≤ 65535) (arm_numbers arms) → ObeyArmTypes arms → arm_parts arms ≤ 65536 → HasRegular arms
  have_regular no_arms distinct within obey few = tt
  have_regular (more_arms _ n s arms) distinct within obey few = record {
    below = omega (arith, within.0);
    distinct = none_has n arms distinct.0;
    own = arm_is_regular s obey.0 (λ inside. is_regular s inside (omega (arith, few)));
    others = have_regular arms distinct.1 within.1 obey.1 (omega (arith, few));
  }
