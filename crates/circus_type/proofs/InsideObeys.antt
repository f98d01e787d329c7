-- A type without a fault inside means a shape in which no rule is broken.
use Rattle.std.proofs.Common.{◌≡◌, ℕ, ◌<◌, ◌≤◌, ◌⊎◌, inl, inr, Bool, true, false, cond, List, [], ◌∷◌, ◌++◌, length, map, refl, sym, ◌∙◌, ap, subst, arith, Option, Some, None}
use Rattle.std.specs.Prelude.{◌==◌, nat_lt}
use Rattle.std.specs.List.{AllByRecursion}
use Rattle.std.proofs.lemmas.List.{map-append}
use Rattle.std.proofs.lemmas.Bool.{or_parts}
use Rattle.std.proofs.lemmas.Grind.{common_steps}
use Rattle.circus_value.specs.declared.shape.Label.{Label}
use Rattle.circus_value.specs.ShapeTree.{ShapeTree, FieldTree, field_trees, arm_trees}
use Rattle.circus_value.specs.ShapeTree as shape
use Rattle.circus_syntax.specs.declared.named.Named.{Named}
use Rattle.circus_syntax.specs.declared.named.Numeral.{Numeral}
use Rattle.circus_syntax.specs.declared.named.TypeName.{TypeName}
use Rattle.circus_syntax.specs.declared.named.LabelText.{LabelText}
use Rattle.circus_syntax.specs.TypeTree.{TypeTree, GroupTrees, ArmTrees, boolean, cardinal, long_cardinal, integer, long_integer, text, enumeration, array, sequence, «record», choice, called, no_groups, more_groups, no_arms, more_arms}
use Rattle.circus_syntax.specs.Spelling.{IsEach, IsListed, IsName, IsLabel, IsType, AreGroups, AreArms}
use Rattle.circus_fault.specs.declared.fault.Fault.{Fault}
use Rattle.circus_fault.specs.Least.{faults_if}
use Rattle.circus_fault.specs.Known.{no_number}
use Rattle.circus_fault.proofs.Items.{none_in}
use Rattle.circus_type.specs.declared.cause.TypeCause.{TypeCause}
use Rattle.circus_type.specs.declared.cause.TypeCause.TheVariants.{OutOfRange}
use Rattle.circus_type.specs.Inside.{no_name, repeated_names, labels_faults, group_names, arm_labels, is_bare, is_empty_record, length_faults, bound_faults, unknown_faults, inside, inside_groups, inside_arms}
use Rattle.circus_type.specs.Meaning.{bound_of, label_meant, fields_named, shape_of_type, written_groups, written_arms}
use Rattle.circus_type.specs.InRange.{IsBoundInRange}
use Rattle.circus_type.specs.Distinct.{AreDistinct}
use Rattle.circus_type.specs.Together.{names_of}
use Rattle.circus_type.specs.Obeys as rule
use Rattle.circus_type.specs.Obeys.{ObeyLabels, field_names, arm_names, arm_numbers, AreFieldNames, ObeyArms, ObeysInside, ObeyFields, ObeyArmTypes}
use Rattle.circus_type.proofs.Items.{all_appended}
use Rattle.circus_fault.proofs.NoFaults.{no_fault}
use Rattle.circus_type.proofs.NoFaults.{distinct_names, labels_clean}
use Rattle.circus_type.proofs.InsideInRange.{length_in_range, bound_in_range}

pub each_named : (ns : List Named) → IsEach IsName ns → AllByRecursion rule.IsName (map (λ (n : Named). n.name) ns)
each_named [] named = tt
each_named (n ∷ ns) named = (named.0, each_named ns named.1)

pub listed_each : (ns : List Named) → IsListed IsName ns → IsEach IsName ns
listed_each [] listed = absurd listed
listed_each (n ∷ ns) listed = listed

-- Labels.

each_label : (ls : List LabelText) → IsEach IsLabel ls → AllByRecursion (λ (l : Label). rule.IsName l.name) (map label_meant ls)
each_label [] named = tt
each_label (l ∷ ls) named = (named.0.0, each_label ls named.1)

some_labels : (ls : List LabelText) → IsListed IsLabel ls → (0 < length (map label_meant ls)) × IsEach IsLabel ls
some_labels [] listed = absurd listed
some_labels (l ∷ ls) listed = (omega arith, listed)

labels_obey : {C : Type 0} (embed : TypeCause → C) (ls : List LabelText) → IsListed IsLabel ls → labels_faults embed no_name no_number ls ≡ [] → ObeyLabels (map label_meant ls)
labels_obey embed ls listed clean =
    let (some, each) = some_labels ls listed in
    let labels = labels_clean embed no_name no_number ls clean in
    record { some = some; named = each_label ls each; names = labels.distinct_names; numbers = labels.distinct_numbers; in_range = labels.in_range }

-- Arms have labels too.

module _ (form : TypeName → ShapeTree) where
  arm_names_are : (arms : ArmTrees) → map (λ (l : Label). l.name) (map label_meant (arm_labels arms)) ≡ arm_names (arm_trees (written_arms form arms))
  arm_names_are no_arms = refl
  arm_names_are (more_arms name number t arms) = ap (λ ns. name.name ∷ ns) (arm_names_are arms)

  arm_numbers_are : (arms : ArmTrees) → map (λ (l : Label). l.number) (map label_meant (arm_labels arms)) ≡ arm_numbers (arm_trees (written_arms form arms))
  arm_numbers_are no_arms = refl
  arm_numbers_are (more_arms name number t arms) = ap (λ ns. number.value ∷ ns) (arm_numbers_are arms)

  arms_named : (arms : ArmTrees) → AreArms arms → AllByRecursion rule.IsName (arm_names (arm_trees (written_arms form arms)))
  arms_named no_arms good = tt
  arms_named (more_arms name number t arms) good = (good.0, arms_named arms good.3)

  arms_in_range : (arms : ArmTrees) → AllByRecursion (λ (l : Label). l.number ≤ 65535) (map label_meant (arm_labels arms)) → AllByRecursion (λ n. n ≤ 65535) (arm_numbers (arm_trees (written_arms form arms)))
  arms_in_range no_arms small = tt
  arms_in_range (more_arms name number t arms) small = (small.0, arms_in_range arms small.1)

  some_arms : (at : ℕ) (arms : ArmTrees) → IsType (choice at arms) → (0 < length (arm_names (arm_trees (written_arms form arms)))) × AreArms arms
  some_arms at no_arms good = absurd good
  some_arms at (more_arms name number t arms) good = (omega arith, good)

  arm_labels_obey : {C : Type 0} (embed : TypeCause → C) (at : ℕ) (arms : ArmTrees) → IsType (choice at arms) → labels_faults embed no_name no_number (arm_labels arms) ≡ []
      → ObeyArms (arm_names (arm_trees (written_arms form arms))) (arm_numbers (arm_trees (written_arms form arms)))
  arm_labels_obey embed at arms good clean =
      let (some, each) = some_arms at arms good in
      let labels = labels_clean embed no_name no_number (arm_labels arms) clean in
      record {
        some = some;
        named = arms_named arms each;
        distinct_names = subst AreDistinct (arm_names_are arms) labels.distinct_names;
        distinct_numbers = subst AreDistinct (arm_numbers_are arms) labels.distinct_numbers;
        in_range = arms_in_range arms labels.in_range;
      }

-- Fields.

pub field_names_are : (fields : List FieldTree) → field_names (field_trees fields) ≡ names_of fields
field_names_are [] = refl
field_names_are (f ∷ fields) = ap (λ ns. f.name ∷ ns) (field_names_are fields)

module _ (form : TypeName → ShapeTree) where
  named_is : (ns : List Named) (s : ShapeTree) (rest : List FieldTree) → names_of (fields_named ns s ++ rest) ≡ map (λ (n : Named). n.name) ns ++ names_of rest
  named_is [] s rest = refl
  named_is (n ∷ ns) s rest = ap (λ names. n.name ∷ names) (named_is ns s rest)

  names_are : (groups : GroupTrees) → names_of (written_groups form groups) ≡ map (λ (n : Named). n.name) (group_names groups)
  names_are no_groups = refl
  names_are (more_groups names t groups) =
      named_is names (shape_of_type form t) (written_groups form groups)
      ∙ ap (λ ns. map (λ (n : Named). n.name) names ++ ns) (names_are groups)
      ∙ sym (map-append (λ (n : Named). n.name) names (group_names groups))

  groups_named : (groups : GroupTrees) → AreGroups groups → AllByRecursion rule.IsName (map (λ (n : Named). n.name) (group_names groups))
  groups_named no_groups good = tt
  groups_named (more_groups names t groups) good =
      subst (AllByRecursion rule.IsName) (sym (map-append (λ (n : Named). n.name) names (group_names groups)))
      (all_appended rule.IsName _ _ (each_named names (listed_each names good.0)) (groups_named groups good.2))

  pub names_obey : {C : Type 0} (embed : TypeCause → C) (groups : GroupTrees) → AreGroups groups → repeated_names embed no_name (group_names groups) ≡ [] → AreFieldNames (names_of (written_groups form groups))
  names_obey embed groups good clean =
      let (fresh, distinct) = distinct_names embed no_name (group_names groups) clean in
      subst AreFieldNames (sym (names_are groups)) (record { named = groups_named groups good; distinct = distinct })

  some_fields : (groups : GroupTrees) → AreGroups groups → is_bare groups ≡ false → 0 < length (field_names (field_trees (written_groups form groups)))
  some_fields no_groups good bare = absurd (cc)
  some_fields (more_groups [] t others) good bare = absurd good.0
  some_fields (more_groups (n ∷ names) t others) good bare = omega arith

-- Numbers and names.

in_length : {C : Type 0} (embed : TypeCause → C) (n : Numeral) → length_faults embed n ≡ [] → 1 ≤ n.value
in_length embed n clean = some_value n.value (or_parts (n.value == 0) (nat_lt 65535 n.value) (no_fault _ _ _ clean)).0
  where
    some_value : (v : ℕ) → (v == 0) ≡ false → 1 ≤ v
    some_value v some = grind (arith, common_steps)

bound_is_small : (bound : Option Numeral) → IsBoundInRange bound → bound_of bound ≤ 65535
bound_is_small None small = omega arith
bound_is_small (Some n) small = small

known_name : {C : Type 0} (embed : TypeCause → C) (unknown : Option ℕ) → unknown_faults embed unknown ≡ [] → unknown ≡ None
known_name embed None clean = refl
known_name embed (Some at) clean = absurd (cc)

empty_written : (form : TypeName → ShapeTree) (t : TypeTree) → is_empty_record t ≡ true → shape_of_type form t ≡ shape.«record» shape.no_fields
empty_written form («record» at no_groups) is = refl
empty_written form («record» at (more_groups names t others)) is = absurd (cc)
empty_written form (boolean at) is = absurd (cc)
empty_written form (cardinal at) is = absurd (cc)
empty_written form (long_cardinal at) is = absurd (cc)
empty_written form (integer at) is = absurd (cc)
empty_written form (long_integer at) is = absurd (cc)
empty_written form (text at) is = absurd (cc)
empty_written form (enumeration at labels) is = absurd (cc)
empty_written form (array at n t) is = absurd (cc)
empty_written form (sequence at bound t) is = absurd (cc)
empty_written form (choice at arms) is = absurd (cc)
empty_written form (called at name) is = absurd (cc)

by_empty : {C : Type 0} (empty : Bool) (P Q : Type 0) (fs : List (Fault C)) → (empty ≡ true → P) → (fs ≡ [] → Q) → cond empty [] fs ≡ [] → P ⊎ Q
by_empty true P Q fs first second is = inl (first refl)
by_empty false P Q fs first second is = inr (second is)

fields_obey : (ns : List Named) (s : ShapeTree) (rest : List FieldTree) → ObeysInside s → ObeyFields (field_trees rest) → ObeyFields (field_trees (fields_named ns s ++ rest))
fields_obey [] s rest own others = others
fields_obey (n ∷ ns) s rest own others = (own, fields_obey ns s rest own others)

-- where the names that are known stand for shapes in which no rule is broken
module _ {C : Type 0} (embed : TypeCause → C) (unknown : TypeName → Option ℕ) (form : TypeName → ShapeTree) (known : (n : TypeName) → unknown n ≡ None → ObeysInside (form n)) where
  mutual
    pub inside_obeys : (t : TypeTree) → IsType t → inside embed unknown t ≡ [] → ObeysInside (shape_of_type form t)
    inside_obeys (boolean at) good clean = tt
    inside_obeys (cardinal at) good clean = tt
    inside_obeys (long_cardinal at) good clean = tt
    inside_obeys (integer at) good clean = tt
    inside_obeys (long_integer at) good clean = tt
    inside_obeys (text at) good clean = tt
    inside_obeys (enumeration at labels) good clean = labels_obey embed labels good clean
    inside_obeys (array at n t) good clean =
        let (own, rest) = none_in (length_faults embed n) (inside embed unknown t) clean in
        (in_length embed n own, length_in_range embed n own, inside_obeys t good.1 rest)
    inside_obeys (sequence at bound t) good clean =
        let (own, rest) = none_in (bound_faults embed bound) (inside embed unknown t) clean in
        (bound_is_small bound (bound_in_range embed bound own), inside_obeys t good.1 rest)
    inside_obeys («record» at groups) good clean =
        let (own, rest) = none_in (faults_if (is_bare groups) at (embed OutOfRange) ++ repeated_names embed no_name (group_names groups)) (inside_groups embed unknown groups) clean in
        let (some, names) = none_in (faults_if (is_bare groups) at (embed OutOfRange)) (repeated_names embed no_name (group_names groups)) own in (
          some_fields form groups good (no_fault _ _ _ some),
          subst AreFieldNames (sym (field_names_are (written_groups form groups))) (names_obey form embed groups good names),
          groups_obey groups good rest,
        )
    inside_obeys (choice at arms) good clean =
        let (own, rest) = none_in (labels_faults embed no_name no_number (arm_labels arms)) (inside_arms embed unknown arms) clean in
        (arm_labels_obey form embed at arms good own, arms_obey arms (some_arms form at arms good).1 rest)
    inside_obeys (called at name) good clean = known name (known_name embed (unknown name) clean)

    groups_obey : (groups : GroupTrees) → AreGroups groups → inside_groups embed unknown groups ≡ [] → ObeyFields (field_trees (written_groups form groups))
    groups_obey no_groups good clean = tt
    groups_obey (more_groups names t groups) good clean =
        let (own, rest) = none_in (inside embed unknown t) (inside_groups embed unknown groups) clean in
        fields_obey names (shape_of_type form t) (written_groups form groups) (inside_obeys t good.1 own) (groups_obey groups good.2 rest)

    arms_obey : (arms : ArmTrees) → AreArms arms → inside_arms embed unknown arms ≡ [] → ObeyArmTypes (arm_trees (written_arms form arms))
    arms_obey no_arms good clean = tt
    arms_obey (more_arms name number t arms) good clean =
        let (own, rest) = none_in (cond (is_empty_record t) [] (inside embed unknown t)) (inside_arms embed unknown arms) clean in
        (by_empty (is_empty_record t) _ _ (inside embed unknown t) (empty_written form t) (inside_obeys t good.2) own, arms_obey arms good.3 rest)
