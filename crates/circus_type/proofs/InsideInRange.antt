-- A type without a fault inside has no number that is out of range.
use Rattle.std.proofs.Common.{◌≡◌, ℕ, Bool, true, false, cond, List, [], ◌∷◌, ◌++◌, Option, Some, None, refl}
use Rattle.std.specs.Prelude.{◌==◌, nat_lt}
use Rattle.std.proofs.lemmas.Bool.{ltb-false, or_parts}
use Rattle.circus_syntax.specs.declared.named.Numeral.{Numeral}
use Rattle.circus_syntax.specs.declared.named.TypeName.{TypeName}
use Rattle.circus_syntax.specs.declared.named.LabelText.{LabelText}
use Rattle.circus_syntax.specs.TypeTree.{TypeTree, GroupTrees, ArmTrees, boolean, cardinal, long_cardinal, integer, long_integer, text, enumeration, array, sequence, «record», choice, called, no_groups, more_groups, no_arms, more_arms}
use Rattle.circus_fault.specs.declared.fault.Fault.{Fault}
use Rattle.circus_fault.specs.Least.{faults_if}
use Rattle.circus_fault.specs.Known.{no_number, also_number}
use Rattle.circus_fault.proofs.Items.{none_in}
use Rattle.circus_fault.proofs.NoFaults.{no_fault}
use Rattle.circus_type.specs.declared.cause.TypeCause.{TypeCause}
use Rattle.circus_type.specs.declared.cause.TypeCause.TheVariants.{OutOfRange}
use Rattle.circus_type.specs.Inside.{no_name, also_name, repeated_name, repeated_number, repeated_names, above, label_faults, labels_faults, group_names, arm_labels, is_bare, is_empty_record, length_faults, bound_faults, inside, inside_groups, inside_arms}
use Rattle.circus_type.specs.InRange.{IsOneWord, IsBoundInRange, AreLabelsInRange, IsInRange, AreGroupsInRange, AreArmsInRange}
use Rattle.circus_type.proofs.NoFaults.{within}

-- an empty record has no number
empty_in_range : (t : TypeTree) → is_empty_record t ≡ true → IsInRange t
empty_in_range («record» at no_groups) is = tt
empty_in_range («record» at (more_groups names t others)) is = absurd (cc)
empty_in_range (boolean at) is = tt
empty_in_range (cardinal at) is = tt
empty_in_range (long_cardinal at) is = tt
empty_in_range (integer at) is = tt
empty_in_range (long_integer at) is = tt
empty_in_range (text at) is = tt
empty_in_range (enumeration at labels) is = absurd (cc)
empty_in_range (array at n t) is = absurd (cc)
empty_in_range (sequence at bound t) is = absurd (cc)
empty_in_range (choice at arms) is = absurd (cc)
empty_in_range (called at name) is = tt

unless_empty : {C : Type 0} (empty : Bool) (P : Type 0) (fs : List (Fault C)) → (empty ≡ true → P) → (fs ≡ [] → P) → cond empty [] fs ≡ [] → P
unless_empty true P fs first second is = first refl
unless_empty false P fs first second is = second is

module _ {C : Type 0} (embed : TypeCause → C) where
  pub length_in_range : (n : Numeral) → length_faults embed n ≡ [] → IsOneWord n
  length_in_range n clean = ltb-false 65535 n.value (or_parts (n.value == 0) (nat_lt 65535 n.value) (no_fault _ _ _ clean)).1

  pub bound_in_range : (bound : Option Numeral) → bound_faults embed bound ≡ [] → IsBoundInRange bound
  bound_in_range None clean = tt
  bound_in_range (Some n) clean = within embed 65535 n clean

  labels_in_range : (names : List ℕ → Bool) (numbers : ℕ → Bool) (ls : List LabelText) → labels_faults embed names numbers ls ≡ [] → AreLabelsInRange ls
  labels_in_range names numbers [] clean = tt
  labels_in_range names numbers (l ∷ ls) clean =
      let (own, rest) = none_in (label_faults embed names numbers l.name l.number) (labels_faults embed (also_name l.name.name names) (also_number l.number.value numbers) ls) clean in
      let (repeated, high) = none_in (repeated_name embed names l.name ++ repeated_number embed numbers l.number) (above embed 65535 l.number) own in
      (within embed 65535 l.number high, labels_in_range (also_name l.name.name names) (also_number l.number.value numbers) ls rest)

  module _ (unknown : TypeName → Option ℕ) where
    mutual
      pub in_range : (t : TypeTree) → inside embed unknown t ≡ [] → IsInRange t
      in_range (boolean at) clean = tt
      in_range (cardinal at) clean = tt
      in_range (long_cardinal at) clean = tt
      in_range (integer at) clean = tt
      in_range (long_integer at) clean = tt
      in_range (text at) clean = tt
      in_range (enumeration at labels) clean = labels_in_range no_name no_number labels clean
      in_range (array at n t) clean =
          let (own, rest) = none_in (length_faults embed n) (inside embed unknown t) clean in
          (length_in_range n own, in_range t rest)
      in_range (sequence at bound t) clean =
          let (own, rest) = none_in (bound_faults embed bound) (inside embed unknown t) clean in
          (bound_in_range bound own, in_range t rest)
      in_range («record» at groups) clean =
          groups_in_range groups (none_in (faults_if (is_bare groups) at (embed OutOfRange) ++ repeated_names embed no_name (group_names groups)) (inside_groups embed unknown groups) clean).1
      in_range (choice at arms) clean =
          let (own, rest) = none_in (labels_faults embed no_name no_number (arm_labels arms)) (inside_arms embed unknown arms) clean in
          arms_in_range arms (labels_in_range no_name no_number (arm_labels arms) own) rest
      in_range (called at name) clean = tt

      pub groups_in_range : (groups : GroupTrees) → inside_groups embed unknown groups ≡ [] → AreGroupsInRange groups
      groups_in_range no_groups clean = tt
      groups_in_range (more_groups names t groups) clean =
          let (own, rest) = none_in (inside embed unknown t) (inside_groups embed unknown groups) clean in
          (in_range t own, groups_in_range groups rest)

      arms_in_range : (arms : ArmTrees) → AreLabelsInRange (arm_labels arms) → inside_arms embed unknown arms ≡ [] → AreArmsInRange arms
      arms_in_range no_arms numbers clean = tt
      arms_in_range (more_arms name number t arms) numbers clean =
          let (own, rest) = none_in (cond (is_empty_record t) [] (inside embed unknown t)) (inside_arms embed unknown arms) clean in
          (numbers.0, unless_empty (is_empty_record t) _ (inside embed unknown t) (empty_in_range t) (in_range t) own, arms_in_range arms numbers.1 rest)
