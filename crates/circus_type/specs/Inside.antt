-- The faults inside of a type: names, numbers and labels, and nothing of how large it is.
use Rattle.std.specs.Prelude.{ℕ, Bool, true, false, ◌||◌, ◌==◌, cond, nat_lt, bytes_eq, List, [], ◌∷◌, ◌++◌, Option, Some, None}
use Rattle.circus_syntax.specs.declared.named.Named.{Named}
use Rattle.circus_syntax.specs.declared.named.Numeral.{Numeral}
use Rattle.circus_syntax.specs.declared.named.TypeName.{TypeName}
use Rattle.circus_syntax.specs.declared.named.LabelText.{LabelText}
use Rattle.circus_syntax.specs.TypeTree.{TypeTree, GroupTrees, ArmTrees, boolean, cardinal, long_cardinal, integer, long_integer, text, enumeration, array, sequence, «record», choice, called, no_groups, more_groups, no_arms, more_arms}
use Rattle.circus_fault.specs.declared.fault.Fault.{Fault}
use Rattle.circus_fault.specs.Least.{faults_if}
use Rattle.circus_fault.specs.Known.{no_number, also_number}
use Rattle.circus_type.specs.declared.cause.TypeCause.{TypeCause}
use Rattle.circus_type.specs.declared.cause.TypeCause.TheVariants.{Unknown, Repeated, OutOfRange}
use Rattle.circus_type.specs.Limits.{greatest_word}

-- no name yet
abbrev pub no_name : List ℕ → Bool
no_name _ = false

-- this name besides those that stand before it
abbrev pub also_name : List ℕ → (List ℕ → Bool) → List ℕ → Bool
also_name name earlier other = bytes_eq name other || earlier other

-- these names besides those that stand before them
abbrev pub also_names : List Named → (List ℕ → Bool) → List ℕ → Bool
also_names [] earlier = earlier
also_names (n ∷ ns) earlier = also_names ns (also_name n.name earlier)

-- the names of all groups, in order
abbrev pub group_names : GroupTrees → List Named
group_names no_groups = []
group_names (more_groups names _ groups) = names ++ group_names groups

-- the labels of arms
abbrev pub arm_labels : ArmTrees → List LabelText
arm_labels no_arms = []
arm_labels (more_arms name number _ arms) = record { name = name; number = number } ∷ arm_labels arms

-- no groups
abbrev pub is_bare : GroupTrees → Bool
is_bare no_groups = true
is_bare (more_groups _ _ _) = false

-- RECORD without fields
abbrev pub is_empty_record : TypeTree → Bool
is_empty_record («record» _ groups) = is_bare groups
is_empty_record _ = false

-- where these are the causes among those of the texts in which types stand
module _ {C : Type 0} (embed : TypeCause → C) where
  -- a name that stands among earlier ones
  abbrev pub repeated_name : (List ℕ → Bool) → Named → List (Fault C)
  repeated_name earlier n = faults_if (earlier n.name) n.at (embed Repeated)

  -- a number that stands among earlier ones
  abbrev pub repeated_number : (ℕ → Bool) → Numeral → List (Fault C)
  repeated_number earlier n = faults_if (earlier n.value) n.at (embed Repeated)

  -- a number that is above a limit
  abbrev pub above : ℕ → Numeral → List (Fault C)
  above limit n = faults_if (nat_lt limit n.value) n.at (embed OutOfRange)

  -- names behind earlier ones
  abbrev pub repeated_names : (List ℕ → Bool) → List Named → List (Fault C)
  repeated_names earlier [] = []
  repeated_names earlier (n ∷ ns) = repeated_name earlier n ++ repeated_names (also_name n.name earlier) ns

  -- a label behind earlier ones
  abbrev pub label_faults : (List ℕ → Bool) → (ℕ → Bool) → Named → Numeral → List (Fault C)
  label_faults names numbers name number =
      repeated_name names name ++ repeated_number numbers number ++ above greatest_word number

  -- labels behind earlier ones
  abbrev pub labels_faults : (List ℕ → Bool) → (ℕ → Bool) → List LabelText → List (Fault C)
  labels_faults names numbers [] = []
  labels_faults names numbers (l ∷ ls) =
      label_faults names numbers l.name l.number
      ++ labels_faults (also_name l.name.name names) (also_number l.number.value numbers) ls

  -- how many items an array may have
  abbrev pub length_faults : Numeral → List (Fault C)
  length_faults n = faults_if ((n.value == 0) || nat_lt greatest_word n.value) n.at (embed OutOfRange)

  -- the bound of a sequence, where one is given
  abbrev pub bound_faults : Option Numeral → List (Fault C)
  bound_faults None = []
  bound_faults (Some n) = above greatest_word n

  -- the place of a name that stands for no type
  abbrev pub unknown_faults : Option ℕ → List (Fault C)
  unknown_faults None = []
  unknown_faults (Some at) = faults_if true at (embed Unknown)

  -- where this is the place of what is unknown in the name of a type
  module _ (unknown : TypeName → Option ℕ) where
    abbrev mutual
      pub inside : TypeTree → List (Fault C)
      inside (boolean _) = []
      inside (cardinal _) = []
      inside (long_cardinal _) = []
      inside (integer _) = []
      inside (long_integer _) = []
      inside (text _) = []
      inside (enumeration _ labels) = labels_faults no_name no_number labels
      inside (array _ n t) = length_faults n ++ inside t
      inside (sequence _ bound t) = bound_faults bound ++ inside t
      inside («record» at groups) =
          faults_if (is_bare groups) at (embed OutOfRange) ++ repeated_names no_name (group_names groups) ++ inside_groups groups
      inside (choice _ arms) = labels_faults no_name no_number (arm_labels arms) ++ inside_arms arms
      inside (called _ t) = unknown_faults (unknown t)

      -- of the types of fields, each once for a group
      pub inside_groups : GroupTrees → List (Fault C)
      inside_groups no_groups = []
      inside_groups (more_groups _ t groups) = inside t ++ inside_groups groups

      -- of the types of arms, where a record may have no fields
      pub inside_arms : ArmTrees → List (Fault C)
      inside_arms no_arms = []
      inside_arms (more_arms _ _ t arms) =
          cond (is_empty_record t) [] (inside t) ++ inside_arms arms
