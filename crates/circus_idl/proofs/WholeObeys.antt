-- Whole types and lists of fields without a fault.
use Rattle.std.proofs.Common.{◌≡◌, ℕ, ◌+◌, ◌*◌, ◌≤◌, Bool, true, false, cond, List, [], ◌∷◌, ◌++◌, length, refl, ◌∙◌, ap, arith, Option, Some, None}
use Rattle.std.specs.List.{AllByRecursion}
use Rattle.std.proofs.lemmas.Bool.{ltb-false}
use Rattle.std.proofs.lemmas.List.Sums.{sum_by-cons}
use Rattle.circus_value.specs.ShapeTree.{ShapeTree, FieldTree}
use Rattle.circus_syntax.specs.declared.named.Named.{Named}
use Rattle.circus_syntax.specs.declared.named.TypeName.{TypeName}
use Rattle.circus_syntax.specs.declared.interface_text.FieldsText.{FieldsText}
use Rattle.circus_syntax.specs.TypeTree.{TypeTree, GroupTrees, no_groups, more_groups, group_trees}
use Rattle.circus_syntax.specs.Spelling.{IsType, AreGroups, AreFields, IfWritten}
use Rattle.circus_fault.proofs.Items.{none_in}
use Rattle.circus_type.specs.Limits.{most_parts, most_zero_bytes}
use Rattle.circus_type.specs.Written.{parts}
use Rattle.circus_type.specs.Scale.{written_out}
use Rattle.circus_type.specs.Meaning.{fields_named}
use Rattle.circus_idl.specs.Meaning.{shape_of_type, written_groups}
use Rattle.circus_idl.specs.Means.{fields_meant}
use Rattle.circus_type.specs.Inside.{no_name, group_names}
use Rattle.circus_idl.specs.Inside.{repeated_names, inside_faults, inside_groups, by_name, unknown_at, unknown_in}
use Rattle.circus_idl.specs.OfTypes.{of_type}
use Rattle.circus_idl.specs.Faults.{Cut, cut_of, whole_faults, groups_faults, groups_parts, fields_faults, fields_parts, together_faults}
use Rattle.circus_fault.specs.Least.{is_clean}
use Rattle.circus_type.specs.Together.{shapes_of, parts_of, zero_size_of}
use Rattle.circus_type.specs.Obeys.{ObeysInside, ObeysWhole, ObeyFieldList}
use Rattle.circus_fault.proofs.NoFaults.{no_fault}
use Rattle.circus_type.proofs.InsideObeys.{names_obey}
use Rattle.circus_type.proofs.WholeTypes.{clean_none, tested, whole_obeys as type_obeys}

-- reading went to the end
abbrev pub uncut : Cut
uncut = cut_of None

-- fields, where there are so many parts before them and with them
pub record AreWhole (before counted : ℕ) (fields : List FieldTree) : Type 0 where
  pub types : AllByRecursion ObeysWhole (shapes_of fields)
  pub counted_is : counted ≡ before + parts_of (shapes_of fields)
  pub few : counted ≤ most_parts

-- fields that share a type
shared : (ns : List Named) (s : ShapeTree) (rest : List FieldTree) → ObeysWhole s → AllByRecursion ObeysWhole (shapes_of rest) → AllByRecursion ObeysWhole (shapes_of (fields_named ns s ++ rest))
shared [] s rest own others = others
shared (n ∷ ns) s rest own others = (own, shared ns s rest own others)

shared_parts : (ns : List Named) (s : ShapeTree) (rest : List FieldTree) → parts_of (shapes_of (fields_named ns s ++ rest)) ≡ length ns * parts s + parts_of (shapes_of rest)
shared_parts [] s rest = omega arith
shared_parts (n ∷ ns) s rest = omega (arith, sum_by-cons parts s (shapes_of (fields_named ns s ++ rest)), shared_parts ns s rest)

module _ (types : List ℕ → Bool) (form : List ℕ → ShapeTree) (known : (n : List ℕ) → types n ≡ true → ObeysInside (form n)) where
  known_stands : (n : TypeName) → unknown_in types n ≡ None → ObeysInside (by_name form n)
  known_stands n is = by_parts n.«module» n.name is
    where
      by_test : (b : Bool) (at : ℕ) → types n.name.name ≡ b → cond b None (Some at) ≡ None → ObeysInside (form n.name.name)
      by_test true at is_true is = known n.name.name is_true
      by_test false at is_false is = absurd (cc)

      by_parts : (m : Option Named) → (name : Named) → unknown_at types m n.name ≡ None → ObeysInside (form n.name.name)
      by_parts None name is = by_test (types n.name.name) n.name.at refl is
      by_parts (Some m) name is = absurd (cc)

  -- a whole type, which so many names share
  pub whole_obeys : (before n : ℕ) (t : TypeTree) → IsType t → whole_faults written_out uncut types form before n t ≡ []
      → (inside_faults types t ≡ []) × ObeysWhole (shape_of_type form t) × (before + n * parts (shape_of_type form t) ≤ most_parts)
  whole_obeys before n t good clean = type_obeys of_type (unknown_in types) (by_name form) known_stands before n t good clean

  pub groups_whole : (before : ℕ) (groups : GroupTrees) → before ≤ most_parts → AreGroups groups → groups_faults written_out uncut types form before groups ≡ []
      → (inside_groups types groups ≡ []) × AreWhole before (groups_parts written_out form before groups) (written_groups form groups)
  groups_whole before no_groups few good clean = (refl, record { types = tt; counted_is = omega arith; few = few })
  groups_whole before (more_groups names t groups) few good clean =
      let (own, rest) = none_in (whole_faults written_out uncut types form before (length names) t) _ clean in
      let (none, obeys, fewer) = whole_obeys before (length names) t good.1 own in
      let (none_behind, others) = groups_whole (before + length names * parts (shape_of_type form t)) groups fewer good.2 rest in (
        ap (λ fs. fs ++ inside_groups types groups) none ∙ none_behind,
        record {
          types = shared names (shape_of_type form t) (written_groups form groups) obeys others.types;
          counted_is = omega (arith, others.counted_is, shared_parts names (shape_of_type form t) (written_groups form groups));
          few = others.few;
        },
      )

  pub fields_whole : (before : ℕ) (fields : Option FieldsText) → before ≤ most_parts → IfWritten AreFields fields → fields_faults written_out uncut types form before fields ≡ []
      → ObeyFieldList (fields_meant form fields) × AreWhole before (fields_parts written_out form before fields) (fields_meant form fields)
  fields_whole before None few good clean = (record { named = tt; distinct = tt }, record { types = tt; counted_is = omega arith; few = few })
  fields_whole before (Some f) few good clean =
      let groups = group_trees f.groups in
      let (names, rest) = none_in (repeated_names no_name (group_names groups)) (groups_faults written_out uncut types form before groups) clean in
      (names_obey (by_name form) of_type groups good names, (groups_whole before groups few good rest).1)

  -- the arguments of a procedure together
  pub together_small : (before : ℕ) (name : Named) (fields : Option FieldsText) → before ≤ most_parts → IfWritten AreFields fields → fields_faults written_out uncut types form before fields ≡ [] → together_faults written_out uncut types form name fields ≡ []
      → zero_size_of (fields_meant form fields) ≤ most_zero_bytes
  together_small before name None few good clean together = omega arith
  together_small before name (Some f) few good clean together =
      let groups = group_trees f.groups in
      let (names, rest) = none_in (repeated_names no_name (group_names groups)) (groups_faults written_out uncut types form before groups) clean in
      let none = (groups_whole before groups few good rest).0 in
      let no_other : repeated_names no_name (group_names groups) ++ inside_groups types groups ≡ [] = ap (λ fs. fs ++ inside_groups types groups) names ∙ none in
      ltb-false most_zero_bytes _ (tested (is_clean (repeated_names no_name (group_names groups) ++ inside_groups types groups)) _ (clean_none _ no_other) (no_fault _ _ _ together))
