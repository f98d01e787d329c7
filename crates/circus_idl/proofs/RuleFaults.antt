-- Of the rules' faults none is one of reading.
use Rattle.std.proofs.Common.{ℕ, ◌+◌, ◌*◌, ◌<◌, Bool, true, false, cond, List, [], ◌∷◌, ◌++◌, length, arith, Option, Some, None, is_none}
use Rattle.std.specs.List.{AllByRecursion}
use Rattle.circus_value.specs.ShapeTree.{ShapeTree}
use Rattle.circus_syntax.specs.declared.named.Named.{Named}
use Rattle.circus_syntax.specs.declared.named.Numeral.{Numeral}
use Rattle.circus_syntax.specs.declared.named.LabelText.{LabelText}
use Rattle.circus_syntax.specs.declared.interface_text.FieldsText.{FieldsText}
use Rattle.circus_syntax.specs.TypeTree.{TypeTree, GroupTrees, ArmTrees, boolean, cardinal, long_cardinal, integer, long_integer, text, enumeration, array, sequence, «record», choice, called, no_groups, more_groups, no_arms, more_arms, group_trees}
use Rattle.circus_syntax.specs.InterfaceTree.{DeclaredTree, a_type, an_error, a_procedure, InterfaceTree}
use Rattle.circus_fault.specs.declared.fault.Fault.{Fault}
use Rattle.circus_fault.specs.Least.{faults_if}
use Rattle.circus_fault.specs.Known.{no_number, also_number}
use Rattle.circus_idl.specs.declared.fault.Cause.{Cause}
use Rattle.circus_idl.specs.declared.fault.Cause.TheVariants.{Unknown, OutOfRange}
use Rattle.circus_idl.specs.Rank.{rank_of}
use Rattle.circus_idl.specs.Inside.{repeated_name, repeated_number, repeated_names, above, inside_faults, inside_groups, unknown_in}
use Rattle.circus_idl.specs.OfTypes.{of_type}
use Rattle.circus_type.specs.Inside.{label_faults, labels_faults, group_names, arm_labels, length_faults, bound_faults, is_bare, is_empty_record, no_name, also_name, inside_arms, unknown_faults}
use Rattle.circus_type.specs.Written.{parts as shape_parts}
use Rattle.circus_idl.specs.Meaning.{shape_of_type}
use Rattle.circus_type.specs.Scale.{written_out}
use Rattle.circus_idl.specs.Faults.{Before, Cut, nothing, whole_faults, groups_faults, fields_faults, fields_parts, together_faults, unknown_errors, reports_faults, declared_faults, behind, declarations_faults, interface_faults}
use Rattle.circus_type.proofs.Items.{all_appended}

-- a rule is broken
abbrev pub IsOfRule : Fault Cause → Type 0
IsOfRule f = 1 < rank_of f.cause

abbrev pub OfRules : List (Fault Cause) → Type 0
OfRules fs = AllByRecursion IsOfRule fs

one_of : (b : Bool) (place : ℕ) (cause : Cause) → 1 < rank_of cause → OfRules (faults_if b place cause)
one_of true place cause of_rule = (of_rule, tt)
one_of false place cause of_rule = tt

and : (fs gs : List (Fault Cause)) → OfRules fs → OfRules gs → OfRules (fs ++ gs)
and fs gs first second = all_appended IsOfRule fs gs first second

names_rule : (earlier : List ℕ → Bool) (ns : List Named) → OfRules (repeated_names earlier ns)
names_rule earlier [] = tt
names_rule earlier (n ∷ ns) = and (repeated_name earlier n) _ (one_of _ _ _ (omega arith)) (names_rule (also_name n.name earlier) ns)

label_rule : (names : List ℕ → Bool) (numbers : ℕ → Bool) (name : Named) (number : Numeral) → OfRules (label_faults of_type names numbers name number)
label_rule names numbers name number =
    and (repeated_name names name ++ repeated_number numbers number) (above 65535 number)
    (and (repeated_name names name) (repeated_number numbers number) (one_of _ _ _ (omega arith)) (one_of _ _ _ (omega arith)))
    (one_of _ _ _ (omega arith))

labels_rule : (names : List ℕ → Bool) (numbers : ℕ → Bool) (ls : List LabelText) → OfRules (labels_faults of_type names numbers ls)
labels_rule names numbers [] = tt
labels_rule names numbers (l ∷ ls) =
    and (label_faults of_type names numbers l.name l.number) _ (label_rule names numbers l.name l.number) (labels_rule (also_name l.name.name names) (also_number l.number.value numbers) ls)

bound_rule : (bound : Option Numeral) → OfRules (bound_faults of_type bound)
bound_rule None = tt
bound_rule (Some n) = one_of _ _ _ (omega arith)

called_rule : (unknown : Option ℕ) → OfRules (unknown_faults of_type unknown)
called_rule None = tt
called_rule (Some at) = (omega arith, tt)

unless : (empty : Bool) (fs : List (Fault Cause)) → OfRules fs → OfRules (cond empty [] fs)
unless true fs of_rules = tt
unless false fs of_rules = of_rules

module _ (types : List ℕ → Bool) where
  mutual
    inside_rule : (t : TypeTree) → OfRules (inside_faults types t)
    inside_rule (boolean _) = tt
    inside_rule (cardinal _) = tt
    inside_rule (long_cardinal _) = tt
    inside_rule (integer _) = tt
    inside_rule (long_integer _) = tt
    inside_rule (text _) = tt
    inside_rule (enumeration _ labels) = labels_rule no_name no_number labels
    inside_rule (array _ n t) = and (length_faults of_type n) (inside_faults types t) (one_of _ _ _ (omega arith)) (inside_rule t)
    inside_rule (sequence _ bound t) = and (bound_faults of_type bound) (inside_faults types t) (bound_rule bound) (inside_rule t)
    inside_rule («record» at groups) =
        and (faults_if (is_bare groups) at OutOfRange ++ repeated_names no_name (group_names groups)) (inside_groups types groups)
        (and (faults_if (is_bare groups) at OutOfRange) (repeated_names no_name (group_names groups)) (one_of _ _ _ (omega arith)) (names_rule no_name (group_names groups)))
        (groups_inside_rule groups)
    inside_rule (choice _ arms) = and (labels_faults of_type no_name no_number (arm_labels arms)) (inside_arms of_type (unknown_in types) arms) (labels_rule no_name no_number (arm_labels arms)) (arms_inside_rule arms)
    inside_rule (called _ t) = called_rule (unknown_in types t)

    groups_inside_rule : (groups : GroupTrees) → OfRules (inside_groups types groups)
    groups_inside_rule no_groups = tt
    groups_inside_rule (more_groups _ t groups) = and (inside_faults types t) (inside_groups types groups) (inside_rule t) (groups_inside_rule groups)

    arms_inside_rule : (arms : ArmTrees) → OfRules (inside_arms of_type (unknown_in types) arms)
    arms_inside_rule no_arms = tt
    arms_inside_rule (more_arms _ _ t arms) =
        and (cond (is_empty_record t) [] (inside_faults types t)) (inside_arms of_type (unknown_in types) arms) (unless (is_empty_record t) (inside_faults types t) (inside_rule t)) (arms_inside_rule arms)

module _ (cut : Cut) where
  whole_rule : (types : List ℕ → Bool) (forms : List ℕ → ShapeTree) (parts n : ℕ) (t : TypeTree) → OfRules (whole_faults written_out cut types forms parts n t)
  whole_rule types forms parts n t = and (inside_faults types t) _ (inside_rule types t) (one_of _ _ _ (omega arith))

  groups_rule : (types : List ℕ → Bool) (forms : List ℕ → ShapeTree) (parts : ℕ) (groups : GroupTrees) → OfRules (groups_faults written_out cut types forms parts groups)
  groups_rule types forms parts no_groups = tt
  groups_rule types forms parts (more_groups names t groups) =
      and (whole_faults written_out cut types forms parts (length names) t) _ (whole_rule types forms parts (length names) t)
      (groups_rule types forms (parts + length names * shape_parts (shape_of_type forms t)) groups)

  fields_rule : (types : List ℕ → Bool) (forms : List ℕ → ShapeTree) (parts : ℕ) (fields : Option FieldsText) → OfRules (fields_faults written_out cut types forms parts fields)
  fields_rule types forms parts None = tt
  fields_rule types forms parts (Some f) =
      and (repeated_names no_name (group_names (group_trees f.groups))) _ (names_rule no_name (group_names (group_trees f.groups))) (groups_rule types forms parts (group_trees f.groups))

  together_rule : (types : List ℕ → Bool) (forms : List ℕ → ShapeTree) (name : Named) (fields : Option FieldsText) → OfRules (together_faults written_out cut types forms name fields)
  together_rule types forms name None = tt
  together_rule types forms name (Some f) = one_of _ _ _ (omega arith)

  errors_rule : (errors : List ℕ → Option ℕ) (ns : List Named) → OfRules (unknown_errors errors ns)
  errors_rule errors [] = tt
  errors_rule errors (n ∷ ns) = and (faults_if (is_none (errors n.name)) n.at Unknown) _ (one_of _ _ _ (omega arith)) (errors_rule errors ns)

  reports_rule : (errors : List ℕ → Option ℕ) (ns : Option (List Named)) → OfRules (reports_faults errors ns)
  reports_rule errors None = tt
  reports_rule errors (Some ns) = errors_rule errors ns

  declared_rule : (before : Before ShapeTree) (d : DeclaredTree) → OfRules (declared_faults written_out cut before d)
  declared_rule before (a_type name t) = and (repeated_name before.names name) _ (one_of _ _ _ (omega arith)) (whole_rule before.types before.sizes before.parts 1 t)
  declared_rule before (an_error e) =
      let fields = fields_faults written_out cut before.types before.sizes before.parts e.arguments in
      and (repeated_name before.names e.name ++ fields ++ repeated_number before.error_numbers e.number) (above 59999 e.number)
      (and (repeated_name before.names e.name ++ fields) (repeated_number before.error_numbers e.number)
      (and (repeated_name before.names e.name) fields (one_of _ _ _ (omega arith)) (fields_rule before.types before.sizes before.parts e.arguments))
      (one_of _ _ _ (omega arith)))
      (one_of _ _ _ (omega arith))
  declared_rule before (a_procedure p) =
      let name = repeated_name before.names p.name in
      let together = together_faults written_out cut before.types before.sizes p.name p.arguments in
      let arguments = fields_faults written_out cut before.types before.sizes before.parts p.arguments in
      let parts = fields_parts written_out before.sizes before.parts p.arguments in
      let results = fields_faults written_out cut before.types before.sizes parts p.results in
      let reports = reports_faults before.errors p.reports in
      let number = repeated_number before.procedure_numbers p.number in
      and (name ++ together ++ arguments ++ results ++ reports ++ number) (above 65535 p.number)
      (and (name ++ together ++ arguments ++ results ++ reports) number
      (and (name ++ together ++ arguments ++ results) reports
      (and (name ++ together ++ arguments) results
      (and (name ++ together) arguments
      (and name together (one_of _ _ _ (omega arith)) (together_rule before.types before.sizes p.name p.arguments))
      (fields_rule before.types before.sizes before.parts p.arguments))
      (fields_rule before.types before.sizes parts p.results))
      (reports_rule before.errors p.reports))
      (one_of _ _ _ (omega arith)))
      (one_of _ _ _ (omega arith))

  declarations_rule : (before : Before ShapeTree) (ds : List DeclaredTree) → OfRules (declarations_faults written_out cut before ds)
  declarations_rule before [] = tt
  declarations_rule before (d ∷ ds) = and (declared_faults written_out cut before d) _ (declared_rule before d) (declarations_rule (behind written_out before d) ds)

  pub interface_rule : (tree : InterfaceTree) → OfRules (interface_faults cut tree)
  interface_rule tree =
      and (above 4294967295 tree.number ++ above 65535 tree.version) (declarations_faults written_out cut (nothing written_out) tree.declared)
      (and (above 4294967295 tree.number) (above 65535 tree.version) (one_of _ _ _ (omega arith)) (one_of _ _ _ (omega arith)))
      (declarations_rule (nothing written_out) tree.declared)
