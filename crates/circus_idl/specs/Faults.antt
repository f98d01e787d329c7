-- The faults of an interface as it is written, in the order of its declarations.
use Rattle.std.specs.Prelude.{ℕ, Bool, ◌&&◌, not, List, [], ◌∷◌, ◌++◌, length, Option, Some, None, is_none}
use Rattle.circus_syntax.specs.declared.named.Named.{Named}
use Rattle.circus_syntax.specs.declared.stopping.Stop.{Stop}
use Rattle.circus_syntax.specs.declared.interface_text.FieldsText.{FieldsText}
use Rattle.circus_syntax.specs.TypeTree.{TypeTree, GroupTrees, no_groups, more_groups, group_trees}
use Rattle.circus_syntax.specs.InterfaceTree.{DeclaredTree, a_type, an_error, a_procedure, InterfaceTree}
use Rattle.circus_fault.specs.declared.fault.Fault.{Fault}
use Rattle.circus_fault.specs.Least.{faults_if, is_clean}
use Rattle.circus_fault.specs.Known.{no_number, also_number}
use Rattle.circus_fault.specs.Stopping.{stop_faults}
use Rattle.circus_idl.specs.declared.fault.Cause.{Cause}
use Rattle.circus_idl.specs.declared.fault.Cause.TheVariants.{Expected, Deep, Unknown, TooLarge}
use Rattle.circus_type.specs.Limits.{greatest_word}
use Rattle.circus_type.specs.Whole as type
use Rattle.circus_type.specs.Whole.{is_place}
use Rattle.circus_idl.specs.Limits.{greatest_error, greatest_program}
use Rattle.circus_type.specs.Inside.{no_name, also_name, group_names}
use Rattle.circus_idl.specs.Inside.{repeated_name, repeated_number, repeated_names, above, inside_groups, unknown_in, by_name}
use Rattle.circus_idl.specs.OfTypes.{of_type}
use Rattle.circus_idl.specs.Meaning.{standing_for}
use Rattle.circus_type.specs.Scale.{Scale, written_out}

-- what is declared before a place: the names, which of them are types and what these come to, the numbers of errors by
-- their names, the numbers of errors and procedures, and the parts of types
pub record Before (S : Type 0) : Type 0 where
  pub names : List ℕ → Bool
  pub types : List ℕ → Bool
  pub sizes : List ℕ → S
  pub errors : List ℕ → Option ℕ
  pub error_numbers : ℕ → Bool
  pub procedure_numbers : ℕ → Bool
  pub parts : ℕ

-- where the first declaration stands
abbrev pub nothing : {S : Type 0} → Scale S → Before S
nothing scale = record { names = no_name; types = no_name; sizes = λ _. scale.of_none; errors = λ _. None; error_numbers = no_number; procedure_numbers = no_number; parts = 0 }

-- where reading stopped: in a type, in a list of fields
pub record Cut : Type 0 where
  pub within : Option ℕ
  pub list : Option ℕ

abbrev pub cut_of : Option Stop → Cut
cut_of None = record { within = None; list = None }
cut_of (Some s) = record { within = s.within; list = s.list }

-- the size of a whole type is tested where it has no fault inside and reading didn't stop in it
abbrev pub whole_faults : {S : Type 0} → Scale S → Cut → (List ℕ → Bool) → (List ℕ → S) → ℕ → ℕ → TypeTree → List (Fault Cause)
whole_faults scale cut types sizes parts n t = type.whole_faults of_type scale (unknown_in types) (by_name sizes) cut.within parts n t

-- the whole types of fields, each of which several names may share
abbrev pub groups_faults : {S : Type 0} → Scale S → Cut → (List ℕ → Bool) → (List ℕ → S) → ℕ → GroupTrees → List (Fault Cause)
groups_faults scale cut types sizes parts no_groups = []
groups_faults scale cut types sizes parts (more_groups names t groups) =
    whole_faults scale cut types sizes parts (length names) t
    ++ groups_faults scale cut types sizes (scale.parts_with parts (length names) (scale.of_type (by_name sizes) t)) groups

-- the parts of types with those of fields
abbrev pub groups_parts : {S : Type 0} → Scale S → (List ℕ → S) → ℕ → GroupTrees → ℕ
groups_parts scale sizes parts no_groups = parts
groups_parts scale sizes parts (more_groups names t groups) =
    groups_parts scale sizes (scale.parts_with parts (length names) (scale.of_type (by_name sizes) t)) groups

-- a list of fields
abbrev pub fields_faults : {S : Type 0} → Scale S → Cut → (List ℕ → Bool) → (List ℕ → S) → ℕ → Option FieldsText → List (Fault Cause)
fields_faults scale cut types sizes parts None = []
fields_faults scale cut types sizes parts (Some f) =
    repeated_names no_name (group_names (group_trees f.groups)) ++ groups_faults scale cut types sizes parts (group_trees f.groups)

abbrev pub fields_parts : {S : Type 0} → Scale S → (List ℕ → S) → ℕ → Option FieldsText → ℕ
fields_parts scale sizes parts None = parts
fields_parts scale sizes parts (Some f) = groups_parts scale sizes parts (group_trees f.groups)

-- the arguments of a procedure together, at its name: tested where they have no fault inside and reading
-- didn't stop in their list
abbrev pub together_faults : {S : Type 0} → Scale S → Cut → (List ℕ → Bool) → (List ℕ → S) → Named → Option FieldsText → List (Fault Cause)
together_faults scale cut types sizes name None = []
together_faults scale cut types sizes name (Some f) =
    faults_if (is_clean (repeated_names no_name (group_names (group_trees f.groups)) ++ inside_groups types (group_trees f.groups))
    && not (is_place f.at cut.list) && scale.are_over (by_name sizes) (group_trees f.groups)) name.at TooLarge

-- the names of errors that aren't declared before
abbrev pub unknown_errors : (List ℕ → Option ℕ) → List Named → List (Fault Cause)
unknown_errors errors [] = []
unknown_errors errors (n ∷ ns) = faults_if (is_none (errors n.name)) n.at Unknown ++ unknown_errors errors ns

abbrev pub reports_faults : (List ℕ → Option ℕ) → Option (List Named) → List (Fault Cause)
reports_faults errors None = []
reports_faults errors (Some names) = unknown_errors errors names

-- one declaration
abbrev pub declared_faults : {S : Type 0} → Scale S → Cut → Before S → DeclaredTree → List (Fault Cause)
declared_faults scale cut before (a_type name t) =
    repeated_name before.names name ++ whole_faults scale cut before.types before.sizes before.parts 1 t
declared_faults scale cut before (an_error e) =
    repeated_name before.names e.name ++ fields_faults scale cut before.types before.sizes before.parts e.arguments
    ++ repeated_number before.error_numbers e.number ++ above greatest_error e.number
declared_faults scale cut before (a_procedure p) =
    repeated_name before.names p.name ++ together_faults scale cut before.types before.sizes p.name p.arguments
    ++ fields_faults scale cut before.types before.sizes before.parts p.arguments
    ++ fields_faults scale cut before.types before.sizes (fields_parts scale before.sizes before.parts p.arguments) p.results
    ++ reports_faults before.errors p.reports
    ++ repeated_number before.procedure_numbers p.number ++ above greatest_word p.number

-- what is declared before the next declaration
abbrev pub behind : {S : Type 0} → Scale S → Before S → DeclaredTree → Before S
behind scale before (a_type name t) = record before {
  names = also_name name.name before.names;
  types = also_name name.name before.types;
  sizes = standing_for name.name (scale.of_type (by_name before.sizes) t) before.sizes;
  parts = scale.parts_with before.parts 1 (scale.of_type (by_name before.sizes) t);
}
behind scale before (an_error e) = record before {
  names = also_name e.name.name before.names;
  errors = standing_for e.name.name (Some e.number.value) before.errors;
  error_numbers = also_number e.number.value before.error_numbers;
  parts = fields_parts scale before.sizes before.parts e.arguments;
}
behind scale before (a_procedure p) = record before {
  names = also_name p.name.name before.names;
  procedure_numbers = also_number p.number.value before.procedure_numbers;
  parts = fields_parts scale before.sizes (fields_parts scale before.sizes before.parts p.arguments) p.results;
}

-- declarations one behind the other
abbrev pub declarations_faults : {S : Type 0} → Scale S → Cut → Before S → List DeclaredTree → List (Fault Cause)
declarations_faults scale cut before [] = []
declarations_faults scale cut before (d ∷ ds) = declared_faults scale cut before d ++ declarations_faults scale cut (behind scale before d) ds

-- an interface: its numbers, and what it declares, its types written out
abbrev pub interface_faults : Cut → InterfaceTree → List (Fault Cause)
interface_faults cut i =
    above greatest_program i.number ++ above greatest_word i.version ++ declarations_faults written_out cut (nothing written_out) i.declared

-- all faults of what is read of a text
abbrev pub read_faults : Option Stop → InterfaceTree → List (Fault Cause)
read_faults stop i = stop_faults Expected Deep stop ++ interface_faults (cut_of stop) i
