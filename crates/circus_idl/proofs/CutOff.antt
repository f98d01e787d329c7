-- What is found with sizes that stop above their limits is what is found with the types written out.
use Rattle.std.proofs.Common.{◌≡◌, ℕ, ◌+◌, ◌*◌, Bool, true, false, ◌&&◌, not, cond, min, List, [], ◌∷◌, ◌++◌, length, refl, sym, ◌∙◌, ap, Option, Some, None, bytes_eq}
use Rattle.std.specs.Prelude.{nat_lt}
use Rattle.circus_value.specs.ShapeTree.{ShapeTree}
use Rattle.circus_syntax.specs.declared.named.Named.{Named}
use Rattle.circus_syntax.specs.declared.interface_text.FieldsText.{FieldsText}
use Rattle.circus_syntax.specs.TypeTree.{TypeTree, GroupTrees, no_groups, more_groups, group_trees}
use Rattle.circus_syntax.specs.InterfaceTree.{DeclaredTree, a_type, an_error, a_procedure}
use Rattle.circus_fault.specs.Least.{faults_if, is_clean}
use Rattle.circus_fault.specs.Known.{also_number}
use Rattle.circus_idl.specs.declared.fault.Cause.TheVariants.{TooLarge}
use Rattle.circus_type.specs.declared.measuring.Measure.{Measure}
use Rattle.circus_type.specs.Limits.{greatest_word, most_parts, most_zero_bytes}
use Rattle.circus_idl.specs.Limits.{greatest_error}
use Rattle.circus_type.specs.Written.{parts}
use Rattle.circus_idl.specs.Meaning.{shape_of_type, written_groups, standing_for}
use Rattle.circus_type.specs.Scale.{written_out}
use Rattle.circus_type.specs.Inside.{no_name, also_name, group_names}
use Rattle.circus_idl.specs.Inside.{repeated_name, repeated_number, repeated_names, above, inside_groups, by_name, unknown_in}
use Rattle.circus_idl.specs.OfTypes.{of_type}
use Rattle.circus_idl.specs.Faults.{Before, Cut, nothing, groups_faults, groups_parts, fields_faults, fields_parts, together_faults, reports_faults, declared_faults, behind, declarations_faults}
use Rattle.circus_type.specs.Whole.{is_place}
use Rattle.circus_type.specs.Seen.Measured.{measure_of, measure_of_type, measured_groups, cut_off}
use Rattle.circus_type.proofs.WholeTypes.{above_cut, with_type, whole_cut}
use Rattle.circus_type.proofs.Sizes.{measured_is, groups_measured, zeros_together}

-- the sizes of these forms
abbrev sizes_of : (List ℕ → ShapeTree) → List ℕ → Measure
sizes_of forms n = measure_of (forms n)

groups_parts_cut : (forms : List ℕ → ShapeTree) (so_far : ℕ) (groups : GroupTrees) → groups_parts cut_off (sizes_of forms) (min so_far (1 + most_parts)) groups ≡ min (groups_parts written_out forms so_far groups) (1 + most_parts)
groups_parts_cut forms so_far no_groups = refl
groups_parts_cut forms so_far (more_groups names t groups) =
    ap (λ p. groups_parts cut_off (sizes_of forms) p groups) (with_type (by_name forms) so_far (length names) t)
    ∙ groups_parts_cut forms (so_far + length names * parts (shape_of_type forms t)) groups

fields_parts_cut : (forms : List ℕ → ShapeTree) (so_far : ℕ) (fields : Option FieldsText) → fields_parts cut_off (sizes_of forms) (min so_far (1 + most_parts)) fields ≡ min (fields_parts written_out forms so_far fields) (1 + most_parts)
fields_parts_cut forms so_far None = refl
fields_parts_cut forms so_far (Some f) = groups_parts_cut forms so_far (group_trees f.groups)

module _ (cut : Cut) (types : List ℕ → Bool) (forms : List ℕ → ShapeTree) where
  groups_cut : (so_far : ℕ) (groups : GroupTrees) → groups_faults cut_off cut types (sizes_of forms) (min so_far (1 + most_parts)) groups ≡ groups_faults written_out cut types forms so_far groups
  groups_cut so_far no_groups = refl
  groups_cut so_far (more_groups names t groups) =
      let rest = ap (λ p. groups_faults cut_off cut types (sizes_of forms) p groups) (with_type (by_name forms) so_far (length names) t) ∙ groups_cut (so_far + length names * parts (shape_of_type forms t)) groups in
      λ i. whole_cut of_type (unknown_in types) (by_name forms) cut.within so_far (length names) t i ++ rest i

  fields_cut : (so_far : ℕ) (fields : Option FieldsText) → fields_faults cut_off cut types (sizes_of forms) (min so_far (1 + most_parts)) fields ≡ fields_faults written_out cut types forms so_far fields
  fields_cut so_far None = refl
  fields_cut so_far (Some f) = ap (λ fs. repeated_names no_name (group_names (group_trees f.groups)) ++ fs) (groups_cut so_far (group_trees f.groups))

  together_cut : (name : Named) (fields : Option FieldsText) → together_faults cut_off cut types (sizes_of forms) name fields ≡ together_faults written_out cut types forms name fields
  together_cut name None = refl
  together_cut name (Some f) =
      let groups = group_trees f.groups in
      let over : nat_lt most_zero_bytes (measured_groups (by_name (sizes_of forms)) groups).zeros ≡ written_out.are_over (by_name forms) groups =
      ap (λ (m : Measure). nat_lt most_zero_bytes m.zeros) (groups_measured (by_name forms) groups) ∙ above_cut most_zero_bytes _ ∙ ap (nat_lt most_zero_bytes) (sym (zeros_together (written_groups forms groups))) in
      ap (λ b. faults_if (is_clean (repeated_names no_name (group_names groups) ++ inside_groups types groups) && not (is_place f.at cut.list) && b) name.at TooLarge) over

-- what is declared before a place, its sizes cut off
abbrev cut_before : Before ShapeTree → Before Measure
cut_before b = record {
  names = b.names;
  types = b.types;
  sizes = sizes_of b.sizes;
  errors = b.errors;
  error_numbers = b.error_numbers;
  procedure_numbers = b.procedure_numbers;
  parts = min b.parts (1 + most_parts);
}

declared_cut : (cut : Cut) (b : Before ShapeTree) (d : DeclaredTree) → declared_faults cut_off cut (cut_before b) d ≡ declared_faults written_out cut b d
declared_cut cut b (a_type name t) = ap (λ fs. repeated_name b.names name ++ fs) (whole_cut of_type (unknown_in b.types) (by_name b.sizes) cut.within b.parts 1 t)
declared_cut cut b (an_error e) =
    ap (λ fs. repeated_name b.names e.name ++ fs ++ repeated_number b.error_numbers e.number ++ above greatest_error e.number)
    (fields_cut cut b.types b.sizes b.parts e.arguments)
declared_cut cut b (a_procedure p) =
    let results =
    ap (λ n. fields_faults cut_off cut b.types (sizes_of b.sizes) n p.results) (fields_parts_cut b.sizes b.parts p.arguments)
    ∙ fields_cut cut b.types b.sizes (fields_parts written_out b.sizes b.parts p.arguments) p.results in
    λ i.
    repeated_name b.names p.name ++ together_cut cut b.types b.sizes p.name p.arguments i ++ fields_cut cut b.types b.sizes b.parts p.arguments i ++ results i
    ++ reports_faults b.errors p.reports ++ repeated_number b.procedure_numbers p.number ++ above greatest_word p.number

-- what a name stands for
name_cut : (forms : List ℕ → ShapeTree) (name : List ℕ) (t : TypeTree) (other : List ℕ) → standing_for name (measure_of_type (by_name (sizes_of forms)) t) (sizes_of forms) other ≡ measure_of (standing_for name (shape_of_type forms t) forms other)
name_cut forms name t other = ap (λ m. cond (bytes_eq name other) m (measure_of (forms other))) (measured_is (by_name forms) t) ∙ pulled (bytes_eq name other)
  where
    pulled : (b : Bool) → cond b (measure_of (shape_of_type forms t)) (measure_of (forms other)) ≡ measure_of (cond b (shape_of_type forms t) (forms other))
    pulled true = refl
    pulled false = refl

behind_cut : (b : Before ShapeTree) (d : DeclaredTree) → behind cut_off (cut_before b) d ≡ cut_before (behind written_out b d)
behind_cut b (a_type name t) = λ i. record {
  names = also_name name.name b.names;
  types = also_name name.name b.types;
  sizes = λ other. name_cut b.sizes name.name t other i;
  errors = b.errors;
  error_numbers = b.error_numbers;
  procedure_numbers = b.procedure_numbers;
  parts = with_type (by_name b.sizes) b.parts 1 t i;
}
behind_cut b (an_error e) = λ i. record {
  names = also_name e.name.name b.names;
  types = b.types;
  sizes = sizes_of b.sizes;
  errors = standing_for e.name.name (Some e.number.value) b.errors;
  error_numbers = also_number e.number.value b.error_numbers;
  procedure_numbers = b.procedure_numbers;
  parts = fields_parts_cut b.sizes b.parts e.arguments i;
}
behind_cut b (a_procedure p) =
    let counted =
    ap (λ n. fields_parts cut_off (sizes_of b.sizes) n p.results) (fields_parts_cut b.sizes b.parts p.arguments)
    ∙ fields_parts_cut b.sizes (fields_parts written_out b.sizes b.parts p.arguments) p.results in
    λ i. record {
      names = also_name p.name.name b.names;
      types = b.types;
      sizes = sizes_of b.sizes;
      errors = b.errors;
      error_numbers = b.error_numbers;
      procedure_numbers = also_number p.number.value b.procedure_numbers;
      parts = counted i;
    }

declarations_cut : (cut : Cut) (b : Before ShapeTree) (ds : List DeclaredTree) → declarations_faults cut_off cut (cut_before b) ds ≡ declarations_faults written_out cut b ds
declarations_cut cut b [] = refl
declarations_cut cut b (d ∷ ds) =
    let rest = ap (λ c. declarations_faults cut_off cut c ds) (behind_cut b d) ∙ declarations_cut cut (behind written_out b d) ds in
    λ i. declared_cut cut b d i ++ rest i

-- from the first declaration on
pub found_cut : (cut : Cut) (ds : List DeclaredTree) → declarations_faults cut_off cut (nothing cut_off) ds ≡ declarations_faults written_out cut (nothing written_out) ds
found_cut cut ds = declarations_cut cut (nothing written_out) ds
