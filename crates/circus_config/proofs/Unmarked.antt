-- A mark that is at none of the types of interfaces changes none of their faults.
use Rattle.std.proofs.Common.{◌≡◌, ℕ, ◌<◌, Bool, false, List, [], ◌∷◌, ◌++◌, length, refl, ap, arith}
use Rattle.std.specs.Prelude.{Option, Some, None, ◌&&◌, not}
use Rattle.std.proofs.lemmas.Bool.{ne_eqb}
use Rattle.circus_syntax.specs.declared.named.Named.{Named}
use Rattle.circus_syntax.specs.declared.interface_text.FieldsText.{FieldsText}
use Rattle.circus_syntax.specs.TypeTree.{TypeTree, GroupTrees, no_groups, more_groups, group_trees, type_place}
use Rattle.circus_syntax.specs.InterfaceTree.{DeclaredTree, a_type, an_error, a_procedure, InterfaceTree}
use Rattle.circus_syntax.specs.Spelling.{IsEach}
use Rattle.circus_fault.specs.Least.{faults_if, is_clean}
use Rattle.circus_type.specs.Whole.{is_place}
use Rattle.circus_type.specs.Inside.{no_name, group_names}
use Rattle.circus_type.specs.Inside as inside_type
use Rattle.circus_type.specs.Scale.{Scale, written_out}
use Rattle.circus_type.specs.declared.cause.TypeCause.TheVariants as type_cause
use Rattle.circus_idl.specs.declared.fault.Cause.TheVariants.{TooLarge}
use Rattle.circus_idl.specs.Inside.{repeated_name, repeated_number, repeated_names, above, inside_groups, unknown_in, by_name}
use Rattle.circus_idl.specs.OfTypes.{of_type}
use Rattle.circus_idl.specs.Limits.{greatest_error, greatest_program}
use Rattle.circus_type.specs.Limits.{greatest_word}
use Rattle.circus_idl.specs.Faults.{Before, nothing, behind, Cut, cut_of, whole_faults, groups_faults, fields_faults, fields_parts, together_faults, reports_faults, declared_faults, declarations_faults, interface_faults}
use Rattle.circus_config.proofs.Marks.{MarkFrom}
use Rattle.circus_config.proofs.Below.{GroupsBelow, FieldsBelow, DeclaredBelow, InterfaceBelow}

not_place : (low at : ℕ) (o : Option ℕ) → at < low → MarkFrom low o → is_place at o ≡ false
not_place low at None below from = refl
not_place low at (Some p) below from = ne_eqb p at (λ same. omega (arith, same, below, from))

module _ {S : Type 0} (scale : Scale S) (low : ℕ) (cut : Cut) (within : MarkFrom low cut.within) (list : MarkFrom low cut.list) where
  whole_same : (types : List ℕ → Bool) (sizes : List ℕ → S) (parts n : ℕ) (t : TypeTree) → type_place t < low → whole_faults scale cut types sizes parts n t ≡ whole_faults scale (cut_of None) types sizes parts n t
  whole_same types sizes parts n t below =
      let inside = inside_type.inside of_type (unknown_in types) t in
      let size = scale.of_type (by_name sizes) t in
      ap (λ b. inside ++ faults_if (is_clean inside && not b && scale.is_over (scale.parts_with parts n size) size) (type_place t) (of_type type_cause.TooLarge)) (not_place low (type_place t) cut.within below within)

  groups_same : (types : List ℕ → Bool) (sizes : List ℕ → S) (parts : ℕ) (gs : GroupTrees) → GroupsBelow low gs → groups_faults scale cut types sizes parts gs ≡ groups_faults scale (cut_of None) types sizes parts gs
  groups_same types sizes parts no_groups below = refl
  groups_same types sizes parts (more_groups ns t gs) below =
      λ i. whole_same types sizes parts (length ns) t below.0 i ++ groups_same types sizes (scale.parts_with parts (length ns) (scale.of_type (by_name sizes) t)) gs below.1 i

  fields_same : (types : List ℕ → Bool) (sizes : List ℕ → S) (parts : ℕ) (o : Option FieldsText) → FieldsBelow low o → fields_faults scale cut types sizes parts o ≡ fields_faults scale (cut_of None) types sizes parts o
  fields_same types sizes parts None below = refl
  fields_same types sizes parts (Some f) below = ap (λ l. repeated_names no_name (group_names (group_trees f.groups)) ++ l) (groups_same types sizes parts (group_trees f.groups) below.1)

  together_same : (types : List ℕ → Bool) (sizes : List ℕ → S) (name : Named) (o : Option FieldsText) → FieldsBelow low o → together_faults scale cut types sizes name o ≡ together_faults scale (cut_of None) types sizes name o
  together_same types sizes name None below = refl
  together_same types sizes name (Some f) below =
      let gs = group_trees f.groups in
      let clean = is_clean (repeated_names no_name (group_names gs) ++ inside_groups types gs) in
      ap (λ b. faults_if (clean && not b && scale.are_over (by_name sizes) gs) name.at TooLarge) (not_place low f.at cut.list below.0 list)

  declared_same : (before : Before S) (d : DeclaredTree) → DeclaredBelow low d → declared_faults scale cut before d ≡ declared_faults scale (cut_of None) before d
  declared_same before (a_type n t) below = ap (λ l. repeated_name before.names n ++ l) (whole_same before.types before.sizes before.parts 1 t below)
  declared_same before (an_error e) below =
      ap (λ l. repeated_name before.names e.name ++ l ++ repeated_number before.error_numbers e.number ++ above greatest_error e.number) (fields_same before.types before.sizes before.parts e.arguments below)
  declared_same before (a_procedure p) below =
      let together = together_same before.types before.sizes p.name p.arguments below.0 in
      let arguments = fields_same before.types before.sizes before.parts p.arguments below.0 in
      let results = fields_same before.types before.sizes (fields_parts scale before.sizes before.parts p.arguments) p.results below.1 in
      λ i. repeated_name before.names p.name ++ together i ++ arguments i ++ results i ++ reports_faults before.errors p.reports ++ repeated_number before.procedure_numbers p.number ++ above greatest_word p.number

  declarations_same : (before : Before S) (ds : List DeclaredTree) → IsEach (DeclaredBelow low) ds → declarations_faults scale cut before ds ≡ declarations_faults scale (cut_of None) before ds
  declarations_same before [] below = refl
  declarations_same before (d ∷ ds) below = λ i. declared_same before d below.0 i ++ declarations_same (behind scale before d) ds below.1 i

pub interface_same : (low : ℕ) (cut : Cut) → MarkFrom low cut.within → MarkFrom low cut.list → (i : InterfaceTree) → InterfaceBelow low i → interface_faults cut i ≡ interface_faults (cut_of None) i
interface_same low cut within list i below =
    ap (λ l. above greatest_program i.number ++ above greatest_word i.version ++ l) (declarations_same written_out low cut within list (nothing written_out) i.declared below)
