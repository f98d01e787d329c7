-- A declaration without a fault has no number that is out of range.
use Rattle.std.proofs.Common.{◌≡◌, ℕ, ◌≤◌, Bool, true, false, cond, List, [], ◌++◌, length, Option, Some, None, subst, arith, bytes_eq}
use Rattle.circus_syntax.specs.declared.interface_text.FieldsText.{FieldsText}
use Rattle.circus_syntax.specs.declared.interface_text.ErrorText.{ErrorText}
use Rattle.circus_syntax.specs.declared.interface_text.ProcedureText.{ProcedureText}
use Rattle.circus_syntax.specs.TypeTree.{TypeTree, GroupTrees, no_groups, more_groups, group_trees}
use Rattle.circus_syntax.specs.InterfaceTree.{DeclaredTree, a_type, an_error, a_procedure, InterfaceTree}
use Rattle.circus_fault.specs.declared.fault.Fault.{Fault}
use Rattle.circus_fault.specs.Least.{least_from}
use Rattle.circus_fault.proofs.Items.{none_in}
use Rattle.circus_fault.proofs.LeastIs.{no_least}
use Rattle.circus_type.specs.InRange.{IsOneWord, IsInRange, AreGroupsInRange}
use Rattle.circus_type.specs.Inside.{no_name, group_names}
use Rattle.circus_type.specs.Scale.{Scale, written_out}
use Rattle.circus_type.proofs.NoFaults.{within}
use Rattle.circus_type.proofs.InsideInRange as inside
use Rattle.circus_fault.specs.Stopping.{stop_faults}
use Rattle.circus_syntax.specs.declared.stopping.Stop.{Stop}
use Rattle.circus_idl.specs.declared.fault.Cause.{Cause}
use Rattle.circus_idl.specs.declared.fault.Cause.TheVariants.{Expected, Deep}
use Rattle.circus_idl.specs.Rank.{rank_of}
use Rattle.circus_idl.specs.Inside.{repeated_name, repeated_number, repeated_names, above, unknown_in, by_name}
use Rattle.circus_idl.specs.InRange.{AreFieldsInRange, AreWords}
use Rattle.circus_idl.specs.OfTypes.{of_type}
use Rattle.circus_idl.specs.Means.{errors_behind}
use Rattle.circus_idl.specs.Limits.{greatest_program}
use Rattle.circus_idl.specs.Faults.{Before, Cut, nothing, cut_of, whole_faults, groups_faults, fields_faults, fields_parts, together_faults, reports_faults, declared_faults, declarations_faults, interface_faults, read_faults}
use Rattle.circus_idl.proofs.DraftMore.{none_before}

-- nothing is found where nothing is kept
pub none_found : (best : Option (Fault Cause)) (fs : List (Fault Cause)) → least_from rank_of best fs ≡ None → fs ≡ []
none_found best fs is = no_least rank_of fs (subst (λ b. least_from rank_of b fs ≡ None) (none_before best fs is) is)

module _ {S : Type 0} (scale : Scale S) (cut : Cut) (types : List ℕ → Bool) (sizes : List ℕ → S) where
  pub type_in_range : (parts n : ℕ) (t : TypeTree) → whole_faults scale cut types sizes parts n t ≡ [] → IsInRange t
  type_in_range parts n t clean = inside.in_range of_type (unknown_in types) t (none_in _ _ clean).0

  groups_in_range : (parts : ℕ) (groups : GroupTrees) → groups_faults scale cut types sizes parts groups ≡ [] → AreGroupsInRange groups
  groups_in_range parts no_groups clean = tt
  groups_in_range parts (more_groups names t groups) clean =
      let more = scale.parts_with parts (length names) (scale.of_type (by_name sizes) t) in
      let (own, rest) = none_in (whole_faults scale cut types sizes parts (length names) t) (groups_faults scale cut types sizes more groups) clean in
      (type_in_range parts (length names) t own, groups_in_range (scale.parts_with parts (length names) (scale.of_type (by_name sizes) t)) groups rest)

  fields_in_range : (parts : ℕ) (fields : Option FieldsText) → fields_faults scale cut types sizes parts fields ≡ [] → AreFieldsInRange fields
  fields_in_range parts None clean = tt
  fields_in_range parts (Some f) clean =
      groups_in_range parts (group_trees f.groups) (none_in (repeated_names no_name (group_names (group_trees f.groups))) (groups_faults scale cut types sizes parts (group_trees f.groups)) clean).1

module _ {S : Type 0} (scale : Scale S) (cut : Cut) (before : Before S) where
  error_small : (e : ErrorText) → declared_faults scale cut before (an_error e) ≡ [] → e.number.value ≤ 59999
  error_small e clean =
      within of_type 59999 e.number (none_in (repeated_name before.names e.name ++ fields_faults scale cut before.types before.sizes before.parts e.arguments ++ repeated_number before.error_numbers e.number) (above 59999 e.number) clean).1

  pub error_in_range : (e : ErrorText) → declared_faults scale cut before (an_error e) ≡ [] → IsOneWord e.number × AreFieldsInRange e.arguments
  error_in_range e clean =
      let name = repeated_name before.names e.name in
      let fields = fields_faults scale cut before.types before.sizes before.parts e.arguments in
      let (three, high) = none_in (name ++ fields ++ repeated_number before.error_numbers e.number) (above 59999 e.number) clean in
      let (two, number) = none_in (name ++ fields) (repeated_number before.error_numbers e.number) three in
      let small = error_small e clean in
      (omega (arith, small), fields_in_range scale cut before.types before.sizes before.parts e.arguments (none_in name fields two).1)

  pub procedure_in_range : (p : ProcedureText) → declared_faults scale cut before (a_procedure p) ≡ []
      → IsOneWord p.number × AreFieldsInRange p.arguments × AreFieldsInRange p.results
  procedure_in_range p clean =
      let parts = fields_parts scale before.sizes before.parts p.arguments in
      let name = repeated_name before.names p.name in
      let together = together_faults scale cut before.types before.sizes p.name p.arguments in
      let arguments = fields_faults scale cut before.types before.sizes before.parts p.arguments in
      let results = fields_faults scale cut before.types before.sizes parts p.results in
      let reports = reports_faults before.errors p.reports in
      let number = repeated_number before.procedure_numbers p.number in
      let (six, high) = none_in (name ++ together ++ arguments ++ results ++ reports ++ number) (above 65535 p.number) clean in
      let (five, no_number) = none_in (name ++ together ++ arguments ++ results ++ reports) number six in
      let (four, no_reports) = none_in (name ++ together ++ arguments ++ results) reports five in
      let (three, no_results) = none_in (name ++ together ++ arguments) results four in
      let (two, no_arguments) = none_in (name ++ together) arguments three in (
        within of_type 65535 p.number high,
        fields_in_range scale cut before.types before.sizes before.parts p.arguments no_arguments,
        fields_in_range scale cut before.types before.sizes parts p.results no_results,
      )

  -- the numbers of errors behind a declaration
  pub words_behind : (d : DeclaredTree) → declared_faults scale cut before d ≡ [] → AreWords before.errors → AreWords (errors_behind before.errors d)
  words_behind (a_type name t) clean words = words
  words_behind (an_error e) clean words = λ name n. one name n (bytes_eq e.name.name name)
    where
      one : (name : List ℕ) (n : ℕ) (b : Bool) → cond b (Some e.number.value) (before.errors name) ≡ Some n → n ≤ 65535
      one name n true is = let same : e.number.value ≡ n = cc in let small = error_small e clean in omega (arith, same, small)
      one name n false is = words name n is
  words_behind (a_procedure p) clean words = words

-- the numbers of an interface
pub numbers_in_range : (stop : Option Stop) (tree : InterfaceTree) → read_faults stop tree ≡ [] → (tree.number.value ≤ greatest_program) × IsOneWord tree.version
numbers_in_range stop tree clean =
    let whole = (none_in (stop_faults Expected Deep stop) (interface_faults (cut_of stop) tree) clean).1 in
    let numbers = (none_in (above greatest_program tree.number ++ above 65535 tree.version) (declarations_faults written_out (cut_of stop) (nothing written_out) tree.declared) whole).0 in
    let (program, version) = none_in (above greatest_program tree.number) (above 65535 tree.version) numbers in
    (within of_type greatest_program tree.number program, within of_type 65535 tree.version version)
