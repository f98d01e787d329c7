-- The tree of an interface whose tokens stand at these places.
use Rattle.std.proofs.Common.{◌≡◌, ℕ, List, [], ◌∷◌, ◌++◌, refl, ap, Option, Some, None}
use Rattle.std.specs.List.{flat_map}
use Rattle.circus_text.specs.Token.{Lexeme}
use Rattle.circus_value.specs.ShapeTree.{FieldTree, field_trees}
use Rattle.circus_value.specs.ShapeOf.{tree_of}
use Rattle.circus_syntax.specs.declared.named.Named.{Named}
use Rattle.circus_syntax.specs.declared.interface_text.FieldsText.{FieldsText}
use Rattle.circus_syntax.specs.TypeTree.{GroupTree, more_groups, group_trees}
use Rattle.circus_syntax.specs.InterfaceTree.{DeclaredTree, a_type, an_error, a_procedure, InterfaceTree}
use Rattle.circus_idl.specs.declared.interface.DeclaredType.{DeclaredType}
use Rattle.circus_idl.specs.declared.interface.DeclaredError.{DeclaredError}
use Rattle.circus_idl.specs.declared.interface.Procedure.{Procedure}
use Rattle.circus_idl.specs.declared.interface.Interface.{Interface}
use Rattle.circus_idl.specs.Shown.{type_lexemes, optional_fields, results_lexemes, error_name, reports_lexemes, declared_type, declared_error, declared_procedure}
use Rattle.circus_idl.proofs.Places.{here, next, past, named_at, numeral_at}
use Rattle.circus_idl.proofs.PlainTypes.{type_at, groups_at}

-- fields with a comma between two
abbrev pub group_list_at : List FieldTree → List ℕ → List GroupTree
group_list_at [] ps = []
group_list_at (f ∷ fs) ps =
    record { names = named_at f.name ps ∷ []; shape = type_at f.shape (next (next ps)) }
    ∷ group_list_at fs (next (past (type_lexemes f.shape) (next (next ps))))

pub group_list_is : (fs : List FieldTree) (ps : List ℕ) → group_trees (group_list_at fs ps) ≡ groups_at (field_trees fs) ps
group_list_is [] ps = refl
group_list_is (f ∷ fs) ps = ap (more_groups (named_at f.name ps ∷ []) (type_at f.shape (next (next ps)))) (group_list_is fs _)

-- fields in brackets, where there are any
abbrev pub fields_at : List FieldTree → List ℕ → Option FieldsText
fields_at [] ps = None
fields_at (f ∷ fs) ps = Some (record { at = here ps; groups = group_list_at (f ∷ fs) (next ps) })

-- names of errors with a comma between two
abbrev pub names_at : List DeclaredError → List ℕ → List ℕ → List Named
names_at errors [] ps = []
names_at errors (n ∷ ns) ps = named_at (error_name errors n) ps ∷ names_at errors ns (next (next ps))

abbrev pub reports_at : List DeclaredError → List ℕ → List ℕ → Option (List Named)
reports_at errors [] ps = None
reports_at errors (n ∷ ns) ps = Some (names_at errors (n ∷ ns) (next (next ps)))

abbrev pub declared_type_at : DeclaredType → List ℕ → DeclaredTree
declared_type_at t ps = a_type (named_at t.name ps) (type_at (tree_of t.shape) (next (next (next (next ps)))))

-- the places behind name : kind
abbrev pub behind_head : List ℕ → List ℕ
behind_head ps = next (next (next ps))

abbrev pub declared_error_at : DeclaredError → List ℕ → DeclaredTree
declared_error_at e ps = an_error (record {
  name = named_at e.name ps;
  arguments = fields_at e.arguments (behind_head ps);
  number = numeral_at e.number (next (past (optional_fields e.arguments) (behind_head ps)));
})

-- the places behind the arguments of a procedure, behind its results, and behind its reports
abbrev pub behind_arguments : Procedure → List ℕ → List ℕ
behind_arguments p ps = past (optional_fields p.arguments) (behind_head ps)

abbrev pub behind_results : Procedure → List ℕ → List ℕ
behind_results p ps = past (results_lexemes p.results) (behind_arguments p ps)

abbrev pub behind_reports : List DeclaredError → Procedure → List ℕ → List ℕ
behind_reports errors p ps = past (reports_lexemes errors p.reports) (behind_results p ps)

abbrev pub declared_procedure_at : List DeclaredError → Procedure → List ℕ → DeclaredTree
declared_procedure_at errors p ps = a_procedure (record {
  name = named_at p.name ps;
  arguments = fields_at p.arguments (behind_head ps);
  results = fields_at p.results (next (behind_arguments p ps));
  reports = reports_at errors p.reports (behind_results p ps);
  number = numeral_at p.number (next (behind_reports errors p ps));
})

-- declarations one behind the other
abbrev pub all_at : {A : Type 0} → (A → List ℕ → DeclaredTree) → (A → List Lexeme) → List A → List ℕ → List DeclaredTree
all_at at shown [] ps = []
all_at at shown (x ∷ xs) ps = at x ps ∷ all_at at shown xs (past (shown x) ps)

abbrev pub types_at : List DeclaredType → List ℕ → List DeclaredTree
types_at = all_at declared_type_at declared_type

abbrev pub errors_at : List DeclaredError → List ℕ → List DeclaredTree
errors_at = all_at declared_error_at declared_error

abbrev pub procedures_at : List DeclaredError → List Procedure → List ℕ → List DeclaredTree
procedures_at errors = all_at (declared_procedure_at errors) (declared_procedure errors)

-- types, errors, procedures
abbrev pub declared_at : Interface → List ℕ → List DeclaredTree
declared_at i ps =
    let behind_types = past (flat_map declared_type i.types) ps in
    let behind_errors = past (flat_map declared_error i.errors) behind_types in
    types_at i.types ps ++ (errors_at i.errors behind_types ++ procedures_at i.errors i.procedures behind_errors)

-- the places of its numbers and of what it declares
abbrev pub at_number : List ℕ → List ℕ
at_number ps = next (next (next ps))

abbrev pub at_version : List ℕ → List ℕ
at_version ps = next (next (at_number ps))

abbrev pub at_declared : List ℕ → List ℕ
at_declared ps = next (next (next (at_version ps)))

abbrev pub interface_at : Interface → List ℕ → InterfaceTree
interface_at i ps = record {
  name = named_at i.name ps;
  number = numeral_at i.number (at_number ps);
  version = numeral_at i.version (at_version ps);
  declared = declared_at i (at_declared ps);
}
