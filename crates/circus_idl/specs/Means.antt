-- What an interface means, declaration by declaration.
use Rattle.std.specs.Prelude.{◌≡◌, ℕ, List, [], ◌∷◌, ◌++◌, map, Option, Some, None, unwrap_or}
use Rattle.circus_value.specs.ShapeTree.{ShapeTree, FieldTree, boolean}
use Rattle.circus_value.specs.ShapeOf as shapes
use Rattle.circus_syntax.specs.declared.named.Named.{Named}
use Rattle.circus_syntax.specs.declared.interface_text.FieldsText.{FieldsText}
use Rattle.circus_syntax.specs.declared.interface_text.ErrorText.{ErrorText}
use Rattle.circus_syntax.specs.declared.interface_text.ProcedureText.{ProcedureText}
use Rattle.circus_syntax.specs.TypeTree.{group_trees}
use Rattle.circus_syntax.specs.InterfaceTree.{DeclaredTree, a_type, an_error, a_procedure, InterfaceTree}
use Rattle.circus_idl.specs.declared.interface.DeclaredType.{DeclaredType}
use Rattle.circus_idl.specs.declared.interface.DeclaredError.{DeclaredError}
use Rattle.circus_idl.specs.declared.interface.Procedure.{Procedure}
use Rattle.circus_idl.specs.declared.interface.Interface.{Interface}
use Rattle.circus_idl.specs.Meaning.{shape_of_type, written_groups, standing_for}

-- a declared type, its shape as a tree
pub record NamedShape : Type 0 where
  pub name : List ℕ
  pub shape : ShapeTree

abbrev pub named_shape : DeclaredType → NamedShape
named_shape t = record { name = t.name; shape = shapes.tree_of t.shape }

-- declared types, errors and procedures
pub record Meant : Type 0 where
  pub types : List NamedShape
  pub errors : List DeclaredError
  pub procedures : List Procedure

-- the ones, and then the others
abbrev pub and_then : Meant → Meant → Meant
and_then m o = record { types = m.types ++ o.types; errors = m.errors ++ o.errors; procedures = m.procedures ++ o.procedures }

abbrev pub nothing_meant : Meant
nothing_meant = record { types = []; errors = []; procedures = [] }

-- the fields of a list, none where it isn't written
abbrev pub fields_meant : (List ℕ → ShapeTree) → Option FieldsText → List FieldTree
fields_meant form None = []
fields_meant form (Some f) = written_groups form (group_trees f.groups)

-- the numbers of the errors of these names
abbrev pub numbers_meant : (List ℕ → Option ℕ) → List Named → List ℕ
numbers_meant errors names = map (λ (n : Named). unwrap_or (errors n.name) 0) names

abbrev pub reports_meant : (List ℕ → Option ℕ) → Option (List Named) → List ℕ
reports_meant errors None = []
reports_meant errors (Some names) = numbers_meant errors names

abbrev pub error_meant : (List ℕ → ShapeTree) → ErrorText → DeclaredError
error_meant form e = record { name = e.name.name; number = e.number.value; arguments = fields_meant form e.arguments }

abbrev pub procedure_meant : (List ℕ → ShapeTree) → (List ℕ → Option ℕ) → ProcedureText → Procedure
procedure_meant form errors p = record {
  name = p.name.name;
  number = p.number.value;
  arguments = fields_meant form p.arguments;
  results = fields_meant form p.results;
  reports = reports_meant errors p.reports;
}

-- one declaration, where this is what the names of types and errors before it stand for
abbrev pub declared_meant : (List ℕ → ShapeTree) → (List ℕ → Option ℕ) → DeclaredTree → Meant
declared_meant form errors (a_type name t) = record { types = record { name = name.name; shape = shape_of_type form t } ∷ []; errors = []; procedures = [] }
declared_meant form errors (an_error e) = record { types = []; errors = error_meant form e ∷ []; procedures = [] }
declared_meant form errors (a_procedure p) = record { types = []; errors = []; procedures = procedure_meant form errors p ∷ [] }

-- what the names of types stand for behind a declaration, and those of errors
abbrev pub forms_behind : (List ℕ → ShapeTree) → DeclaredTree → List ℕ → ShapeTree
forms_behind form (a_type name t) = standing_for name.name (shape_of_type form t) form
forms_behind form (an_error e) = form
forms_behind form (a_procedure p) = form

abbrev pub errors_behind : (List ℕ → Option ℕ) → DeclaredTree → List ℕ → Option ℕ
errors_behind errors (a_type name t) = errors
errors_behind errors (an_error e) = standing_for e.name.name (Some e.number.value) errors
errors_behind errors (a_procedure p) = errors

-- declarations one behind the other
abbrev pub declarations_meant : (List ℕ → ShapeTree) → (List ℕ → Option ℕ) → List DeclaredTree → Meant
declarations_meant form errors [] = nothing_meant
declarations_meant form errors (d ∷ ds) =
    and_then (declared_meant form errors d) (declarations_meant (forms_behind form d) (errors_behind errors d) ds)

-- what an interface declares
abbrev pub meant_of : Interface → Meant
meant_of i = record { types = map named_shape i.types; errors = i.errors; procedures = i.procedures }

-- the interface that a tree means: its name and numbers, and what is declared in it
pub record Means (tree : InterfaceTree) (i : Interface) : Type 0 where
  pub name : i.name ≡ tree.name.name
  pub number : i.number ≡ tree.number.value
  pub version : i.version ≡ tree.version.value
  pub declared : meant_of i ≡ declarations_meant (λ _. boolean) (λ _. None) tree.declared
