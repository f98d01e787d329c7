-- What modules mean: each name replaced by the number of what it names.
use Rattle.std.specs.Prelude.{ℕ, suc, Bool, List, [], ◌∷◌, ◌++◌, map, Option, Some, None, bytes_eq, cond}
use Rattle.circus_value.specs.ShapeTree.{FieldTree}
use Rattle.circus_syntax.specs.declared.named.Named.{Named}
use Rattle.circus_statement.specs.StatementTree as s
use Rattle.circus_statement.specs.StatementTree.{StatementTree}
use Rattle.circus_checked.specs.StatementTree as c
use Rattle.circus_body.specs.Meaning.{all_do}
use Rattle.circus_idl.specs.declared.interface.Procedure.{Procedure}
use Rattle.circus_idl.specs.declared.interface.Interface.{Interface}
use Rattle.circus_lang.specs.ModuleTree.{ModuleTree, ProcedureOf}
use Rattle.circus_check.specs.Naming.{Import, good, interface_named, import_of}
use Rattle.circus_check.specs.Faults.{interface, forms, fields_of, context}

-- a body and a module as they are told by clauses
pub record BodyMeant : Type 0 where
  pub locals : List FieldTree
  pub statements : List c.StatementTree

pub record ModuleMeant : Type 0 where
  pub name : List ℕ
  pub root : Bool
  pub interface : Option ℕ
  pub imports : List ℕ
  pub variables : List FieldTree
  pub bodies : List BodyMeant

-- the numbers of good imports
abbrev pub import_number : Import → List ℕ
import_number (good k) = k ∷ []
import_number _ = []

abbrev pub import_numbers : List ModuleTree → ℕ → List Named → List ℕ
import_numbers modules i [] = []
import_numbers modules i (n ∷ ns) = import_number (import_of modules i n) ++ import_numbers modules i ns

abbrev pub interface_number : List Interface → Option Named → Option ℕ
interface_number interfaces None = None
interface_number interfaces (Some n) = interface_named interfaces n.name

-- the first procedure of a module of this name
abbrev pub body_named : List (ProcedureOf StatementTree) → List ℕ → List (ProcedureOf StatementTree)
body_named [] name = []
body_named (p ∷ ps) name = cond (bytes_eq p.name.name name) (p ∷ []) (body_named ps name)

-- the procedures of a module in the order of its interface
abbrev pub in_order : List Procedure → List (ProcedureOf StatementTree) → List (ProcedureOf StatementTree)
in_order [] procedures = []
in_order (p ∷ ps) procedures = body_named procedures p.name ++ in_order ps procedures

abbrev pub in_interface_order : Option Interface → List (ProcedureOf StatementTree) → List (ProcedureOf StatementTree)
in_interface_order None procedures = procedures
in_interface_order (Some i) procedures = in_order i.procedures procedures

module _ (interfaces : List Interface) (modules : List ModuleTree) (i : ℕ) (m : ModuleTree) where
  abbrev pub body_meant : ProcedureOf StatementTree → BodyMeant
  body_meant p = record {
    locals = fields_of (forms interfaces modules i m) p.body.variables;
    statements = all_do (context interfaces modules i m p) (s.statement_trees p.body.statements);
  }

  abbrev pub module_meant : ModuleMeant
  module_meant = record {
    name = m.name.name;
    root = m.root;
    interface = interface_number interfaces m.interface;
    imports = import_numbers modules i m.imports;
    variables = fields_of (forms interfaces modules i m) m.variables;
    bodies = map body_meant (in_interface_order (interface interfaces modules i m) m.procedures);
  }

-- modules from a number on
abbrev pub modules_meant : List Interface → List ModuleTree → ℕ → List ModuleTree → List ModuleMeant
modules_meant interfaces modules i [] = []
modules_meant interfaces modules i (m ∷ ms) = module_meant interfaces modules i m ∷ modules_meant interfaces modules (suc i) ms
