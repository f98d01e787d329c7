-- A module as a plain tree.
use Rattle.std.specs.Prelude.{Bool, List, map, Option}
use Rattle.circus_syntax.specs.TypeTree.{TypeTree}
use Rattle.circus_syntax.specs.TypeOf.{tree_of}
use Rattle.circus_syntax.specs.declared.named.Named.{Named}
use Rattle.circus_statement.specs.StatementTree.{StatementTree}
use Rattle.circus_lang.specs.declared.module_text.VariableText.{VariableText}
use Rattle.circus_lang.specs.declared.module_text.ProcedureText.{ProcedureText}
use Rattle.circus_lang.specs.declared.module_text.ModuleText.{ModuleText}

pub record VariableTree : Type 0 where
  pub name : Named
  pub shape : TypeTree

-- variables, and statements of some kind
pub record BodyOf (S : Type 0) : Type 0 where
  pub variables : List VariableTree
  pub statements : List S

pub record ProcedureOf (S : Type 0) : Type 0 where
  pub name : Named
  pub body : BodyOf S

-- a root has no interface and one procedure
pub record ModuleTree : Type 0 where
  pub root : Bool
  pub name : Named
  pub interface : Option Named
  pub imports : List Named
  pub variables : List VariableTree
  pub procedures : List (ProcedureOf StatementTree)

-- a variable, its type as a tree
abbrev pub variable_of : VariableText → VariableTree
variable_of v = record { name = v.name; shape = tree_of v.shape }

abbrev pub procedure_of : ProcedureText → ProcedureOf StatementTree
procedure_of p = record { name = p.name; body = record { variables = map variable_of p.variables; statements = p.statements } }

abbrev pub module_of : ModuleText → ModuleTree
module_of m = record {
  root = m.root;
  name = m.name;
  interface = m.interface;
  imports = m.imports;
  variables = map variable_of m.variables;
  procedures = map procedure_of m.procedures;
}
