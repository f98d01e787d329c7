-- Which tree a written module stands for: its statements are those that they stand for.
use Rattle.std.specs.Prelude.{ℕ, true, false, [], ◌∷◌, map, Some, None, codes}
use Rattle.circus_syntax.specs.declared.named.Named.{Named}
use Rattle.circus_statement.specs.StatementTree.{StatementTree}
use Rattle.circus_statement.specs.StatementStanding as statement
use Rattle.circus_lang.specs.ModuleTree.{BodyOf, ProcedureOf, ModuleTree}
use Rattle.circus_lang.specs.WrittenModule.{WrittenBody, WrittenProcedure, WrittenModule, serving, root}

abbrev pub body_stands_for : WrittenBody → BodyOf StatementTree
body_stands_for b = record { variables = b.variables; statements = map statement.stands_for b.statements }

abbrev pub procedure_stands_for : WrittenProcedure → ProcedureOf StatementTree
procedure_stands_for p = record { name = p.name; body = body_stands_for p.body }

-- the procedure of a root is named by its word MAIN
abbrev pub main_at : ℕ → Named
main_at at = record { name = codes "MAIN"; at = at }

abbrev pub main_stands_for : ℕ × WrittenBody → ProcedureOf StatementTree
main_stands_for x = record { name = main_at x.0; body = body_stands_for x.1 }

abbrev pub module_stands_for : WrittenModule → ModuleTree
module_stands_for (serving n i ns vs ps) = record {
  root = false;
  name = n;
  interface = Some i;
  imports = ns;
  variables = vs;
  procedures = map procedure_stands_for ps;
}
module_stands_for (root n ns vs at b) = record {
  root = true;
  name = n;
  interface = None;
  imports = ns;
  variables = vs;
  procedures = main_stands_for (at, b) ∷ [];
}
