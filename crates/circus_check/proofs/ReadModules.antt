-- What holds of each module that was read.
use Rattle.std.proofs.Common.{◌≡◌, Bool, true, false, List, [], ◌∷◌, map, refl, sym, subst, Option, Some, None}
use Rattle.std.specs.List.{AllByRecursion}
use Rattle.circus_syntax.specs.declared.named.Named.{Named}
use Rattle.circus_syntax.specs.Spelling.{IsEach}
use Rattle.circus_statement.specs.StatementTree.{StatementTree, statement_trees}
use Rattle.circus_body.specs.Regular.{StatementsAreOfBytes}
use Rattle.circus_lang.specs.ModuleStanding.{procedure_stands_for, module_stands_for}
use Rattle.circus_lang.specs.ModuleTree.{ModuleTree, ProcedureOf}
use Rattle.circus_lang.specs.WrittenModule.{WrittenProcedure, WrittenModule, serving, root, IsVariable, IsProcedure, IsModule}
use Rattle.circus_check.specs.Read.{IsRead}
use Rattle.circus_check.proofs.OfBytes.{listed_of_bytes}

pub record ProcedureIsRead (p : ProcedureOf StatementTree) : Type 0 where
  pub variables : IsEach IsVariable p.body.variables
  pub bytes : StatementsAreOfBytes (statement_trees p.body.statements)

-- a root has no interface and one procedure, a module an interface
abbrev pub HasShape : Bool → Option Named → List (ProcedureOf StatementTree) → Type 0
HasShape true interface ps = (interface ≡ None) × (p : ProcedureOf StatementTree) × (ps ≡ p ∷ [])
HasShape false interface ps = (name : Named) × (interface ≡ Some name)

pub record ModuleIsRead (m : ModuleTree) : Type 0 where
  pub variables : IsEach IsVariable m.variables
  pub procedures : AllByRecursion ProcedureIsRead m.procedures
  pub shape : HasShape m.root m.interface m.procedures

procedures_are_read : (ps : List WrittenProcedure) → IsEach IsProcedure ps → AllByRecursion ProcedureIsRead (map procedure_stands_for ps)
procedures_are_read [] good = tt
procedures_are_read (p ∷ ps) good =
    (record { variables = good.0.1.0; bytes = listed_of_bytes p.body.statements good.0.1.1 }, procedures_are_read ps good.1)

of_written : (w : WrittenModule) → IsModule w → ModuleIsRead (module_stands_for w)
of_written (serving n i ns vs ps) good = record { variables = good.3; procedures = procedures_are_read ps good.4; shape = (i, refl) }
of_written (root n ns vs at b) good = record { variables = good.2; procedures = (record { variables = good.3.0; bytes = listed_of_bytes b.statements good.3.1 }, tt); shape = (refl, _, refl) }

pub is_read : (m : ModuleTree) → IsRead m → ModuleIsRead m
is_read m read = subst ModuleIsRead (sym read.stands) (of_written read.written read.good)
