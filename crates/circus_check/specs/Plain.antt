-- All faults of modules, those of every body among them, and where they stand in the order of the text.
use Rattle.std.specs.Prelude.{◌≡◌, ℕ, suc, ◌<◌, Bool, List, [], ◌∷◌, ◌++◌, Contains, take, None}
use Rattle.circus_statement.specs.StatementTree.{StatementTree}
use Rattle.circus_fault.specs.declared.fault.Fault.{Fault}
use Rattle.circus_fault.specs.Least.{least_from}
use Rattle.circus_type.specs.Inside.{no_name, also_name}
use Rattle.circus_type.specs.Scale.{written_out}
use Rattle.circus_resolve.specs.declared.cause.CheckCause.{CheckCause}
use Rattle.circus_resolve.specs.Causes.{rank}
use Rattle.circus_resolve.specs.Faults.{Faults}
use Rattle.circus_idl.specs.declared.interface.Interface.{Interface}
use Rattle.circus_lang.specs.ModuleTree.{ModuleTree, ProcedureOf}
use Rattle.circus_limits.specs.Limits.{most_modules}
use Rattle.circus_check.specs.Faults.{faults, forms, variables_parts, procedure_faults, body_faults, head_faults}

-- each of some faults stands before each of others
abbrev pub AreBefore : Faults → Faults → Type 0
AreBefore earlier later = (f g : Fault CheckCause) → Contains earlier f → Contains later g → f.place < g.place

module _ (interfaces : List Interface) (modules : List ModuleTree) where
  module _ (i : ℕ) (m : ModuleTree) where
    -- procedures behind so many parts and earlier procedures
    abbrev pub procedures_all : ℕ → (List ℕ → Bool) → List (ProcedureOf StatementTree) → Faults
    procedures_all parts earlier [] = []
    procedures_all parts earlier (p ∷ ps) =
        (procedure_faults interfaces modules i m parts earlier p ++ body_faults interfaces modules i m p)
        ++ procedures_all (variables_parts written_out (forms interfaces modules i m) parts p.body.variables) (also_name p.name.name earlier) ps

    abbrev pub module_all : Faults
    module_all = head_faults interfaces modules i m ++ procedures_all (variables_parts written_out (forms interfaces modules i m) 0 m.variables) no_name m.procedures

    -- what is wrong in a body stands behind all that is wrong before it
    abbrev pub ProceduresInOrder : Faults → ℕ → (List ℕ → Bool) → List (ProcedureOf StatementTree) → Type 0
    ProceduresInOrder found parts earlier [] = Unit {0}
    ProceduresInOrder found parts earlier (p ∷ ps) =
        AreBefore (found ++ procedure_faults interfaces modules i m parts earlier p) (body_faults interfaces modules i m p)
        × ProceduresInOrder (found ++ (procedure_faults interfaces modules i m parts earlier p ++ body_faults interfaces modules i m p))
        (variables_parts written_out (forms interfaces modules i m) parts p.body.variables) (also_name p.name.name earlier) ps

    abbrev pub IsInOrder : Faults → Type 0
    IsInOrder found = ProceduresInOrder (found ++ head_faults interfaces modules i m) (variables_parts written_out (forms interfaces modules i m) 0 m.variables) no_name m.procedures

  -- modules from a number on
  abbrev pub modules_all : ℕ → List ModuleTree → Faults
  modules_all i [] = []
  modules_all i (m ∷ ms) = module_all i m ++ modules_all (suc i) ms

  abbrev pub ModulesInOrder : Faults → ℕ → List ModuleTree → Type 0
  ModulesInOrder found i [] = Unit {0}
  ModulesInOrder found i (m ∷ ms) = IsInOrder i m found × ModulesInOrder (found ++ module_all i m) (suc i) ms

  -- all modules up to the first that is one too many
  abbrev pub all : Faults
  all = modules_all 0 (take (suc most_modules) modules)

  abbrev pub AreInOrder : Type 0
  AreInOrder = ModulesInOrder [] 0 (take (suc most_modules) modules)

  -- where modules are in the order of their text, bodies that aren't looked into don't change which fault is the least,
  -- nor whether there is one
  abbrev pub HaveSameLeast : Type 0
  HaveSameLeast = AreInOrder → least_from rank None (faults interfaces modules) ≡ least_from rank None all
