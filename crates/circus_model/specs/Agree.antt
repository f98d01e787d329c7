-- Which modules make a program.
use Rattle.std.specs.Prelude.{ℕ, ◌≡◌, ◌<◌, ◌≤◌, true, false, List, [], ◌∷◌, Contains, Some, slice_get}
use Rattle.circus_model.specs.declared.signature.Import.{Import}
use Rattle.circus_model.specs.declared.signature.ProcedureShape.{ProcedureShape}
use Rattle.circus_limits.specs.Limits.{most_bytes}
use Rattle.circus_model.specs.Behaviour.{Behaviour, IsModule}

-- the module at a place
abbrev pub IsAt : List Behaviour → ℕ → Behaviour → Type 0
IsAt program place b = slice_get program place ≡ Some b

-- each module keeps to the laws
abbrev pub AreModules : List Behaviour → Type 0
AreModules program = (place : ℕ) (b : Behaviour) → IsAt program place b → IsModule b

-- there is a root at a place
pub record IsRoot (program : List Behaviour) (place : ℕ) : Type 0 where
  pub behaviour : Behaviour
  pub there : IsAt program place behaviour
  pub root : behaviour.declared.root ≡ true

-- by its imports, and theirs, a module comes to another
pub data Reaches (program : List Behaviour) : ℕ → ℕ → Type 0 where
  itself : (place : ℕ) → Reaches program place place
  by_import : (place end : ℕ) (b : Behaviour) (i : Import) → IsAt program place b → Contains b.declared.imports i → Reaches program i.«module» end → Reaches program place end

-- the import names an earlier module that is no root, with its procedures
pub record IsOfEarlier (program : List Behaviour) (importer : ℕ) (i : Import) : Type 0 where
  pub imported : Behaviour
  pub there : IsAt program i.«module» imported
  pub earlier : i.«module» < importer
  pub no_root : imported.declared.root ≡ false
  pub procedures : i.procedures ≡ imported.declared.procedures

-- procedure 0 alone, without arguments, results and errors
abbrev pub main_alone : List ProcedureShape
main_alone = record { number = 0; arguments = []; results = []; errors = [] } ∷ []

-- the modules agree
pub record Agree (program : List Behaviour) : Type 0 where
  pub imports : (place : ℕ) (b : Behaviour) (i : Import) → IsAt program place b → Contains b.declared.imports i → IsOfEarlier program place i
  pub mains : (place : ℕ) (b : Behaviour) → IsAt program place b → b.declared.root ≡ true → b.declared.procedures ≡ main_alone
  pub limits : (place : ℕ) (b : Behaviour) → IsAt program place b → b.declared.limit ≤ most_bytes
  pub one_root : (one other place : ℕ) → IsRoot program one → IsRoot program other → Reaches program one place → Reaches program other place → one ≡ other
