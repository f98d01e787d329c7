-- What names of interfaces and modules stand for.
use Rattle.std.specs.Prelude.{ℕ, Bool, false, cond, nat_lt, bytes_eq, List, Option, Some, None, slice_get}
use Rattle.std.specs.List.{position_from}
use Rattle.circus_syntax.specs.declared.named.Named.{Named}
use Rattle.circus_idl.specs.declared.interface.Interface.{Interface}
use Rattle.circus_lang.specs.ModuleTree.{ModuleTree}

-- the number of the interface of this name
abbrev pub interface_named : List Interface → List ℕ → Option ℕ
interface_named interfaces name = position_from (λ (i : Interface). bytes_eq i.name name) 0 interfaces

-- the interface of this name
abbrev pub at_number : {X : Type 0} → List X → Option ℕ → Option X
at_number xs None = None
at_number xs (Some n) = slice_get xs n

abbrev pub interface_called : List Interface → Named → Option Interface
interface_called interfaces name = at_number interfaces (interface_named interfaces name.name)

-- the number of the first module of this name
abbrev pub module_named : List ModuleTree → List ℕ → Option ℕ
module_named modules name = position_from (λ (m : ModuleTree). bytes_eq m.name.name name) 0 modules

-- what the name of an import stands for
pub data Import : Type 0 where
  -- the earlier module of this number, which is no root
  good : ℕ → Import
  -- the importing module itself, or a later one
  forward : Import
  -- a root, or no module
  no_module : Import

abbrev pub is_root : Option ModuleTree → Bool
is_root None = false
is_root (Some m) = m.root

abbrev pub import_at : List ModuleTree → ℕ → Option ℕ → Import
import_at modules importing None = no_module
import_at modules importing (Some k) = cond (is_root (slice_get modules k)) no_module (cond (nat_lt k importing) (good k) forward)

-- where the module of this number imports it
abbrev pub import_of : List ModuleTree → ℕ → Named → Import
import_of modules importing name = import_at modules importing (module_named modules name.name)
