-- Which modules a root reaches, and which of them two roots reach.
use Rattle.std.specs.Prelude.{ℕ, zero, suc, ◌+◌, Bool, false, ◌&&◌, ◌||◌, ◌==◌, cond, List, [], ◌∷◌, ◌++◌, Option, Some, None, slice_get}
use Rattle.circus_syntax.specs.declared.named.Named.{Named}
use Rattle.circus_lang.specs.ModuleTree.{ModuleTree}
use Rattle.circus_check.specs.Naming.{Import, good, forward, no_module, import_of, is_root}

-- what an import reaches, where this is what modules reach
abbrev pub by_import : (ℕ → ℕ → Bool) → Import → ℕ → Bool
by_import reaches (good k) j = reaches k j
by_import reaches forward j = false
by_import reaches no_module j = false

abbrev pub by_imports : (ℕ → ℕ → Bool) → List ModuleTree → ℕ → List Named → ℕ → Bool
by_imports reaches modules i [] j = false
by_imports reaches modules i (n ∷ ns) j = by_import reaches (import_of modules i n) j || by_imports reaches modules i ns j

abbrev pub imports_of : Option ModuleTree → List Named
imports_of None = []
imports_of (Some m) = m.imports

-- of the modules below a number: each reaches itself, and what its good imports reach
abbrev pub reaches_below : List ModuleTree → ℕ → ℕ → ℕ → Bool
reaches_below modules zero i j = false
reaches_below modules (suc n) i j =
    cond (i == n) ((n == j) || by_imports (reaches_below modules n) modules n (imports_of (slice_get modules n)) j) (reaches_below modules n i j)

abbrev pub reaches : List ModuleTree → ℕ → ℕ → Bool
reaches modules i j = reaches_below modules (i + 1) i j

-- the roots below a number that reach a module, in order
abbrev pub roots_below : List ModuleTree → ℕ → ℕ → List ℕ
roots_below modules zero j = []
roots_below modules (suc n) j = roots_below modules n j ++ cond (is_root (slice_get modules n) && reaches modules n j) (n ∷ []) []

-- the one root of a list of one
abbrev pub only : List ℕ → Option ℕ
only [] = None
only (r ∷ []) = Some r
only (r ∷ s ∷ rs) = None

-- the first of two roots that reach a module, of which this is the second
abbrev pub first_root : List ModuleTree → ℕ → ℕ → Option ℕ
first_root modules second j = cond (is_root (slice_get modules second) && reaches modules second j) (only (roots_below modules second j)) None

-- a module with the first of the two roots that reach it
pub record Shared : Type 0 where
  pub «module» : ℕ
  pub first : ℕ

abbrev pub shared_or : Option ℕ → ℕ → Option Shared → Option Shared
shared_or None j other = other
shared_or (Some r) j other = Some (record { «module» = j; first = r })

abbrev pub or_shared : Option Shared → Option Shared → Option Shared
or_shared None other = other
or_shared (Some s) other = Some s

-- the lowest such module below a number
abbrev pub shared_below : List ModuleTree → ℕ → ℕ → Option Shared
shared_below modules second zero = None
shared_below modules second (suc j) = or_shared (shared_below modules second j) (shared_or (first_root modules second j) j None)

-- the lowest module of which this root is the second that reaches it
abbrev pub shared_at : List ModuleTree → ℕ → Option Shared
shared_at modules second = shared_below modules second second
