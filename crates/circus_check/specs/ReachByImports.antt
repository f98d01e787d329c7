-- Which modules a module reaches by its imports, step by step.
use Rattle.std.specs.Prelude.{ℕ, List, slice_get, Contains}
use Rattle.circus_lang.specs.ModuleTree.{ModuleTree}
use Rattle.circus_check.specs.Meaning.{import_numbers}
use Rattle.circus_check.specs.Reach.{imports_of}

module _ (modules : List ModuleTree) where
  -- an import of the module of the first number is a good one, of the module of the second
  abbrev pub Imports : ℕ → ℕ → Type 0
  Imports i k = Contains (import_numbers modules i (imports_of (slice_get modules i))) k

  -- each module reaches itself, and what a module that it imports reaches
  pub data ReachesByImports : ℕ → ℕ → Type 0 where
    itself : (i : ℕ) → ReachesByImports i i
    through : (i k j : ℕ) → Imports i k → ReachesByImports k j → ReachesByImports i j
