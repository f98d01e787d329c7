-- Variables in whose types every number is one of one word.
use Rattle.std.specs.Prelude.{List}
use Rattle.std.specs.List.{AllByRecursion}
use Rattle.circus_type.specs.InRange.{IsInRange}
use Rattle.circus_lang.specs.ModuleTree.{VariableTree}

abbrev pub AreVariablesInRange : List VariableTree → Type 0
AreVariablesInRange vs = AllByRecursion (λ (v : VariableTree). IsInRange v.shape) vs
