use Rattle.std.proofs.Common.{drop, map}
use Rattle.circus_fault.specs.Seen.Tables.{known_of}
use Rattle.circus_lang.specs.ModuleTree.{ModuleTree, module_of}
use Rattle.circus_check.proofs.FirstOfName.{Tells}
use Rattle.circus_check.proofs.naming.module_numbers.Given as goal

abbrev pub invariant-loop-number : goal.invariant-loop-number
invariant-loop-number l = Tells (λ (m : ModuleTree). m.name.name) (known_of l.numbers) l.number (map module_of (drop l.number l.modules)) (map module_of l.modules)
