use Rattle.std.proofs.Common.{◌≡◌, drop, map}
use Rattle.circus_fault.specs.Known.{numbers_behind}
use Rattle.circus_fault.specs.Seen.Tables.{known_of}
use Rattle.circus_lang.specs.ModuleTree.{ModuleTree, module_of}
use Rattle.circus_deployment.specs.Nodes.{module_numbers}
use Rattle.circus_deployment.proofs.troupes.module_numbers.Given as goal

-- the modules that are left, behind those so far
abbrev pub invariant-loop-number : goal.invariant-loop-number
invariant-loop-number l = numbers_behind (λ (m : ModuleTree). m.name.name) (known_of l.numbers) l.number (map module_of (drop l.number l.modules)) ≡ module_numbers (map module_of l.modules)
