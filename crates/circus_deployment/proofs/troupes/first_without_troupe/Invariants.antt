use Rattle.std.proofs.Common.{◌≡◌, drop, map}
use Rattle.circus_fault.specs.Seen.Tables.{known_of}
use Rattle.circus_lang.specs.ModuleTree.{module_of}
use Rattle.circus_deployment.specs.Faults.{first_without_troupe}
use Rattle.circus_deployment.proofs.troupes.first_without_troupe.Given as goal

-- the first one is among the modules that are left
abbrev pub invariant-loop-text : goal.invariant-loop-text
invariant-loop-text l = first_without_troupe (known_of l.troupes) (map module_of (drop l.text-index l.modules)) ≡ first_without_troupe (known_of l.troupes) (map module_of l.modules)
