use Rattle.std.proofs.Common.{◌≡◌, ◌++◌, drop, map}
use Rattle.circus_fault.specs.Seen.Tables.{known_of}
use Rattle.circus_lang.specs.ModuleTree.{module_of}
use Rattle.circus_deployment.specs.Meaning.{troupes_meant}
use Rattle.circus_deployment.specs.Seen.{numbered_as}
use Rattle.circus_deployment.proofs.meaning.troupes.Given as goal

-- what is made so far, and of what is left
abbrev pub invariant-loop-text : goal.invariant-loop-text
invariant-loop-text l =
    l.troupes ++ troupes_meant (map numbered_as l.numbered) (known_of l.numbers) (map module_of (drop l.text-index l.modules)) ≡ troupes_meant (map numbered_as l.numbered) (known_of l.numbers) (map module_of l.modules)
