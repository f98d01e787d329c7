use Rattle.std.proofs.Common.{◌≡◌, ◌++◌, drop, map}
use Rattle.circus_lang.specs.ModuleTree.{module_of}
use Rattle.circus_config.specs.Told.{module_names}
use Rattle.circus_config.proofs.checking.names_of.Given as goal

-- the names so far, and those of the modules that are left
abbrev pub invariant-loop-text : goal.invariant-loop-text
invariant-loop-text l = l.names ++ module_names (map module_of (drop l.text-index l.modules)) ≡ module_names (map module_of l.modules)
