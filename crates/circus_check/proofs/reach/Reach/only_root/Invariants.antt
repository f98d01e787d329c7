use Rattle.std.proofs.Common.{◌≡◌, map}
use Rattle.std.specs.Prelude.{option_to_list}
use Rattle.circus_lang.specs.ModuleTree.{module_of}
use Rattle.circus_check.specs.Reach.{roots_below}
use Rattle.circus_check.proofs.reach.Reach.only_root.Given as goal

-- the roots so far are the one that is kept
abbrev pub invariant-loop-number : goal.invariant-loop-number
invariant-loop-number l = roots_below (map module_of l.naming.modules.now) l.number l.to ≡ option_to_list l.first
