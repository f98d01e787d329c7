use Rattle.std.proofs.Common.{◌≡◌, None, map}
use Rattle.circus_lang.specs.ModuleTree.{module_of}
use Rattle.circus_check.specs.Reach.{shared_below}
use Rattle.circus_check.proofs.reach.Reach.first_shared.Given as goal

abbrev pub invariant-loop-to : goal.invariant-loop-to
invariant-loop-to l = shared_below (map module_of l.naming.modules.now) l.second l.to ≡ None
