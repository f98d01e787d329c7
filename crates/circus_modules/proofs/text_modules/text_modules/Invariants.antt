use Rattle.std.proofs.Common.{◌≡◌, map}
use Rattle.std.specs.List.{AllByRecursion}
use Rattle.std.specs.Vec.Iter.{into_iter_items}
use Rattle.circus_check.specs.Resolved.{module_as}
use Rattle.circus_modules.specs.Behaviours.{behaviour_of}
use Rattle.circus_modules.specs.Seen.Made.{CanBeMade}
use Rattle.circus_modules.proofs.Modules.{seen_as}
use Rattle.circus_modules.proofs.text_modules.text_modules.Given as goal

-- those so far do what is meant, and those that are left can be made
abbrev pub invariant-loop-module : goal.invariant-loop-module
invariant-loop-module l = record {
  made : map seen_as l.made.items ≡ map (behaviour_of l.limit l.interfaces l.implemented) (map module_as l.yielded);
  left : AllByRecursion (CanBeMade l.limit l.interfaces l.implemented) (map module_as (into_iter_items l.module-iterator));
}
