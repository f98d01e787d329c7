use Rattle.std.proofs.Common.{map}
use Rattle.std.specs.List.{AllByRecursion}
use Rattle.std.specs.Vec.Iter.{into_iter_items}
use Rattle.circus_check.specs.Resolved.{body_as}
use Rattle.circus_modules.specs.Seen.Made.{AreMade, IsSmall}
use Rattle.circus_modules.proofs.text_modules.compile_bodies.Given as goal

-- those so far are made, and those that are left are small
abbrev pub invariant-loop-body : goal.invariant-loop-body
invariant-loop-body l = record {
  made : AreMade (map body_as l.yielded) l.made;
  left : AllByRecursion IsSmall (map body_as (into_iter_items l.body-iterator));
}
