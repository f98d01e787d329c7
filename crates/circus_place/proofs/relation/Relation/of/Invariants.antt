use Rattle.std.proofs.Common.{◌≡◌, map, take}
use Rattle.circus_place.specs.Seen.Table.{pointed_to}
use Rattle.circus_place.specs.Value.{is_related}
use Rattle.circus_place.proofs.relation.Relation.of.Given as goal

abbrev pub invariant-loop-value : goal.invariant-loop-value
invariant-loop-value l = l.rows ≡ map (λ a. map (is_related l.comparison a) (pointed_to l.right)) (pointed_to (take l.value-index l.left))
