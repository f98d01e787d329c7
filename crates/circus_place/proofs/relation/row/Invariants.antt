use Rattle.std.proofs.Common.{◌≡◌, map, take}
use Rattle.std.specs.Option.{option_copied}
use Rattle.circus_place.specs.Seen.Table.{pointed_to}
use Rattle.circus_place.specs.Value.{is_related}
use Rattle.circus_place.proofs.relation.row.Given as goal

abbrev pub invariant-loop-value : goal.invariant-loop-value
invariant-loop-value l = l.flags ≡ map (is_related l.comparison (option_copied l.left)) (pointed_to (take l.value-index l.right))
