use Rattle.std.proofs.Common.{◌≡◌, map, take}
use Rattle.std.specs.Prelude.{is_some}
use Rattle.circus_place.specs.Seen.Table.{pointed_to}
use Rattle.circus_place.proofs.compile.are_there.Given as goal

abbrev pub invariant-loop-value : goal.invariant-loop-value
invariant-loop-value l = l.has ≡ map is_some (pointed_to (take l.value-index l.values))
