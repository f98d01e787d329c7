use Rattle.std.proofs.Common.{◌≡◌, map, take}
use Rattle.std.specs.Prelude.{Some}
use Rattle.circus_place.specs.Seen.Table.{pointed_to}
use Rattle.circus_place.proofs.compile.Compiler.constant_everywhere.Given as goal

abbrev pub invariant-loop : goal.invariant-loop
invariant-loop l = pointed_to l.values.items ≡ map (λ t. Some l.constant) (take l.index l.items)
