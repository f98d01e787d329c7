use Rattle.std.proofs.Common.{◌≡◌, map, take}
use Rattle.circus_place.specs.Seen.Table.{constant_at, pointed_to}
use Rattle.circus_place.proofs.compile.Compiler.attribute.Given as goal

abbrev pub invariant-loop-machine : goal.invariant-loop-machine
invariant-loop-machine l = pointed_to l.values.items ≡ map (λ t. constant_at t l.name) (take l.machine-index l.machine-items)
