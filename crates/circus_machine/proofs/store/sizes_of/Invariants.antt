use Rattle.std.proofs.Common.{◌≡◌, ◌++◌, map, drop}
use Rattle.circus_value.specs.ValueOf.{tree_of}
use Rattle.circus_value.specs.ExternalSize.{external_size}
use Rattle.circus_machine.proofs.store.sizes_of.Given as goal

-- the sizes of the values that are left come behind
abbrev pub invariant-loop-value : goal.invariant-loop-value
invariant-loop-value l = l.sizes.items ++ map external_size (map tree_of (drop l.value-index l.value-items)) ≡ map external_size l.values
