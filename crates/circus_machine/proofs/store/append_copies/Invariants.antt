use Rattle.std.proofs.Common.{◌≡◌, ◌++◌, map, drop}
use Rattle.circus_value.specs.ValueOf.{tree_of}
use Rattle.circus_machine.proofs.store.append_copies.Given as goal

-- the values that are left come behind
abbrev pub invariant-loop-value : goal.invariant-loop-value
invariant-loop-value l = l.values ++ map tree_of (drop l.value-index l.value-items) ≡ l.fn.values ++ l.more
