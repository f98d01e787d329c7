use Rattle.std.proofs.Common.{◌≡◌, ◌+◌, ◌-◌, ◌^◌, ◌≤◌, min, drop, map}
use Rattle.circus_value.specs.ValueTree.{value_trees}
use Rattle.circus_value.specs.ValueOf.{tree_of}
use Rattle.circus_value.specs.ExternalSize.{external_sizes}
use Rattle.circus_value.proofs.size.size_of_all.Given as goal

-- what was counted and what is left make up the whole
abbrev pub invariant-loop-value : goal.invariant-loop-value
invariant-loop-value l = record {
  whole :
      min (l.total + external_sizes (value_trees (map tree_of (drop l.value-index l.values)))) (2 ^ 64 - 1)
      ≡ min (external_sizes (value_trees (map tree_of l.values))) (2 ^ 64 - 1);
  counted : l.total ≤ 2 ^ 64 - 1;
}
