use Rattle.std.proofs.Common.{◌≡◌, ◌++◌, map, drop}
use Rattle.circus_value.specs.ValueOf.{tree_of}
use Rattle.circus_value.specs.ValueTree.{value_trees}
use Rattle.circus_value.specs.Seen.ValueWeight.{weight, weights}
use Rattle.circus_external.specs.Spelling.{spelling_of_all}
use Rattle.circus_external.proofs.writing.+spelling.Given as goal

-- what stands there and what is left make up the whole
abbrev pub invariant-spell_all-loop-value : goal.invariant-spell_all-loop-value
invariant-spell_all-loop-value l =
    l.out ++ spelling_of_all (map tree_of (drop l.value-index l.value-items)) ≡ l.fn.out ++ spelling_of_all l.values

abbrev pub decreases-spell : goal.decreases-spell
decreases-spell l = weight (tree_of l.value.now)

abbrev pub decreases-spell_all : goal.decreases-spell_all
decreases-spell_all l = weights (value_trees l.values.now)
