use Rattle.std.proofs.Common.{map, arith, ap}
use Rattle.std.proofs.lemmas.List.{drop_all}
use Rattle.circus_value.specs.ValueTree.{value_trees}
use Rattle.circus_value.specs.ValueOf.{tree_of}
use Rattle.circus_value.specs.ExternalSize.{external_sizes}
use Rattle.circus_value.proofs.size.size_of_all.Goals as goal

pub returns : goal.returns
returns c =
    let none = ap (λ xs. external_sizes (value_trees (map tree_of xs))) (drop_all c.loop-value.value-index c.args.values.now c.loop-value-test.false) in
    omega (arith, c.loop-value.invariant.whole, c.loop-value.invariant.counted, none)
