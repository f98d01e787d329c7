use Rattle.std.proofs.Common.{◌<◌, ◌&&◌, ◌+◌, length, drop, map, arith, sym, ap, ◌∙◌}
use Rattle.std.proofs.Math.ListN.{length-map}
use Rattle.circus_value.specs.ValueTree.{value_trees}
use Rattle.circus_value.specs.Seen.ValueWeight.{weights}
use Rattle.circus_value.specs.ValueOf.{tree_of}
use Rattle.circus_value.specs.ValueEquality.{items_eq}
use Rattle.circus_value.proofs.FitLemmas.{weight-item}
use Rattle.circus_value.proofs.EqualityLemmas.{items_differ, items_step}
use Rattle.circus_value.proofs.equality.+equality.Goals as goal

pub same_values-returns-then-len : goal.same_values-returns-then-len
same_values-returns-then-len t c =
    sym (items_differ c.args.one.now c.args.other.now (λ same. c.if-len.true (c.len.ensures ∙ same ∙ sym c.len-2.ensures)))

pub same_values-loop-place-init : goal.same_values-loop-place-init
same_values-loop-place-init t c =
    λ j. items_eq (value_trees (c.as_slice-item-items.ensures j)) (value_trees (c.as_slice-others.ensures j))

pub same_values-same_value-requires : goal.same_values-same_value-requires
same_values-same_value-requires t c =
    let light = weight-item c.as_slice-item-items.result.now c.loop-place.place c.item-item.result c.loop-place-test.true c.item-item.is in
    (omega (arith, light, ap (λ ts. weights (value_trees ts)) c.as_slice-item-items.ensures, c.decreases), tt)

pub same_values-returns-then-not-same_value : goal.same_values-returns-then-not-same_value
same_values-returns-then-not-same_value t c =
    let vs = c.as_slice-item-items.result.now in
    let ws = c.as_slice-others.result.now in
    let i = c.loop-place.place in
    let many : i < length ws = omega (arith, c.loop-place-test.true, ap length c.as_slice-item-items.ensures, ap length c.as_slice-others.ensures, length-map vs tree_of, length-map ws tree_of, c.len.ensures, c.len-2.ensures, c.if-len.false) in
    let step = items_step vs ws i c.item-item.result c.index-others-place.result c.loop-place-test.true many c.item-item.is c.index-others-place.is in
    let rest = items_eq (value_trees (map tree_of (drop (i + 1) vs))) (value_trees (map tree_of (drop (i + 1) ws))) in
    sym (sym c.loop-place.invariant ∙ step ∙ ap (λ b. b && rest) (sym c.if-not-same_value.ensures))

pub same_values-loop-place-preserved : goal.same_values-loop-place-preserved
same_values-loop-place-preserved t c =
    let vs = c.as_slice-item-items.result.now in
    let ws = c.as_slice-others.result.now in
    let i = c.loop-place.place in
    let many : i < length ws = omega (arith, c.loop-place-test.true, ap length c.as_slice-item-items.ensures, ap length c.as_slice-others.ensures, length-map vs tree_of, length-map ws tree_of, c.len.ensures, c.len-2.ensures, c.if-len.false) in
    let step = items_step vs ws i c.item-item.result c.index-others-place.result c.loop-place-test.true many c.item-item.is c.index-others-place.is in
    let rest = items_eq (value_trees (map tree_of (drop (i + 1) vs))) (value_trees (map tree_of (drop (i + 1) ws))) in
    ap (λ b. b && rest) c.if-not-same_value.ensures ∙ sym step ∙ c.loop-place.invariant
