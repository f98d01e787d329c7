use Rattle.std.proofs.Common.{ap, arith, ◌∙◌, ◌++◌}
use Rattle.circus_expression.specs.ExpressionTree.{expression_trees, suffix_trees}
use Rattle.circus_expression.specs.Seen.ExpressionWeight.{list_weight, suffix_weights}
use Rattle.circus_resolve.specs.Faults.{count_faults, each_faults, place_of_type, type_faults, type_shape, count, slots_for}
use Rattle.circus_resolve.specs.Seen.Found.{with_faults}
use Rattle.circus_resolve.specs.Seen.Scoped.{scope_as, shape_as}
use Rattle.circus_resolve.specs.Seen.Wanted.{slots_as}
use Rattle.circus_checked.specs.ExpressionOf as checked
use Rattle.circus_resolve.proofs.Finding.{found_then}
use Rattle.circus_resolve.proofs.Resolving.{count_is, each_step, each_meant_step, suffix_step, led_step, meant_step}
use Rattle.circus_resolve.proofs.Weights.{weight_of_expression, weight_of_suffix}
use Rattle.circus_resolve.proofs.expression.+resolving.Goals as goal

pub resolve_each-item_for-requires : goal.resolve_each-item_for-requires
resolve_each-item_for-requires t c =
    let light = weight_of_expression c.as_slice-item-items.result.now c.loop-place.place c.item-item.result c.loop-place-test.true c.item-item.is in
    (omega (arith, light, ap (λ es. list_weight (expression_trees es)) c.as_slice-item-items.ensures, c.decreases), tt)

pub resolve_each-loop-place-preserved : goal.resolve_each-loop-place-preserved
resolve_each-loop-place-preserved t c =
    let scope = scope_as c.args.scope.now in
    let slots = slots_as c.args.slots in
    let es = c.as_slice-item-items.result.now in
    let i = c.loop-place.place in
    let wants = shape_as c.at.result in (
      each_step scope slots i c.loop-place.found c.item_for.new.found es i c.item-item.result wants c.loop-place-test.true c.item-item.is c.at.ensures c.in_ok-item_for.ensures.found
          ∙ c.loop-place.invariant.0,
      each_meant_step scope slots i c.loop-place.trees c.push.new.self es i c.item-item.result wants (checked.tree_of c.in_ok-item_for.field-0) c.loop-place-test.true c.item-item.is c.at.ensures c.in_ok-item_for.ensures.meant c.in_ok-push.ensures.ok
          ∙ c.loop-place.invariant.1,
    )

pub items_of-returns-clause-found : goal.items_of-returns-clause-found
items_of-returns-clause-found t c =
    let scope = scope_as c.args.scope.now in
    let of = c.args.of.now in
    let es = expression_trees c.args.items.now in
    let counts = count_faults (type_shape scope of) (place_of_type of) (count es) in
    found_then c.args.found.now c.count.new.self c.resolve_each.new.found (type_faults scope of ++ counts) (each_faults scope (slots_for (type_shape scope of)) 0 es)
    (found_then c.args.found.now c.named_type-shape.new.self c.count.new.self (type_faults scope of) counts c.named_type-shape.ensures.found
    (c.count.ensures ∙ (λ i. with_faults c.named_type-shape.new.self (count_faults (c.named_type-shape.ensures.shape i) (c.first_of.ensures i) ((c.len.ensures ∙ count_is c.args.items.now) i)))))
    (c.in_ok-items.ensures.found ∙ ap (λ s. with_faults c.count.new.self (each_faults scope s 0 es)) (c.of.ensures ∙ ap slots_for c.named_type-shape.ensures.shape))

pub suffixes_of-step-requires : goal.suffixes_of-step-requires
suffixes_of-step-requires t c =
    let light = weight_of_suffix c.as_slice-suffix-items.result.now c.loop-suffix.suffix-index c.suffix-item.result c.loop-suffix-test.true c.suffix-item.is in
    (omega (arith, light, ap (λ ss. suffix_weights (suffix_trees ss)) c.as_slice-suffix-items.ensures, c.decreases), tt)

pub suffixes_of-loop-suffix-preserved : goal.suffixes_of-loop-suffix-preserved
suffixes_of-loop-suffix-preserved t c =
    let scope = scope_as c.args.scope.now in
    let ss = c.as_slice-suffix-items.result.now in
    let i = c.loop-suffix.suffix-index in
    let s = shape_as c.loop-suffix.led.shape in
    let leads = shape_as c.in_ok-step.shape in
    let below = c.loop-suffix-test.true in
    let is = c.suffix-item.is in
    let shape = c.in_ok-step.ensures.shape in (
      suffix_step scope ss i c.suffix-item.result below is s leads shape c.args.first c.loop-suffix.found c.step.new.found c.in_ok-step.ensures.found ∙ c.loop-suffix.invariant.0,
      (
        led_step scope ss i c.suffix-item.result below is s leads shape ∙ c.loop-suffix.invariant.1.0,
        meant_step scope ss i c.suffix-item.result below is s leads shape c.loop-suffix.led.suffixes c.push.new.self (checked.suffix_of c.in_ok-step.step) c.in_ok-step.ensures.meant c.in_ok-push.ensures.ok ∙ c.loop-suffix.invariant.1.1,
      ),
    )
