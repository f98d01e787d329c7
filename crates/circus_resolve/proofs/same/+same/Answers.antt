use Rattle.std.proofs.Common.{sym, ap, ◌∙◌, arith}
use Rattle.circus_value.specs.ShapeTree.{field_trees, arm_trees}
use Rattle.circus_value.specs.Seen.ShapeWeight.{field_weights, arm_weights}
use Rattle.circus_value.proofs.ShapeItems.{field_falls, arm_falls}
use Rattle.circus_resolve.proofs.Deciding.{fields_agree, arms_agree}
use Rattle.circus_resolve.proofs.Shapes.{fields_differ, arms_differ}
use Rattle.circus_resolve.proofs.same.+same.Goals as goal

pub are_fields-returns-in-Some : goal.are_fields-returns-in-Some
are_fields-returns-in-Some t c = fields_agree c.args.some.now c.args.others.now c.in-Some.like c.in-Some.ensures

pub are_arms-returns-in-Some : goal.are_arms-returns-in-Some
are_arms-returns-in-Some t c = arms_agree c.args.some.now c.args.others.now c.in-Some.like c.in-Some.ensures

pub are_fields-returns-then-len : goal.are_fields-returns-then-len
are_fields-returns-then-len t c = sym (fields_differ c.args.some.now c.args.others.now (λ same. c.if-len.true (c.len.ensures ∙ same ∙ sym c.len-2.ensures)))

pub are_arms-returns-then-len : goal.are_arms-returns-then-len
are_arms-returns-then-len t c = sym (arms_differ c.args.some.now c.args.others.now (λ same. c.if-len.true (c.len.ensures ∙ same ∙ sym c.len-2.ensures)))

pub are_fields-is_same-requires : goal.are_fields-is_same-requires
are_fields-is_same-requires t c =
    let light = field_falls c.as_slice-one-items.result.now c.loop-place.place c.one-item.result c.loop-place-test.true c.one-item.is in
    (omega (arith, light, ap (λ fs. field_weights (field_trees fs)) c.as_slice-one-items.ensures, c.decreases), tt)

pub are_arms-is_same-requires : goal.are_arms-is_same-requires
are_arms-is_same-requires t c =
    let light = arm_falls c.as_slice-one-items.result.now c.loop-place.place c.one-item.result c.loop-place-test.true c.one-item.is in
    (omega (arith, light, ap (λ xs. arm_weights (arm_trees xs)) c.as_slice-one-items.ensures, c.decreases), tt)
