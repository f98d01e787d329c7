use Rattle.std.proofs.Common.{◌&&◌, sym, ◌∙◌, arith, ap}
use Rattle.circus_value.specs.ShapeTree.{field_trees, arm_trees}
use Rattle.circus_value.specs.ShapeOf.{tree_of}
use Rattle.circus_value.specs.Seen.ShapeWeight.{field_weights, arm_weights}
use Rattle.circus_value.proofs.ShapeItems.{field_falls, arm_falls}
use Rattle.circus_external.specs.Refusal as refusal
use Rattle.circus_external.proofs.ProperLemmas.{any_arm}
use Rattle.circus_external.proofs.proper.+proper.Goals as goal

pub are_proper-is_proper-requires : goal.are_proper-is_proper-requires
are_proper-is_proper-requires t c =
    let light = field_falls c.as_slice-field-items.result.now c.loop-field.field-index c.field-item.result c.loop-field-test.true c.field-item.is in
    (omega (arith, light, ap (λ fs. field_weights (field_trees fs)) c.as_slice-field-items.ensures, c.decreases), tt)

pub arms_are_proper-is_proper-requires : goal.arms_are_proper-is_proper-requires
arms_are_proper-is_proper-requires t c =
    let light = arm_falls c.as_slice-arm-items.result.now c.loop-arm.arm-index c.arm-item.result c.loop-arm-test.true c.arm-item.is in
    (omega (arith, light, ap (λ arms. arm_weights (arm_trees arms)) c.as_slice-arm-items.ensures, c.decreases), tt)

pub is_proper-returns-then-has_arm : goal.is_proper-returns-then-has_arm
is_proper-returns-then-has_arm t c =
    let has = c.has_arm.ensures ∙ any_arm c.as_slice-in-Choice.result.now ∙ ap (λ arms. refusal.has_arm (arm_trees arms)) c.as_slice-in-Choice.ensures in
    c.arms_are_proper.ensures ∙ ap (λ b. b && refusal.arms_are_proper (arm_trees c.in-Choice.arms)) (sym (sym has ∙ c.if-has_arm.true)) ∙ ap (λ s. refusal.is_proper (tree_of s)) (sym c.in-Choice.is)

pub is_proper-returns-else-has_arm : goal.is_proper-returns-else-has_arm
is_proper-returns-else-has_arm t c =
    let has = c.has_arm.ensures ∙ any_arm c.as_slice-in-Choice.result.now ∙ ap (λ arms. refusal.has_arm (arm_trees arms)) c.as_slice-in-Choice.ensures in
    c.if-has_arm.false ∙ ap (λ b. b && refusal.arms_are_proper (arm_trees c.in-Choice.arms)) (sym (sym has ∙ c.if-has_arm.false)) ∙ ap (λ s. refusal.is_proper (tree_of s)) (sym c.in-Choice.is)
