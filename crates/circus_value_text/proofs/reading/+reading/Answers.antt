use Rattle.std.proofs.Common.{◌≡◌, ◌∙◌, ◌+◌, List, [], Some, codes, drop, sym, ap, arith}
use Rattle.std.proofs.lemmas.Result.{err_from_is_err_and}
use Rattle.circus_value.specs.ValueOf as values
use Rattle.circus_value.specs.ValueTree.{ValueTree}
use Rattle.circus_value.specs.ValueTree as V
use Rattle.circus_value.specs.ShapeOf as shapes
use Rattle.circus_value.specs.ShapeTree.{field_trees, arm_trees}
use Rattle.circus_value.specs.Seen.ShapeWeight.{field_weights}
use Rattle.circus_value.specs.ArmShape.{arm_shape}
use Rattle.circus_value.proofs.ShapeItems.{field_falls}
use Rattle.circus_value_text.specs.Reading.{seen_as, items_read, items_within, reading, fields_reading, arm_reading}
use Rattle.circus_value_text.specs.Seen.Given.{mark_behind}
use Rattle.circus_value_text.proofs.PieceLemmas.{between_fault}
use Rattle.circus_value_text.proofs.ReadLemmas.{before, behind_gives, items_left, items_more, items_all, items_fault, within_left, within_more, within_closed, within_all, within_fault, fields_left, fields_more, fields_fault, arm_is, no_arm_is, weight_arm, seen_fault}
use Rattle.circus_value_text.proofs.reading.+reading.Goals as goal

pub read_arm-read_value-requires : goal.read_arm-read_value-requires
read_arm-read_value-requires t c =
    let shape : arm_shape c.args.arms.now c.args.number ≡ Some (shapes.tree_of c.in-Some.shape.now) = sym c.in-Some.ensures in
    (omega (arith, weight_arm c.args.arms.now c.args.number (shapes.tree_of c.in-Some.shape.now) shape, c.decreases), c.requires)

pub read_arm-returns-in_err-value-in-Some : goal.read_arm-returns-in_err-value-in-Some
read_arm-returns-in_err-value-in-Some t c =
    let p = err_from_is_err_and c.from_residual.result c.from_residual.ensures.1 in
    let text = drop c.args.at c.args.text.now in
    let shape : arm_shape c.args.arms.now c.args.number ≡ Some (shapes.tree_of c.in-Some.shape.now) = sym c.in-Some.ensures in
    rw (p.1, p.2)
    (seen_fault values.tree_of values.tree_of c.args.text.now c.in_err-value-in-Some.field-0.0 (reading (shapes.tree_of c.in-Some.shape.now) text) (arm_reading (arm_trees c.args.arms.now) c.args.number text) (λ u. V.choice c.args.number u) c.in_err-value-in-Some.ensures (arm_is c.args.arms.now c.args.number text (shapes.tree_of c.in-Some.shape.now) shape))

pub read_arm-returns-in_ok-new-in-Some : goal.read_arm-returns-in_ok-new-in-Some
read_arm-returns-in_ok-new-in-Some t c =
    let text = drop c.args.at c.args.text.now in
    let shape : arm_shape c.args.arms.now c.args.number ≡ Some (shapes.tree_of c.in-Some.shape.now) = sym c.in-Some.ensures in
    let chosen = arm_is c.args.arms.now c.args.number text (shapes.tree_of c.in-Some.shape.now) shape in
    let value = ap (seen_as (λ u. V.choice c.args.number u)) c.in_ok-value-in-Some.ensures.1 in
    let kept = ap (λ u. Some (V.choice c.args.number u, drop c.in_ok-value-in-Some.end c.args.text.now)) (sym c.in_ok-new-in-Some.ensures) in
    (c.in_ok-value-in-Some.ensures.0, chosen ∙ value ∙ kept)

pub read_arm-returns-in-None : goal.read_arm-returns-in-None
read_arm-returns-in-None t c = no_arm_is c.args.arms.now c.args.number (drop c.args.at c.args.text.now) (sym c.in-None.ensures)

pub read_array-returns-in_err-items : goal.read_array-returns-in_err-items
read_array-returns-in_err-items t c =
    let p = err_from_is_err_and c.from_residual-in_err-items.result c.from_residual-in_err-items.ensures.1 in
    let text = c.args.text.now in
    rw (p.1, p.2)
    (between_fault (λ (ts : List ValueTree). ts) (λ (ts : List ValueTree). ts) text c.in_err-items.field-0.0 (codes "{") (codes "}") (drop c.args.at text) (drop c.in_ok-inner.inner text) (items_read (reading (shapes.tree_of c.args.shape.now)) c.args.count []) c.in_ok-inner.ensures.1 c.in_err-items.ensures)

pub read_chosen-returns-in_err-value : goal.read_chosen-returns-in_err-value
read_chosen-returns-in_err-value t c =
    let p = err_from_is_err_and c.from_residual-in_err-value.result c.from_residual-in_err-value.ensures.1 in
    let text = c.args.text.now in
    rw (p.1, p.2)
    (between_fault values.tree_of values.tree_of text c.in_err-value.field-0.0 (codes "(") (codes ")") (drop c.args.at text) (drop c.in_ok-inner.inner text) (arm_reading (arm_trees c.args.arms.now) c.args.number) c.in_ok-inner.ensures.1 c.in_err-value.ensures)

pub read_fields-read_next-requires : goal.read_fields-read_next-requires
read_fields-read_next-requires t c =
    let light = field_falls c.as_slice-field-items.result.now c.loop-field.field-index c.field-item.result c.loop-field-test.true c.field-item.is in
    (omega (arith, light, ap (λ fs. field_weights (field_trees fs)) c.as_slice-field-items.ensures, c.decreases), c.loop-field.invariant.within)

pub read_fields-returns-in_err-item : goal.read_fields-returns-in_err-item
read_fields-returns-in_err-item t c =
    let p = err_from_is_err_and c.from_residual.result c.from_residual.ensures.1 in
    rw (p.1, p.2)
    (fields_fault values.tree_of c.args.text.now c.in_err-item.field-0.0 c.as_slice-field-items.result.now c.loop-field.field-index c.field-item.result c.loop-field.items (drop c.loop-field.place c.args.text.now) _ c.loop-field-test.true c.field-item.is c.in_err-item.ensures c.loop-field.invariant.read)

pub read_fields-loop-field-preserved : goal.read_fields-loop-field-preserved
read_fields-loop-field-preserved t c =
    let text = c.args.text.now in
    let gs = c.as_slice-field-items.result.now in
    let more = fields_more gs c.loop-field.field-index c.field-item.result c.loop-field.items (values.tree_of c.in_ok-item.item) (drop c.loop-field.place text) (drop c.in_ok-item.next text) _ c.loop-field-test.true c.field-item.is c.in_ok-item.ensures.1 c.loop-field.invariant.read in
    record {
      within = c.in_ok-item.ensures.0;
      read = more ∙ ap (λ ts. before ts (fields_left gs (c.loop-field.field-index + 1) (mark_behind ts) (drop c.in_ok-item.next text))) (sym c.in_ok-push.ensures.ok);
    }

pub read_items-returns-in_err-item : goal.read_items-returns-in_err-item
read_items-returns-in_err-item t c =
    let p = err_from_is_err_and c.from_residual.result c.from_residual.ensures.1 in
    rw (p.1, p.2)
    (items_fault values.tree_of c.args.text.now c.in_err-item.field-0.0 (reading (shapes.tree_of c.args.shape.now)) c.args.count c.loop.counter c.loop.items (drop c.loop.place c.args.text.now) _ c.loop-test.true c.in_err-item.ensures c.loop.invariant.read)

pub read_items-loop-preserved : goal.read_items-loop-preserved
read_items-loop-preserved t c =
    let text = c.args.text.now in
    let item = reading (shapes.tree_of c.args.shape.now) in
    let more = items_more item c.args.count c.loop.counter c.loop.items (values.tree_of c.in_ok-item.item) (drop c.loop.place text) (drop c.in_ok-item.next text) _ c.loop-test.true c.in_ok-item.ensures.1 c.loop.invariant.read in
    record {
      within = c.in_ok-item.ensures.0;
      read = more ∙ ap (λ ts. before ts (items_left item c.args.count (c.loop.counter + 1) (mark_behind ts) (drop c.in_ok-item.next text))) (sym c.in_ok-push.ensures.ok);
    }

pub read_items_within-returns-then-ends_there : goal.read_items_within-returns-then-ends_there
read_items_within-returns-then-ends_there t c = (
  c.loop.invariant.within,
  within_closed (reading (shapes.tree_of c.args.shape.now)) c.args.bound c.loop.counter c.loop.items (mark_behind c.loop.items) (drop c.loop.place c.args.text.now) _ c.loop-test.true (sym c.ends_there.ensures ∙ c.if-ends_there.true) c.loop.invariant.read,
)

pub read_items_within-returns-in_err-item : goal.read_items_within-returns-in_err-item
read_items_within-returns-in_err-item t c =
    let p = err_from_is_err_and c.from_residual.result c.from_residual.ensures.1 in
    rw (p.1, p.2)
    (within_fault values.tree_of c.args.text.now c.in_err-item.field-0.0 (reading (shapes.tree_of c.args.shape.now)) c.args.bound c.loop.counter c.loop.items (drop c.loop.place c.args.text.now) _ c.loop-test.true (sym c.ends_there.ensures ∙ c.if-ends_there.false) c.in_err-item.ensures c.loop.invariant.read)

pub read_items_within-loop-preserved : goal.read_items_within-loop-preserved
read_items_within-loop-preserved t c =
    let text = c.args.text.now in
    let item = reading (shapes.tree_of c.args.shape.now) in
    let more = within_more item c.args.bound c.loop.counter c.loop.items (values.tree_of c.in_ok-item.item) (drop c.loop.place text) (drop c.in_ok-item.next text) _ c.loop-test.true (sym c.ends_there.ensures ∙ c.if-ends_there.false) c.in_ok-item.ensures.1 c.loop.invariant.read in
    record {
      within = c.in_ok-item.ensures.0;
      read = more ∙ ap (λ ts. before ts (within_left item c.args.bound (c.loop.counter + 1) (mark_behind ts) (drop c.in_ok-item.next text))) (sym c.in_ok-push.ensures.ok);
    }

pub read_list-returns-in_err-items : goal.read_list-returns-in_err-items
read_list-returns-in_err-items t c =
    let p = err_from_is_err_and c.from_residual-in_err-items.result c.from_residual-in_err-items.ensures.1 in
    let text = c.args.text.now in
    rw (p.1, p.2)
    (between_fault (λ (ts : List ValueTree). ts) (λ (ts : List ValueTree). ts) text c.in_err-items.field-0.0 (codes "[") (codes "]") (drop c.args.at text) (drop c.in_ok-inner.inner text) (fields_reading (field_trees c.args.fields.now) []) c.in_ok-inner.ensures.1 c.in_err-items.ensures)

pub read_next-returns : goal.read_next-returns
read_next-returns t c =
    let mark = rw c.mark_behind.ensures at c.in_ok-inner.ensures.1 in
    behind_gives values.tree_of c.args.text.now c.read_value.result (mark_behind c.args.items.now) (drop c.args.at c.args.text.now) (drop c.in_ok-inner.inner c.args.text.now) (reading (shapes.tree_of c.args.shape.now)) mark c.read_value.ensures

pub read_sequence-returns-in_err-items : goal.read_sequence-returns-in_err-items
read_sequence-returns-in_err-items t c =
    let p = err_from_is_err_and c.from_residual-in_err-items.result c.from_residual-in_err-items.ensures.1 in
    let text = c.args.text.now in
    rw (p.1, p.2)
    (between_fault (λ (ts : List ValueTree). ts) (λ (ts : List ValueTree). ts) text c.in_err-items.field-0.0 (codes "{") (codes "}") (drop c.args.at text) (drop c.in_ok-inner.inner text) (items_within (reading (shapes.tree_of c.args.shape.now)) c.args.bound []) c.in_ok-inner.ensures.1 c.in_err-items.ensures)

pub read_items-returns : goal.read_items-returns
read_items-returns t c = (
  c.loop.invariant.within,
  items_all (reading (shapes.tree_of c.args.shape.now)) c.args.count c.loop.counter c.loop.items (mark_behind c.loop.items) (drop c.loop.place c.args.text.now) _ c.loop-test.false c.loop.invariant.read,
)

pub read_items_within-returns : goal.read_items_within-returns
read_items_within-returns t c = (
  c.loop.invariant.within,
  within_all (reading (shapes.tree_of c.args.shape.now)) c.args.bound c.loop.counter c.loop.items (mark_behind c.loop.items) (drop c.loop.place c.args.text.now) _ c.loop-test.false c.loop.invariant.read,
)
