use Rattle.std.proofs.Common.{◌≡◌, ◌+◌, ◌-◌, Some, drop, sym, ◌∙◌, arith, ap}
use Rattle.std.proofs.lemmas.Result.{err_from_is_err_and}
use Rattle.circus_value.specs.ValueOf as values
use Rattle.circus_value.specs.ValueTree as V
use Rattle.circus_value.specs.ShapeOf as shapes
use Rattle.circus_value.specs.ShapeTree.{field_trees, arm_trees}
use Rattle.circus_value.specs.Seen.ShapeWeight.{field_weights}
use Rattle.circus_value.specs.ArmShape.{arm_shape}
use Rattle.circus_value.proofs.ShapeItems.{field_falls}
use Rattle.circus_external.specs.Answer.{found}
use Rattle.circus_external.specs.Reading.{answer_map, items_read, reading, choice_read}
use Rattle.circus_external.proofs.ReadLemmas.{behind, items_more, items_fault, chosen_read, unchosen_read, weight_arm, fault_mapped}
use Rattle.circus_external.proofs.reading.+reading.Goals as goal

pub read_choice-read_from-requires : goal.read_choice-read_from-requires
read_choice-read_from-requires g t c κs within =
    let shape : arm_shape c.args.arms.now c.in_ok-number.number ≡ Some (shapes.tree_of c.in-Some.shape.now) = sym c.in-Some.ensures in
    (omega (arith, weight_arm c.args.arms.now c.in_ok-number.number (shapes.tree_of c.in-Some.shape.now) shape, c.decreases), (within, c.in_ok-number.ensures.0))

pub read_choice-returns-in_err-value-in-Some : goal.read_choice-returns-in_err-value-in-Some
read_choice-returns-in_err-value-in-Some g t c =
    let p = err_from_is_err_and c.from_residual-in_err-value-in-Some.result c.from_residual-in_err-value-in-Some.ensures.1 in
    let bytes = g.S.ByteSource.octets c.args.source.now in
    let shape : arm_shape c.args.arms.now c.in_ok-number.number ≡ Some (shapes.tree_of c.in-Some.shape.now) = sym c.in-Some.ensures in
    let chosen = chosen_read c.args.arms.now c.in_ok-number.number c.args.at c.in_ok-number.next (drop c.args.at bytes) (drop c.in_ok-number.next bytes) (shapes.tree_of c.in-Some.shape.now) (c.in_ok-number.ensures.1) shape in
    rw (p.1, p.2)
    (fault_mapped values.tree_of values.tree_of bytes c.in_err-value-in-Some.field-0.0 (reading (shapes.tree_of c.in-Some.shape.now) c.in_ok-number.next (drop c.in_ok-number.next bytes)) (choice_read (arm_trees c.args.arms.now) c.args.at (drop c.args.at bytes)) (λ u. V.choice c.in_ok-number.number u) c.in_err-value-in-Some.ensures chosen)

pub read_choice-returns-in_ok-new-in-Some : goal.read_choice-returns-in_ok-new-in-Some
read_choice-returns-in_ok-new-in-Some g t c =
    let shape : arm_shape c.args.arms.now c.in_ok-number.number ≡ Some (shapes.tree_of c.in-Some.shape.now) = sym c.in-Some.ensures in
    let bytes = g.S.ByteSource.octets c.args.source.now in
    let chosen = chosen_read c.args.arms.now c.in_ok-number.number c.args.at c.in_ok-number.next (drop c.args.at bytes) (drop c.in_ok-number.next bytes) (shapes.tree_of c.in-Some.shape.now) (c.in_ok-number.ensures.1) shape in
    let value = ap (answer_map (λ u. V.choice c.in_ok-number.number u)) c.in_ok-value-in-Some.ensures.1 in
    let kept = ap (λ u. found (V.choice c.in_ok-number.number u) c.in_ok-value-in-Some.end (drop c.in_ok-value-in-Some.end bytes)) (sym c.in_ok-new-in-Some.ensures) in
    (c.in_ok-value-in-Some.ensures.0, chosen ∙ value ∙ kept)

pub read_choice-returns-in-None : goal.read_choice-returns-in-None
read_choice-returns-in-None g t c =
    unchosen_read c.args.arms.now c.in_ok-number.number c.args.at c.in_ok-number.next _ _ (c.in_ok-number.ensures.1) (sym c.in-None.ensures)

pub read_fields-read_from-requires : goal.read_fields-read_from-requires
read_fields-read_from-requires g t c κs within =
    let light = field_falls c.as_slice-field-items.result.now c.loop-field.field-index c.field-item.result c.loop-field-test.true c.field-item.is in
    (omega (arith, light, ap (λ fs. field_weights (field_trees fs)) c.as_slice-field-items.ensures, c.decreases), (within, c.loop-field.invariant.within))

pub read_items-returns-in_err-item : goal.read_items-returns-in_err-item
read_items-returns-in_err-item g t c =
    let p = err_from_is_err_and c.from_residual-in_err-item.result c.from_residual-in_err-item.ensures.1 in
    rw (p.1, p.2)
    (items_fault values.tree_of (g.S.ByteSource.octets c.args.source.now) c.in_err-item.field-0.0 (reading (shapes.tree_of c.args.shape.now)) c.args.count c.loop.counter c.loop.place
    (drop c.loop.place (g.S.ByteSource.octets c.args.source.now)) c.loop.items _ c.loop-test.true c.in_err-item.ensures c.loop.invariant.read)

pub read_items-loop-preserved : goal.read_items-loop-preserved
read_items-loop-preserved g t c =
    let bytes = g.S.ByteSource.octets c.args.source.now in
    let item = reading (shapes.tree_of c.args.shape.now) in
    let more = items_more item c.args.count c.loop.counter c.loop.place c.in_ok-item.next (drop c.loop.place bytes) (drop c.in_ok-item.next bytes) c.loop.items (values.tree_of c.in_ok-item.item) _ c.loop-test.true (c.in_ok-item.ensures.1) c.loop.invariant.read in
    record {
      within = c.in_ok-item.ensures.0;
      read = more ∙ ap (λ ts. behind ts (items_read item (c.args.count - (c.loop.counter + 1)) c.in_ok-item.next (drop c.in_ok-item.next bytes))) (sym c.in_ok-push.ensures.ok);
    }
