use Rattle.std.proofs.Common.{◌∙◌, ◌+◌, drop, sym, ap}
use Rattle.std.proofs.lemmas.Result.{err_from_is_err_and}
use Rattle.circus_value.specs.ValueOf.{tree_of}
use Rattle.circus_value_text.specs.Seen.Given.{mark_behind}
use Rattle.circus_audit.specs.Seen.Values.{shapes_read, values_before}
use Rattle.circus_audit.proofs.Shapes.{shapes_more, shapes_fault}
use Rattle.circus_audit.proofs.values.read_shapes.Goals as goal

pub returns-in_err-item : goal.returns-in_err-item
returns-in_err-item c =
    let p = err_from_is_err_and c.from_residual.result c.from_residual.ensures.1 in
    rw (p.1, p.2)
    (shapes_fault tree_of c.args.text.now c.in_err-item.field-0.0 c.as_slice-shape-items.result.now c.loop-shape.shape-index c.shape-item.result c.loop-shape.items (drop c.loop-shape.place c.args.text.now) _ c.loop-shape-test.true c.shape-item.is c.in_err-item.ensures c.loop-shape.invariant.read)

pub loop-shape-preserved : goal.loop-shape-preserved
loop-shape-preserved c =
    let text = c.args.text.now in
    let shapes = c.as_slice-shape-items.result.now in
    let more = shapes_more shapes c.loop-shape.shape-index c.shape-item.result c.loop-shape.items (tree_of c.in_ok-item.item) (drop c.loop-shape.place text) (drop c.in_ok-item.next text) _ c.loop-shape-test.true c.shape-item.is c.in_ok-item.ensures.1 c.loop-shape.invariant.read in
    record {
      within = c.in_ok-item.ensures.0;
      read = more ∙ ap (λ ts. values_before ts (shapes_read (drop (c.loop-shape.shape-index + 1) shapes) (mark_behind ts) (drop c.in_ok-item.next text))) (sym c.in_ok-push.ensures.ok);
    }
