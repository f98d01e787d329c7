use Rattle.std.proofs.Common.{◌+◌, ◌++◌, length, drop, get_or, ap, ◌∙◌, arith}
use Rattle.circus_schedule.specs.declared.line.Line.TheVariants.{Deliver}
use Rattle.circus_picture.specs.Picture.{step_rows, steps_rows}
use Rattle.circus_picture.specs.Seen.Drawing.{scene_of}
use Rattle.circus_picture.proofs.Begun.{begun-as, begun-more, begun-stopped}
use Rattle.circus_picture.proofs.Fronts.{drop_read}
use Rattle.circus_picture.proofs.picture.put_steps.Goals as goal

pub returns-in-Err-clause-put : goal.returns-in-Err-clause-put
returns-in-Err-clause-put g c = λ deeds kept.
    let scene = scene_of g.N.Naming.names c.args.scene.now in
    let lines = c.args.lines.now in
    let place = c.loop-place.place in
    let line = get_or lines place (Deliver 0) in
    let whole = steps_rows scene deeds 1 lines in
    let rows = step_rows scene deeds (place + 1) line in
    let rest = steps_rows scene deeds (place + 1 + 1) (drop (place + 1) lines) in
    let old = g.K.Sink.written c.args.sink.now in
    let middle = g.K.Sink.written c.loop-place.sink in
    let new = g.K.Sink.written c.put_step.new.sink in
    begun-stopped whole old (Unit {0}) (Unit {0}) rows rest middle new c.in-Err.fault
    (begun-as whole old (steps_rows scene deeds (place + 1) (drop place lines)) (rows ++ rest) middle
    (ap (steps_rows scene deeds (place + 1)) (drop_read lines place (Deliver 0) c.loop-place-test.true)) (c.loop-place.invariant.put deeds kept))
    (c.in-Err.ensures.put (length lines + 1) deeds kept (omega (arith, c.loop-place-test.true)))

pub loop-place-preserved : goal.loop-place-preserved
loop-place-preserved g c =
    let scene = scene_of g.N.Naming.names c.args.scene.now in
    let lines = c.args.lines.now in
    let place = c.loop-place.place in
    let line = get_or lines place (Deliver 0) in
    let old = g.K.Sink.written c.args.sink.now in
    let middle = g.K.Sink.written c.loop-place.sink in
    let new = g.K.Sink.written c.put_step.new.sink in
    record {
      put = λ deeds kept.
          let whole = steps_rows scene deeds 1 lines in
          let rows = step_rows scene deeds (place + 1) line in
          let rest = steps_rows scene deeds (place + 1 + 1) (drop (place + 1) lines) in
          begun-more whole old rows rest middle new
          (begun-as whole old (steps_rows scene deeds (place + 1) (drop place lines)) (rows ++ rest) middle
          (ap (steps_rows scene deeds (place + 1)) (drop_read lines place (Deliver 0) c.loop-place-test.true)) (c.loop-place.invariant.put deeds kept))
          (c.in-Ok.ensures.put (length lines + 1) deeds kept (omega (arith, c.loop-place-test.true)));
      count = c.in-Ok.ensures.count ∙ c.loop-place.invariant.count;
    }
