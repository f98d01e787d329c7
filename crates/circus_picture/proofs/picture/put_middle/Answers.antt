use Rattle.std.proofs.Common.{◌+◌, length, arith}
use Rattle.circus_picture.specs.Picture.{deed_rows, steps_rows, middle}
use Rattle.circus_picture.specs.Seen.Drawing.{scene_of}
use Rattle.circus_picture.proofs.Begun.{begun-none, begun-more, begun-put, begun-stopped}
use Rattle.circus_picture.proofs.picture.put_middle.Goals as goal

pub returns-in-Ok-clause-put : goal.returns-in-Ok-clause-put
returns-in-Ok-clause-put g c = λ deeds kept.
    let scene = scene_of g.N.Naming.names c.args.scene.now in
    let lines = c.args.lines.now in
    let whole = middle scene deeds lines in
    let old = g.K.Sink.written c.args.sink.now in
    let between = g.K.Sink.written c.put_deeds.new.sink in
    let new = g.K.Sink.written c.put_steps.new.sink in
    begun-put whole old (steps_rows scene deeds 1 lines) between new c.put_steps.result
    (begun-more whole old (deed_rows scene deeds 0) (steps_rows scene deeds 1 lines) old between (begun-none whole old)
    (c.in-Ok.ensures.put (length lines + 1) deeds kept (omega arith)))
    (c.put_steps.ensures.put deeds kept)

pub returns-in-Err-clause-put : goal.returns-in-Err-clause-put
returns-in-Err-clause-put g c = λ deeds kept.
    let scene = scene_of g.N.Naming.names c.args.scene.now in
    let lines = c.args.lines.now in
    let whole = middle scene deeds lines in
    let old = g.K.Sink.written c.args.sink.now in
    let new = g.K.Sink.written c.put_deeds.new.sink in
    begun-stopped whole old (Unit {0}) (Unit {0}) (deed_rows scene deeds 0) (steps_rows scene deeds 1 lines) old new c.in-Err.fault (begun-none whole old)
    (c.in-Err.ensures.put (length lines + 1) deeds kept (omega arith))
