use Rattle.circus_picture.specs.Rows.{line_row}
use Rattle.circus_picture.specs.Picture.{deed_rows, step_rows}
use Rattle.circus_picture.specs.Seen.Drawing.{scene_of}
use Rattle.circus_picture.proofs.Begun.{begun-none, begun-more, begun-put, begun-stopped}
use Rattle.circus_picture.proofs.picture.put_step.Goals as goal

pub returns-in-Ok-clause-put : goal.returns-in-Ok-clause-put
returns-in-Ok-clause-put g c = λ count deeds kept below.
    let scene = scene_of g.N.Naming.names c.args.scene.now in
    let step = c.args.step in
    let line = c.args.line.now in
    let whole = step_rows scene deeds step line in
    let old = g.K.Sink.written c.args.sink.now in
    let middle = g.K.Sink.written c.put_row.new.sink in
    let new = g.K.Sink.written c.put_deeds.new.sink in
    begun-put whole old (deed_rows scene deeds step) middle new c.put_deeds.result
    (begun-more whole old (line_row scene step line) (deed_rows scene deeds step) old middle (begun-none whole old) (c.in-Ok.ensures.put (line_row scene step line) c.line_row.ensures))
    (c.put_deeds.ensures.put count deeds kept below)

pub returns-in-Err-clause-put : goal.returns-in-Err-clause-put
returns-in-Err-clause-put g c = λ count deeds kept below.
    let scene = scene_of g.N.Naming.names c.args.scene.now in
    let step = c.args.step in
    let line = c.args.line.now in
    let whole = step_rows scene deeds step line in
    let old = g.K.Sink.written c.args.sink.now in
    let new = g.K.Sink.written c.put_row.new.sink in
    begun-stopped whole old (Unit {0}) (Unit {0}) (line_row scene step line) (deed_rows scene deeds step) old new c.in-Err.fault (begun-none whole old) (c.in-Err.ensures.put (line_row scene step line) c.line_row.ensures)
