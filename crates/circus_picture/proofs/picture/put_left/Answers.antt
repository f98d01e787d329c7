use Rattle.std.proofs.Common.{◌++◌, length}
use Rattle.std.specs.List.{flat_map}
use Rattle.circus_picture.specs.Rows.{count_row, left_row, left_rows}
use Rattle.circus_picture.specs.Seen.Drawing.{scene_of}
use Rattle.circus_picture.proofs.Begun.{begun-none, begun-as, begun-more, begun-put, begun-stopped}
use Rattle.circus_picture.proofs.LeftLemmas.{left-some}
use Rattle.circus_picture.proofs.picture.put_left.Goals as goal

pub returns-in-Ok-clause-put : goal.returns-in-Ok-clause-put
returns-in-Ok-clause-put g c =
    let scene = scene_of g.N.Naming.names c.args.scene.now in
    let step = c.args.step in
    let left = c.args.left.now in
    let whole = left_rows scene step left in
    let count = count_row scene step (length left) in
    let each = flat_map (left_row scene step) left in
    let old = g.K.Sink.written c.args.sink.now in
    let middle = g.K.Sink.written c.put_row.new.sink in
    let new = g.K.Sink.written c.put_each_left.new.sink in
    begun-put whole old each middle new c.put_each_left.result
    (begun-more whole old count each old middle
    (begun-as whole old whole (count ++ each) old (left-some scene step left c.is_empty.result c.is_empty.ensures c.if-is_empty.false) (begun-none whole old))
    (c.in-Ok.ensures.put count c.count_row.ensures))
    c.put_each_left.ensures.put

pub returns-in-Err-clause-put : goal.returns-in-Err-clause-put
returns-in-Err-clause-put g c =
    let scene = scene_of g.N.Naming.names c.args.scene.now in
    let step = c.args.step in
    let left = c.args.left.now in
    let whole = left_rows scene step left in
    let count = count_row scene step (length left) in
    let each = flat_map (left_row scene step) left in
    let old = g.K.Sink.written c.args.sink.now in
    let new = g.K.Sink.written c.put_row.new.sink in
    begun-stopped whole old (Unit {0}) (Unit {0}) count each old new c.in-Err.fault
    (begun-as whole old whole (count ++ each) old (left-some scene step left c.is_empty.result c.is_empty.ensures c.if-is_empty.false) (begun-none whole old))
    (c.in-Err.ensures.put count c.count_row.ensures)
