use Rattle.std.proofs.Common.{ℕ, ◌+◌, ◌++◌, List, drop, get_or, ap, ◌∙◌}
use Rattle.std.specs.List.{flat_map}
use Rattle.circus_picture.specs.Rows.{left_row}
use Rattle.circus_picture.specs.Seen.Drawing.{scene_of}
use Rattle.circus_picture.proofs.Begun.{begun-as, begun-more, begun-stopped}
use Rattle.circus_picture.proofs.Fronts.{drop_read}
use Rattle.circus_picture.proofs.picture.put_each_left.Goals as goal

pub returns-in-Err-clause-put : goal.returns-in-Err-clause-put
returns-in-Err-clause-put g c =
    let scene = scene_of g.N.Naming.names c.args.scene.now in
    let rows : List ℕ → List ℕ = λ left. flat_map (left_row scene c.args.step) left in
    let left = c.args.left.now in
    let i = c.loop-number.number-index in
    let row = left_row scene c.args.step (get_or left i 0) in
    let old = g.K.Sink.written c.args.sink.now in
    let middle = g.K.Sink.written c.loop-number.sink in
    let new = g.K.Sink.written c.put_row.new.sink in
    begun-stopped (rows left) old (Unit {0}) (Unit {0}) row (rows (drop (i + 1) left)) middle new c.in-Err.fault
    (begun-as (rows left) old (rows (drop i left)) (row ++ rows (drop (i + 1) left)) middle
    (ap rows (drop_read left i 0 c.loop-number-test.true)) c.loop-number.invariant.put)
    (c.in-Err.ensures.put row c.left_row.ensures)

pub loop-number-preserved : goal.loop-number-preserved
loop-number-preserved g c =
    let scene = scene_of g.N.Naming.names c.args.scene.now in
    let rows : List ℕ → List ℕ = λ left. flat_map (left_row scene c.args.step) left in
    let left = c.args.left.now in
    let i = c.loop-number.number-index in
    let row = left_row scene c.args.step (get_or left i 0) in
    let old = g.K.Sink.written c.args.sink.now in
    let middle = g.K.Sink.written c.loop-number.sink in
    let new = g.K.Sink.written c.put_row.new.sink in
    record {
      put =
          begun-more (rows left) old row (rows (drop (i + 1) left)) middle new
          (begun-as (rows left) old (rows (drop i left)) (row ++ rows (drop (i + 1) left)) middle
          (ap rows (drop_read left i 0 c.loop-number-test.true)) c.loop-number.invariant.put)
          (c.in-Ok.ensures.put row c.left_row.ensures);
      count = c.in-Ok.ensures.count ∙ c.loop-number.invariant.count;
    }
