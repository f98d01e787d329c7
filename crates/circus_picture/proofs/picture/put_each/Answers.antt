use Rattle.std.proofs.Common.{ℕ, ◌+◌, ◌++◌, List, drop, map, ap, ◌∙◌}
use Rattle.std.specs.List.{flat_map}
use Rattle.circus_picture.specs.declared.deeds.Deed as keeps
use Rattle.circus_picture.specs.Rows.{deed_row}
use Rattle.circus_picture.specs.Seen.Kept.{deed_at}
use Rattle.circus_picture.specs.Seen.Drawing.{scene_of}
use Rattle.circus_picture.proofs.Begun.{begun-as, begun-more, begun-stopped}
use Rattle.circus_picture.proofs.Fronts.{drop_here}
use Rattle.circus_picture.proofs.picture.put_each.Goals as goal

pub returns-in-Err-clause-put : goal.returns-in-Err-clause-put
returns-in-Err-clause-put g c =
    let scene = scene_of g.N.Naming.names c.args.scene.now in
    let rows : List keeps.Deed → List ℕ = λ deeds. flat_map (deed_row scene) (map (deed_at c.args.step) deeds) in
    let deeds = c.args.deeds.now in
    let i = c.loop-deed.deed-index in
    let deed = c.deed-item.result in
    let row = deed_row scene (deed_at c.args.step deed) in
    let old = g.K.Sink.written c.args.sink.now in
    let middle = g.K.Sink.written c.loop-deed.sink in
    let new = g.K.Sink.written c.put_row.new.sink in
    begun-stopped (rows deeds) old (Unit {0}) (Unit {0}) row (rows (drop (i + 1) deeds)) middle new c.in-Err.fault
    (begun-as (rows deeds) old (rows (drop i deeds)) (row ++ rows (drop (i + 1) deeds)) middle
    (ap rows (drop_here deeds i deed c.loop-deed-test.true c.deed-item.is)) c.loop-deed.invariant.put)
    (c.in-Err.ensures.put row c.deed_row.ensures)

pub loop-deed-preserved : goal.loop-deed-preserved
loop-deed-preserved g c =
    let scene = scene_of g.N.Naming.names c.args.scene.now in
    let rows : List keeps.Deed → List ℕ = λ deeds. flat_map (deed_row scene) (map (deed_at c.args.step) deeds) in
    let deeds = c.args.deeds.now in
    let i = c.loop-deed.deed-index in
    let deed = c.deed-item.result in
    let row = deed_row scene (deed_at c.args.step deed) in
    let old = g.K.Sink.written c.args.sink.now in
    let middle = g.K.Sink.written c.loop-deed.sink in
    let new = g.K.Sink.written c.put_row.new.sink in
    record {
      put =
          begun-more (rows deeds) old row (rows (drop (i + 1) deeds)) middle new
          (begun-as (rows deeds) old (rows (drop i deeds)) (row ++ rows (drop (i + 1) deeds)) middle
          (ap rows (drop_here deeds i deed c.loop-deed-test.true c.deed-item.is)) c.loop-deed.invariant.put)
          (c.in-Ok.ensures.put row c.deed_row.ensures);
      count = c.in-Ok.ensures.count ∙ c.loop-deed.invariant.count;
    }
