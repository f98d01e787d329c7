use Rattle.std.proofs.Common.{◌+◌, ◌++◌, length, map, sym, ap, subst, append_assoc}
use Rattle.circus_picture.specs.Rows.{left_rows}
use Rattle.circus_picture.specs.Picture.{beginning, middle}
use Rattle.circus_picture.specs.Seen.Drawing.{scene_of}
use Rattle.circus_report.specs.Run.{IsPut}
use Rattle.circus_picture.proofs.KeptLemmas.{kept-in}
use Rattle.circus_picture.proofs.Begun.{begun-none, begun-as, begun-more, begun-put, begun-stopped}
use Rattle.circus_picture.proofs.picture.put_parts.Goals as goal

pub returns-in-Err-clause-put : goal.returns-in-Err-clause-put
returns-in-Err-clause-put g c = λ deeds kept.
    let scene = scene_of g.N.Naming.names c.args.scene.now in
    let parts = c.args.parts.now in
    let first = beginning parts.hosts.now in
    let second = middle scene deeds parts.lines.now in
    let third = left_rows scene (length parts.lines.now) parts.left in
    let whole = (first ++ second) ++ third in
    let old = g.K.Sink.written c.args.sink.now in
    let new = g.K.Sink.written c.put_beginning.new.sink in
    begun-stopped whole old (Unit {0}) (Unit {0}) first (second ++ third) old new c.in-Err.fault
    (begun-as whole old whole (first ++ (second ++ third)) old (append_assoc first second third) (begun-none whole old))
    c.in-Err.ensures.put

pub returns-in-Err-put_middle-clause-put : goal.returns-in-Err-put_middle-clause-put
returns-in-Err-put_middle-clause-put g c = λ deeds kept.
    let scene = scene_of g.N.Naming.names c.args.scene.now in
    let parts = c.args.parts.now in
    let first = beginning parts.hosts.now in
    let second = middle scene deeds parts.lines.now in
    let third = left_rows scene (length parts.lines.now) parts.left in
    let whole = (first ++ second) ++ third in
    let old = g.K.Sink.written c.args.sink.now in
    let between = g.K.Sink.written c.put_beginning.new.sink in
    let new = g.K.Sink.written c.put_middle.new.sink in
    begun-stopped whole old (Unit {0}) (Unit {0}) second third between new c.in-Err-put_middle.fault
    (begun-more whole old first (second ++ third) old between
    (begun-as whole old whole (first ++ (second ++ third)) old (append_assoc first second third) (begun-none whole old))
    c.in-Ok.ensures.put)
    (c.in-Err-put_middle.ensures.put deeds
    (kept-in (length parts.lines.now + 1) deeds (map (λ own. own.items) parts.steps.items) (map (λ own. own.items) c.as_slice.result.now)
    (ap (map (λ own. own.items)) (sym c.as_slice.ensures.value)) kept))

pub returns-clause-put : goal.returns-clause-put
returns-clause-put g c = λ deeds kept.
    let scene = scene_of g.N.Naming.names c.args.scene.now in
    let parts = c.args.parts.now in
    let first = beginning parts.hosts.now in
    let second = middle scene deeds parts.lines.now in
    let third = left_rows scene (length parts.lines.now) parts.left in
    let whole = (first ++ second) ++ third in
    let old = g.K.Sink.written c.args.sink.now in
    let between = g.K.Sink.written c.put_beginning.new.sink in
    let behind = g.K.Sink.written c.put_middle.new.sink in
    let new = g.K.Sink.written c.put_left.new.sink in
    begun-put whole old third behind new c.put_left.result
    (begun-more whole old second third between behind
    (begun-more whole old first (second ++ third) old between
    (begun-as whole old whole (first ++ (second ++ third)) old (append_assoc first second third) (begun-none whole old))
    c.in-Ok.ensures.put)
    (c.in-Ok-put_middle.ensures.put deeds
    (kept-in (length parts.lines.now + 1) deeds (map (λ own. own.items) parts.steps.items) (map (λ own. own.items) c.as_slice.result.now)
    (ap (map (λ own. own.items)) (sym c.as_slice.ensures.value)) kept)))
    (subst (λ left. IsPut (left_rows scene (length parts.lines.now) left) behind new c.put_left.result) c.as_slice-2.ensures c.put_left.ensures.put)
