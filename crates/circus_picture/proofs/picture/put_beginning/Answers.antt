use Rattle.circus_picture.specs.Picture.{first_line, names_row, beginning}
use Rattle.circus_picture.proofs.Begun.{begun-none, begun-more, begun-put, begun-stopped}
use Rattle.circus_picture.proofs.picture.put_beginning.Goals as goal

pub returns-in-Ok-clause-put : goal.returns-in-Ok-clause-put
returns-in-Ok-clause-put g c =
    let whole = beginning c.args.hosts.now in
    let names = names_row c.args.hosts.now in
    let old = g.K.Sink.written c.args.sink.now in
    let middle = g.K.Sink.written c.put_row.new.sink in
    let new = g.K.Sink.written c.put_row-in-Ok.new.sink in
    begun-put whole old names middle new c.put_row-in-Ok.result
    (begun-more whole old first_line names old middle (begun-none whole old) (c.in-Ok.ensures.put first_line c.from_text.ensures))
    (c.put_row-in-Ok.ensures.put names c.names_row.ensures)

pub returns-in-Err-clause-put : goal.returns-in-Err-clause-put
returns-in-Err-clause-put g c =
    let whole = beginning c.args.hosts.now in
    let old = g.K.Sink.written c.args.sink.now in
    let new = g.K.Sink.written c.put_row.new.sink in
    begun-stopped whole old (Unit {0}) (Unit {0}) first_line (names_row c.args.hosts.now) old new c.in-Err.fault (begun-none whole old) (c.in-Err.ensures.put first_line c.from_text.ensures)
