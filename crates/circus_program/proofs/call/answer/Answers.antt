use Rattle.circus_outside.specs.Faults.{Rose}
use Rattle.circus_program.proofs.PutLemmas.{answered, unserved}
use Rattle.circus_program.proofs.Known.{end_lacks_none}
use Rattle.circus_program.proofs.call.answer.Goals as goal

pub returns-clause-answer : goal.returns-clause-answer
returns-clause-answer g c =
    let written = g.K.Sink.written in
    let faults = g.K.Sink.faults in
    answered _ _ (g.S.Shelf.fetched c.follow.new.shelf) c.in-Ok.step (g.S.Shelf.faults c.args.shelf.now) (g.S.Shelf.faults c.follow.new.shelf)
    _ _ (Rose (g.L.Link.faults c.args.link.now) (g.L.Link.faults c.write-status.new.link))
    (written c.args.sink.now) (written c.write-status.new.sink) (written c.finish.new.sink) (faults c.args.sink.now) (faults c.write-status.new.sink) (faults c.finish.new.sink)
    c.write-status.result c.finish.result c.in-Ok.ensures.due c.in-Ok.ensures.stands c.in-Ok.ensures.lack c.write-status.ensures.put c.write-status.ensures.rose
    c.finish.ensures.written c.finish.ensures.stopped c.finish.ensures.status

pub returns-clause-link : goal.returns-clause-link
returns-clause-link g c = λ none. c.write-status.ensures.link (unserved _ _ c.in-Ok.step c.in-Ok.ensures.due none)

pub returns-clause-known : goal.returns-clause-known
returns-clause-known g c = λ ends.
    c.in-Ok.ensures.known
    (end_lacks_none c.in-Ok.step _ _ _ _ _ _ c.write-status.result c.finish.result _ c.write-status.ensures.put c.finish.ensures.status ends)
