use Rattle.std.proofs.Common.{inl, refl, sym, subst}
use Rattle.circus_commands.specs.declared.status.Status.TheVariants.{ShelfFault}
use Rattle.circus_commands.specs.Ending.{Ending}
use Rattle.circus_commands.specs.Seen.Ending.{ending_of}
use Rattle.circus_commands.specs.Seen.Upshot.{end_of_performance}
use Rattle.circus_serve.specs.Outside.{tells_of}
use Rattle.circus_program.specs.declared.answer.Step.{Step}
use Rattle.circus_program.specs.declared.answer.Step.TheVariants.{Finish, Lack, History, Replay}
use Rattle.circus_program.specs.Answer.{shelf_fault}
use Rattle.circus_program.specs.Seen.Ready.{end_of_ready}
use Rattle.circus_program.specs.Seen.Step.{IsPutStep}
use Rattle.circus_program.proofs.Pieces.{put-if, put-served}
use Rattle.circus_program.proofs.call.write.Goals as goal

pub returns-in-Finish-clause-put : goal.returns-in-Finish-clause-put
returns-in-Finish-clause-put g c =
    let link = c.args.link.now in
    let told = tells_of (g.L.Link.bound link) (g.L.Link.taken link) (g.L.Link.given link) in
    let old = g.K.Sink.written c.args.sink.now in
    let new = g.K.Sink.written c.put_end.new.sink in
    let before = g.K.Sink.faults c.args.sink.now in
    let after = g.K.Sink.faults c.put_end.new.sink in
    let put : IsPutStep told told (Finish c.in-Finish.ending) old new before after c.put_end.result = inl (ending_of c.in-Finish.ending, (refl, refl), c.put_end.ensures) in
    subst (λ (s : Step). IsPutStep told told s old new before after c.put_end.result) (sym c.in-Finish.is) put

pub returns-in-History-clause-put : goal.returns-in-History-clause-put
returns-in-History-clause-put g c =
    let link = c.args.link.now in
    let told = tells_of (g.L.Link.bound link) (g.L.Link.taken link) (g.L.Link.given link) in
    let old = g.K.Sink.written c.args.sink.now in
    let new = g.K.Sink.written c.put_history.new.sink in
    let before = g.K.Sink.faults c.args.sink.now in
    let after = g.K.Sink.faults c.put_history.new.sink in
    let put : IsPutStep told told (History c.in-History.performance) old new before after c.put_history.result = inl (end_of_performance c.in-History.performance, (refl, refl), c.put_history.ensures) in
    subst (λ (s : Step). IsPutStep told told s old new before after c.put_history.result) (sym c.in-History.is) put

pub returns-in-Replay-clause-put : goal.returns-in-Replay-clause-put
returns-in-Replay-clause-put g c =
    let link = c.args.link.now in
    let told = tells_of (g.L.Link.bound link) (g.L.Link.taken link) (g.L.Link.given link) in
    let old = g.K.Sink.written c.args.sink.now in
    let new = g.K.Sink.written c.replay.new.sink in
    let before = g.K.Sink.faults c.args.sink.now in
    let after = g.K.Sink.faults c.replay.new.sink in
    let put : IsPutStep told told (Replay c.in-Replay.ready) old new before after c.replay.result = inl (end_of_ready c.in-Replay.ready, (refl, refl), c.replay.ensures) in
    subst (λ (s : Step). IsPutStep told told s old new before after c.replay.result) (sym c.in-Replay.is) put

pub returns-in-Lack-clause-put : goal.returns-in-Lack-clause-put
returns-in-Lack-clause-put g c =
    let link = c.args.link.now in
    let told = tells_of (g.L.Link.bound link) (g.L.Link.taken link) (g.L.Link.given link) in
    let old = g.K.Sink.written c.args.sink.now in
    let new = g.K.Sink.written c.put_end-in-Lack.new.sink in
    let before = g.K.Sink.faults c.args.sink.now in
    let after = g.K.Sink.faults c.put_end-in-Lack.new.sink in
    let end : Ending = record { status = ShelfFault; text = shelf_fault c.in-Lack.name.now } in
    let put : IsPutStep told told (Lack c.in-Lack.name) old new before after c.put_end-in-Lack.result =
    inl (end, (refl, refl), put-if c.lack.result end old new before after c.put_end-in-Lack.result c.lack.ensures c.put_end-in-Lack.ensures) in
    subst (λ (s : Step). IsPutStep told told s old new before after c.put_end-in-Lack.result) (sym c.in-Lack.is) put

pub returns-in-Serve-clause-put : goal.returns-in-Serve-clause-put
returns-in-Serve-clause-put g c =
    let link = c.args.link.now in
    let later = c.serve_node.new.link in
    let told = tells_of (g.L.Link.bound link) (g.L.Link.taken link) (g.L.Link.given link) in
    let tells = tells_of (g.L.Link.bound later) (g.L.Link.taken later) (g.L.Link.given later) in
    let old = g.K.Sink.written c.args.sink.now in
    let new = g.K.Sink.written c.put_end-in-Serve.new.sink in
    let before = g.K.Sink.faults c.args.sink.now in
    let after = g.K.Sink.faults c.put_end-in-Serve.new.sink in
    let put = put-served c.serve_node.result c.in-Serve.plan c.in-Serve.node c.in-Serve.turns told tells old new before after c.put_end-in-Serve.result c.serve_node.ensures.ending c.put_end-in-Serve.ensures in
    subst (λ (s : Step). IsPutStep told tells s old new before after c.put_end-in-Serve.result) (sym c.in-Serve.is) put
