use Rattle.std.proofs.Common.{inl, refl}
use Rattle.circus_record.specs.Naming.{names_of}
use Rattle.circus_picture.specs.Picture.{picture_text}
use Rattle.circus_commands.specs.declared.status.Status.TheVariants.{Done}
use Rattle.circus_program.proofs.Following.{put-stopped}
use Rattle.circus_program.proofs.drawing.show.Goals as goal

pub returns-in-Ok : goal.returns-in-Ok
returns-in-Ok g c = inl (refl, c.in-Ok.ensures.put, c.in-Ok.ensures.count)

pub returns-in-Err : goal.returns-in-Err
returns-in-Err g c =
    let world = c.args.world.now in
    let text = picture_text (names_of world.deployment.nodes c.args.names.now) c.args.procedures.now c.args.lines.now world in
    let old = g.K.Sink.written c.args.sink.now in
    let new = g.K.Sink.written c.put_picture.new.sink in
    put-stopped text (record { status = Done; text = text }) old old new (g.K.Sink.faults c.args.sink.now) (g.K.Sink.faults c.put_picture.new.sink) c.in-Err.fault c.end_of_stop.result
    c.end_of_stop.ensures.sink c.end_of_stop.ensures.memory c.in-Err.ensures.put c.in-Err.ensures.rose (λ part. part)
