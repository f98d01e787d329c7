use Rattle.std.proofs.Common.{subst}
use Rattle.circus_record.specs.Naming.{names_of}
use Rattle.circus_commands.specs.Ending.{Ending}
use Rattle.circus_plan_modules.specs.Seen.Behaving.{declared_signature, turn, first}
use Rattle.circus_program.specs.Seen.Put.{IsPutEnd}
use Rattle.circus_program.proofs.PicturesAlike.{pictured_as}
use Rattle.circus_program.proofs.drawing.draw.Goals as goal

pub returns : goal.returns
returns g c =
    let s = c.args.simulated in
    let old = g.K.Sink.written c.args.sink.now in
    let new = g.K.Sink.written c.draw_world.new.sink in
    let before = g.K.Sink.faults c.args.sink.now in
    let after = g.K.Sink.faults c.draw_world.new.sink in
    subst (λ (e : Ending). IsPutEnd e old new before after c.draw_world.result)
    (pictured_as declared_signature turn first (names_of s.hosts s.names) c.args.procedures.now c.args.lines.now s.world) c.draw_world.ensures
