use Rattle.std.proofs.Common.{List, All, sym, ap, subst, ◌∙◌}
use Rattle.std.specs.Prelude.{IsAscii}
use Rattle.circus_collate.specs.declared.deployment.Deployment.{Deployment}
use Rattle.circus_collate.specs.declared.deployment.Host.{Host}
use Rattle.circus_record.specs.Naming.{host_name, names_of}
use Rattle.circus_picture.specs.Picture.{picture_text}
use Rattle.circus_commands.specs.declared.status.Status.TheVariants.{Done}
use Rattle.circus_commands.specs.Ending.{Ending}
use Rattle.circus_program.specs.Seen.Put.{IsPutEnd}
use Rattle.circus_program.proofs.Stepping.{put-cut}
use Rattle.circus_program.proofs.drawing.draw_world.Goals as goal

pub show-requires-clause-nodes : goal.show-requires-clause-nodes
show-requires-clause-nodes g c =
    subst (λ (hosts : List Host). All (λ (h : Host). IsAscii (host_name h)) hosts)
    (c.requires.hosts ∙ sym (ap (λ (d : Deployment). d.nodes) c.in-Ok.ensures.deployed)) c.requires.ascii

pub returns-in-Ok : goal.returns-in-Ok
returns-in-Ok g c =
    let names = c.args.names.now in
    let procedures = c.args.procedures.now in
    let lines = c.args.lines.now in
    let last = c.in-Ok.world in
    let old = g.K.Sink.written c.args.sink.now in
    let new = g.K.Sink.written c.show.new.sink in
    let before = g.K.Sink.faults c.args.sink.now in
    let after = g.K.Sink.faults c.show.new.sink in
    let drawn : List Host → Ending = λ hosts. record { status = Done; text = picture_text (names_of hosts names) procedures lines last } in
    let nodes = ap (λ (d : Deployment). d.nodes) c.in-Ok.ensures.deployed ∙ sym c.requires.hosts in
    subst (λ (e : Ending). IsPutEnd e old new before after c.show.result)
    (ap drawn nodes
    ∙ sym (c.in-Ok.ensures.followed (names_of c.args.hosts.now names) (λ w. record { status = Done; text = picture_text (names_of c.args.hosts.now names) procedures lines w })))
    c.show.ensures

pub returns-in-Err : goal.returns-in-Err
returns-in-Err g c =
    let names = c.args.names.now in
    let procedures = c.args.procedures.now in
    let lines = c.args.lines.now in
    let old = g.K.Sink.written c.args.sink.now in
    let new = g.K.Sink.written c.end_of_lines.new.sink in
    put-cut g.M.Module.declared g.M.Module.turn c.args.hosts.now names (λ w. record { status = Done; text = picture_text (names_of c.args.hosts.now names) procedures lines w })
    lines c.args.world c.in-Err.cut.number c.in-Err.cut.fault old new (g.K.Sink.faults c.args.sink.now) (g.K.Sink.faults c.end_of_lines.new.sink) c.end_of_lines.result c.in-Err.ensures.followed c.end_of_lines.ensures
