use Rattle.std.proofs.Common.{◌≡◌, None, ℕ, ap, subst}
use Rattle.circus_machine.specs.declared.text.TextModule.{TextModule}
use Rattle.circus_record.specs.Naming.{names_of}
use Rattle.circus_world.specs.WorldState.{WorldState}
use Rattle.circus_report.specs.Run.{beginning}
use Rattle.circus_simulation.specs.Seen.Simulated.{world_of}
use Rattle.circus_program.specs.Replay.{replay_lines}
use Rattle.circus_program.specs.Seen.Put.{IsPutEnd}
use Rattle.circus_plan_modules.specs.Seen.Behaving.{declared_signature, turn, first}
use Rattle.circus_program.specs.Seen.Ready.{end_by}
use Rattle.circus_program.proofs.Pieces.{put-left}
use Rattle.circus_program.proofs.Following.{put-stopped, begun-boot, part-boot}
use Rattle.circus_program.proofs.replay.report.Goals as goal

pub returns-in-Ok : goal.returns-in-Ok
returns-in-Ok g c =
    let s = c.args.simulated in
    let lines = c.args.lines.now in
    let names = names_of s.hosts s.names in
    let whole = end_by None names lines (world_of s.world) in
    let old = g.K.Sink.written c.args.sink.now in
    let now = g.K.Sink.written c.begin.new.sink in
    let new = g.K.Sink.written c.follow.new.sink in
    let begins = g.K.Sink.faults c.begin.new.sink in
    let after = g.K.Sink.faults c.follow.new.sink in
    let left = replay_lines declared_signature turn names 1 lines s.world in
    let here : replay_lines declared_signature turn names 1 lines c.in-Ok.running ≡ left = ap (λ (w : WorldState TextModule). replay_lines declared_signature turn names 1 lines w) c.in-Ok.ensures.same in
    subst (λ (before : ℕ). IsPutEnd whole old new before after c.follow.result) c.in-Ok.ensures.count
    (put-left whole old left now new begins after c.follow.result
    (begun-boot declared_signature turn first names lines s.world old now c.in-Ok.ensures.put)
    (subst (λ e. IsPutEnd e now new begins after c.follow.result) here c.follow.ensures))

pub returns : goal.returns
returns g c =
    let s = c.args.simulated in
    let lines = c.args.lines.now in
    let names = names_of s.hosts s.names in
    let old = g.K.Sink.written c.args.sink.now in
    let now = g.K.Sink.written c.begin.new.sink in
    put-stopped (beginning s.world) (end_by None names lines (world_of s.world)) old old now (g.K.Sink.faults c.args.sink.now) (g.K.Sink.faults c.begin.new.sink) c.in-Err.fault c.end_of_stop.result
    c.end_of_stop.ensures.sink c.end_of_stop.ensures.memory c.in-Err.ensures.put c.in-Err.ensures.rose (part-boot declared_signature turn first names lines s.world old now)
