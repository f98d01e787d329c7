use Rattle.std.proofs.Common.{ℕ, ◌+◌, ◌∙◌, List, [], ◌∷◌, All, get_or, drop, drop_of_length-le, refl, sym, ap, subst, arith, Err}
use Rattle.std.specs.Prelude.{IsAscii}
use Rattle.circus_collate.specs.declared.deployment.Deployment.{Deployment}
use Rattle.circus_collate.specs.declared.deployment.Host.{Host}
use Rattle.circus_record.specs.Naming.{host_name, names_of}
use Rattle.circus_schedule.specs.declared.line.Line.{Line}
use Rattle.circus_schedule.specs.declared.line.Line.TheVariants.{Deliver}
use Rattle.circus_schedule.specs.Meaning.{NamesBelow}
use Rattle.circus_report.specs.Report.{rest_text}
use Rattle.circus_report.specs.Run.{IsPut}
use Rattle.circus_report.specs.Writing.{Writes}
use Rattle.circus_commands.specs.declared.status.Status.TheVariants.{Done}
use Rattle.circus_program.specs.Replay.{replay_lines}
use Rattle.circus_program.specs.Seen.Put.{IsPutEnd}
use Rattle.circus_simulation.proofs.SteppingLines.{stepped_keeps}
use Rattle.circus_program.proofs.Pieces.{begun-none, begun-as, part-left}
use Rattle.circus_program.proofs.Following.{lines_from, put-stopped, begun-next, put-ended, put-done}
use Rattle.circus_program.proofs.replay.follow.Goals as goal

pub loop-place-init : goal.loop-place-init
loop-place-init g c =
    record {
      hosts = c.requires.hosts;
      nodes = c.requires.nodes;
      steps = omega arith;
      begun = begun-none _ (g.K.Sink.written c.args.sink.now);
      count = refl;
    }

pub line-requires-clause-named : goal.line-requires-clause-named
line-requires-clause-named g c =
    subst (λ (n : ℕ). NamesBelow n (get_or c.args.lines.now c.loop-place.place (Deliver 0))) (sym c.loop-place.invariant.nodes)
    (c.requires.below c.loop-place.place (Deliver 0) c.loop-place-test.true)

pub returns-in-Err : goal.returns-in-Err
returns-in-Err g c =
    let declared = g.M.Module.declared in
    let turn = g.M.Module.turn in
    let hosts = c.args.hosts.now in
    let names = names_of hosts c.args.names.now in
    let lines = c.args.lines.now in
    let place = c.loop-place.place in
    let line = get_or lines place (Deliver 0) in
    let w = c.loop-place.running in
    let whole = replay_lines declared turn names 1 lines c.args.running in
    let old = g.K.Sink.written c.args.sink.now in
    let now = g.K.Sink.written c.loop-place.sink in
    let new = g.K.Sink.written c.end_of_lines.new.sink in
    let after = g.K.Sink.faults c.end_of_lines.new.sink in
    let begun = begun-as whole old _ (replay_lines declared turn names (place + 1) (line ∷ drop (place + 1) lines) w) now
    (ap (λ (l : List Line). replay_lines declared turn names (place + 1) l w) (lines_from lines place (Deliver 0) c.loop-place-test.true)) c.loop-place.invariant.begun in
    subst (λ (before : ℕ). IsPutEnd whole old new before after c.end_of_lines.result) c.loop-place.invariant.count
    (put-ended declared turn whole old hosts c.args.names.now (place + 1) line (drop (place + 1) lines) w now (g.K.Sink.written c.line.new.sink) new
    (g.K.Sink.faults c.loop-place.sink) (g.K.Sink.faults c.line.new.sink) after c.in-Err.fault c.end_of_lines.result
    begun c.in-Err.ensures.run c.in-Err.ensures.rose c.in-Err.ensures.count c.end_of_lines.ensures)

pub loop-place-preserved : goal.loop-place-preserved
loop-place-preserved g c =
    let declared = g.M.Module.declared in
    let turn = g.M.Module.turn in
    let names = names_of c.args.hosts.now c.args.names.now in
    let lines = c.args.lines.now in
    let place = c.loop-place.place in
    let line = get_or lines place (Deliver 0) in
    let w = c.loop-place.running in
    let next = c.in-Ok.running in
    let whole = replay_lines declared turn names 1 lines c.args.running in
    let old = g.K.Sink.written c.args.sink.now in
    let now = g.K.Sink.written c.loop-place.sink in
    let begun = begun-as whole old _ (replay_lines declared turn names (place + 1) (line ∷ drop (place + 1) lines) w) now
    (ap (λ (l : List Line). replay_lines declared turn names (place + 1) l w) (lines_from lines place (Deliver 0) c.loop-place-test.true)) c.loop-place.invariant.begun in
    let keeps = stepped_keeps declared turn line w next c.in-Ok.ensures.run.1 in
    record {
      hosts = c.loop-place.invariant.hosts ∙ sym (ap (λ (d : Deployment). d.nodes) keeps.deployment);
      nodes = keeps.nodes ∙ c.loop-place.invariant.nodes;
      steps = omega (arith, keeps.steps, c.loop-place.invariant.steps);
      begun = begun-next declared turn whole old names (place + 1) line (drop (place + 1) lines) w next now (g.K.Sink.written c.line.new.sink) begun c.in-Ok.ensures.run;
      count = c.in-Ok.ensures.count ∙ c.loop-place.invariant.count;
    }

pub finish-requires-clause-nodes : goal.finish-requires-clause-nodes
finish-requires-clause-nodes g c = subst (λ (hosts : List Host). All (λ (h : Host). IsAscii (host_name h)) hosts) c.loop-place.invariant.hosts c.requires.ascii

pub returns-in-Ok-finish : goal.returns-in-Ok-finish
returns-in-Ok-finish g c =
    let declared = g.M.Module.declared in
    let turn = g.M.Module.turn in
    let modules = c.args.names.now in
    let names = names_of c.args.hosts.now modules in
    let lines = c.args.lines.now in
    let place = c.loop-place.place in
    let w = c.loop-place.running in
    let whole = replay_lines declared turn names 1 lines c.args.running in
    let old = g.K.Sink.written c.args.sink.now in
    let now = g.K.Sink.written c.loop-place.sink in
    let new = g.K.Sink.written c.finish.new.sink in
    let after = g.K.Sink.faults c.finish.new.sink in
    let begun = begun-as whole old _ (replay_lines declared turn names (place + 1) [] w) now
    (ap (λ (l : List Line). replay_lines declared turn names (place + 1) l w) (drop_of_length-le lines c.loop-place-test.false)) c.loop-place.invariant.begun in
    let written : Writes now new (rest_text names w) =
    subst (λ (hosts : List Host). Writes now new (rest_text (names_of hosts modules) w)) (sym c.loop-place.invariant.hosts) c.in-Ok-finish.ensures.put in
    subst (λ (before : ℕ). IsPutEnd whole old new before after Done) c.loop-place.invariant.count
    (put-done declared turn whole old names (place + 1) w now new (g.K.Sink.faults c.loop-place.sink) after begun written c.in-Ok-finish.ensures.count)

pub returns-in-Err-finish : goal.returns-in-Err-finish
returns-in-Err-finish g c =
    let declared = g.M.Module.declared in
    let turn = g.M.Module.turn in
    let modules = c.args.names.now in
    let names = names_of c.args.hosts.now modules in
    let lines = c.args.lines.now in
    let place = c.loop-place.place in
    let w = c.loop-place.running in
    let whole = replay_lines declared turn names 1 lines c.args.running in
    let old = g.K.Sink.written c.args.sink.now in
    let now = g.K.Sink.written c.loop-place.sink in
    let new = g.K.Sink.written c.finish.new.sink in
    let after = g.K.Sink.faults c.finish.new.sink in
    let begun = begun-as whole old _ (replay_lines declared turn names (place + 1) [] w) now
    (ap (λ (l : List Line). replay_lines declared turn names (place + 1) l w) (drop_of_length-le lines c.loop-place-test.false)) c.loop-place.invariant.begun in
    let put = subst (λ (hosts : List Host). IsPut {A = Unit {0}} (rest_text (names_of hosts modules) w) now new (Err c.in-Err-finish.fault)) (sym c.loop-place.invariant.hosts) c.in-Err-finish.ensures.put in
    subst (λ (before : ℕ). IsPutEnd whole old new before after c.end_of_stop.result) c.loop-place.invariant.count
    (put-stopped (rest_text names w) whole old now new (g.K.Sink.faults c.loop-place.sink) after c.in-Err-finish.fault c.end_of_stop.result
    c.end_of_stop.ensures.sink c.end_of_stop.ensures.memory put c.in-Err-finish.ensures.rose (λ part. part-left whole old (replay_lines declared turn names (place + 1) [] w) now new begun part))
