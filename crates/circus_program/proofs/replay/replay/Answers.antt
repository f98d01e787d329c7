use Rattle.std.proofs.Common.{List, Option, None, Some, sym, ap, subst, ◌∙◌}
use Rattle.circus_idl.specs.declared.interface.Procedure.{Procedure}
use Rattle.circus_record.specs.Naming.{names_of}
use Rattle.circus_schedule.specs.declared.line.Line.{Line}
use Rattle.circus_commands.specs.Ending.{Ending}
use Rattle.circus_simulation.specs.Seen.Simulated.{world_of}
use Rattle.circus_program.specs.Seen.Put.{IsPutEnd}
use Rattle.circus_program.specs.Seen.Ready.{end_by}
use Rattle.circus_program.proofs.replay.replay.Goals as goal

pub returns-in-None : goal.returns-in-None
returns-in-None g c =
    let r = c.args.ready in
    let old = g.K.Sink.written c.args.sink.now in
    let new = g.K.Sink.written c.report.new.sink in
    let before = g.K.Sink.faults c.args.sink.now in
    let after = g.K.Sink.faults c.report.new.sink in
    let end : Option (List (List Procedure)) → List Line → Ending = λ procedures lines.
    end_by procedures (names_of r.simulated.hosts r.simulated.names) lines (world_of r.simulated.world) in
    subst (λ (e : Ending). IsPutEnd e old new before after c.report.result) (ap (λ (l : List Line). end None l) c.as_slice.ensures ∙ ap (λ o. end o r.lines) (sym c.in-None.is)) c.report.ensures

pub returns : goal.returns
returns g c =
    let r = c.args.ready in
    let old = g.K.Sink.written c.args.sink.now in
    let new = g.K.Sink.written c.draw.new.sink in
    let before = g.K.Sink.faults c.args.sink.now in
    let after = g.K.Sink.faults c.draw.new.sink in
    let end : Option (List (List Procedure)) → List Line → Ending = λ procedures lines.
    end_by procedures (names_of r.simulated.hosts r.simulated.names) lines (world_of r.simulated.world) in
    subst (λ (e : Ending). IsPutEnd e old new before after c.draw.result) (ap (λ (l : List Line). end (Some c.in-Some.procedures) l) c.as_slice-in-Some.ensures ∙ ap (λ o. end o r.lines) (sym c.in-Some.is)) c.draw.ensures
