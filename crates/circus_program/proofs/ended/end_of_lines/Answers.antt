use Rattle.std.proofs.Common.{sym, subst, []}
use Rattle.circus_record.specs.Naming.{names_of}
use Rattle.circus_report.specs.declared.running.RunFault.{RunFault}
use Rattle.circus_commands.specs.Spent.{end_of_spent}
use Rattle.circus_program.specs.Replay.{cause_text, refuse_line}
use Rattle.circus_program.specs.Seen.Ended.{IsEndedBy}
use Rattle.circus_program.proofs.Pieces.{put-if}
use Rattle.circus_program.proofs.ended.end_of_lines.Goals as goal

pub returns-in-Illegal : goal.returns-in-Illegal
returns-in-Illegal g c =
    let names = names_of c.args.hosts.now [] in
    let old = g.K.Sink.written c.args.sink.now in
    let new = g.K.Sink.written c.put_end.new.sink in
    let before = g.K.Sink.faults c.args.sink.now in
    let after = g.K.Sink.faults c.put_end.new.sink in
    subst (λ (f : RunFault). IsEndedBy names c.args.number f old new before after c.put_end.result) (sym c.in-Illegal.is)
    (put-if c.end_of_illegal.result (refuse_line c.args.number (cause_text names c.in-Illegal.cause)) old new before after c.put_end.result c.end_of_illegal.ensures.ending c.put_end.ensures)

pub returns-in-Spent : goal.returns-in-Spent
returns-in-Spent g c =
    let names = names_of c.args.hosts.now [] in
    let old = g.K.Sink.written c.args.sink.now in
    let new = g.K.Sink.written c.put_end-in-Spent.new.sink in
    let before = g.K.Sink.faults c.args.sink.now in
    let after = g.K.Sink.faults c.put_end-in-Spent.new.sink in
    subst (λ (f : RunFault). IsEndedBy names c.args.number f old new before after c.put_end-in-Spent.result) (sym c.in-Spent.is)
    (put-if c.end_of_spent.result (end_of_spent names (c.in-Spent.node, c.in-Spent.peer)) old new before after c.put_end-in-Spent.result c.end_of_spent.ensures.ending c.put_end-in-Spent.ensures)
