use Rattle.std.proofs.Common.{subst, string_bytes, All, List, take_all}
use Rattle.std.proofs.lemmas.List.Elements.{All-more}
use Rattle.circus_schedule.specs.declared.line.Line.{Line}
use Rattle.circus_schedule.specs.declared.line.Line.TheVariants.{Deliver}
use Rattle.circus_schedule.specs.ScheduleText.{IsShort, lines_text}
use Rattle.circus_simulation.proofs.Writing.{line_added}
use Rattle.circus_simulation.proofs.schedule.show_lines.Goals as goal

pub loop-line-preserved : goal.loop-line-preserved
loop-line-preserved g c =
    let lines = c.args.lines.now in
    let place = c.loop-line.line-index in
    record {
      whole = line_added (g.N.Naming.names c.args.names.now).node lines place (string_bytes c.loop-line.text) (string_bytes c.append_line.new.text)
          (lines_text (g.N.Naming.names c.args.names.now).node lines) c.loop-line-test.true c.in_ok-append_line.ensures.text c.loop-line.invariant.whole;
      short = All-more IsShort lines place (Deliver 0) c.loop-line-test.true c.loop-line.invariant.short c.in_ok-append_line.ensures.short;
    }

pub returns-clause-short : goal.returns-clause-short
returns-clause-short g c =
    subst (λ (lines : List Line). All IsShort lines) (take_all c.loop-line.line-index c.args.lines.now c.loop-line-test.false) c.loop-line.invariant.short
