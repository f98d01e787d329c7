use Rattle.std.proofs.Common.{◌≡◌, ◌∙◌, ◌+◌, ◌-◌, ap, take, drop, arith}
use Rattle.circus_outside.specs.Told.{told_more}
use Rattle.circus_report.specs.Writing.{WritesPart}
use Rattle.circus_report.proofs.ToldLemmas.{told_more-take, WritesPart-behind}
use Rattle.circus_report.proofs.put.put_lines.Goals as goal

pub loop-at-preserved : goal.loop-at-preserved
loop-at-preserved g c =
    let old = g.K.Sink.written c.args.sink.now in
    let middle = g.K.Sink.written c.loop-at.sink in
    let new = g.K.Sink.written c.put_line.new.sink in
    let at = c.loop-at.at in
    let end = c.line_end-end.result in
    let text = c.args.text.now in
    let written : new ≡ told_more middle (take (end - at) (drop at text)) = c.in-Ok.ensures.written in
    let whole : at + (end - at) ≡ end = omega arith in
    record {
      within = c.line_end-end.ensures.within;
      written =
          told_more-take old middle new text at (end - at) c.loop-at.invariant.written written
          ∙ ap (λ n. told_more old (take n text)) whole;
      count = c.in-Ok.ensures.count ∙ c.loop-at.invariant.count;
    }

pub returns-in-Err-clause-part : goal.returns-in-Err-clause-part
returns-in-Err-clause-part g c =
    let old = g.K.Sink.written c.args.sink.now in
    let middle = g.K.Sink.written c.loop-at.sink in
    let new = g.K.Sink.written c.put_line.new.sink in
    let at = c.loop-at.at in
    let end = c.line_end-end.result in
    let text = c.args.text.now in
    let part : WritesPart middle new (take (end - at) (drop at text)) = c.in-Err.ensures.part in
    WritesPart-behind old middle new text at (end - at) c.loop-at.invariant.written part
