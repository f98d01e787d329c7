use Rattle.std.proofs.Common.{◌≡◌, ◌≤◌, ◌-◌, ◌∙◌, ap, length, take, drop, length-drop, arith}
use Rattle.circus_outside.specs.Told.{told_more}
use Rattle.circus_report.proofs.ToldLemmas.{told_more-take, take-behind, WritesPart-take}
use Rattle.circus_report.proofs.put.put_line.Goals as goal

pub loop-at-preserved : goal.loop-at-preserved
loop-at-preserved g c =
    let old = g.K.Sink.written c.args.sink.now in
    let middle = g.K.Sink.written c.loop-at.sink in
    let new = g.K.Sink.written c.put.new.self in
    let line = c.args.line.now in
    let at = c.loop-at.at in
    let count = c.in-Ok.count in
    let behind : take (length line - at) (drop at line) ≡ drop at line = take-behind line at in
    let part : count ≤ length (take (length line - at) (drop at line)) = c.in-Ok.ensures.part in
    let written : new ≡ told_more middle (take count (take (length line - at) (drop at line))) = c.in-Ok.ensures.written in
    record {
      within = omega (arith, part, ap length behind, length-drop at line);
      written =
          told_more-take old middle new line at count c.loop-at.invariant.written
          (written ∙ ap (λ l. told_more middle (take count l)) behind);
      count = c.in-Ok.ensures.counts ∙ c.loop-at.invariant.count;
    }

pub returns-in-Err-NoMemory-clause-part : goal.returns-in-Err-NoMemory-clause-part
returns-in-Err-NoMemory-clause-part g c =
    WritesPart-take _ _ _ c.loop-at.at (c.in-Err-NoMemory.ensures.refused ∙ c.loop-at.invariant.written)

pub returns-in-Err-Failed-clause-part : goal.returns-in-Err-Failed-clause-part
returns-in-Err-Failed-clause-part g c =
    WritesPart-take _ _ _ c.loop-at.at (c.in-Err-Failed.ensures.refused ∙ c.loop-at.invariant.written)
