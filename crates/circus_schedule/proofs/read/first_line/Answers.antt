use Rattle.std.proofs.Common.{◌∙◌, ap}
use Rattle.circus_schedule.specs.TextLines.{lines_of}
use Rattle.circus_schedule.proofs.LineTexts.{lines_of-cut, lines_of-last}
use Rattle.circus_schedule.proofs.read.first_line.Goals as goal

pub returns-in-Some : goal.returns-in-Some
returns-in-Some c =
    let cut = c.in-Some.ensures.some in
    ap lines_of cut.0 ∙ lines_of-cut c.in-Some.cut.0.now c.in-Some.cut.1.now cut.1

pub returns-in-None : goal.returns-in-None
returns-in-None c = lines_of-last c.args.text.now c.requires c.in-None.ensures.none
