use Rattle.std.proofs.Common.{◌≡◌, ◌++◌, All, string_bytes, take, drop}
use Rattle.circus_schedule.specs.ScheduleText.{IsShort, lines_text}
use Rattle.circus_simulation.proofs.schedule.show_lines.Given as goal

-- what was written and the text of the lines that are left are the whole, and those before them are short
abbrev pub invariant-loop-line : goal.invariant-loop-line
invariant-loop-line g l =
    let text_of = lines_text (g.N.Naming.names l.names).node in
    record {
      whole : string_bytes l.text ++ text_of (drop l.line-index l.lines) ≡ text_of l.lines;
      short : All IsShort (take l.line-index l.lines);
    }
