use Rattle.std.proofs.Common.{take}
use Rattle.std.specs.Fmt.{HasWritten, IsPlainFormatter}
use Rattle.circus_report.specs.ViewLines.{views_lines}
use Rattle.circus_report.proofs.views.ViewsTextDisplay.fmt.Given as goal

-- the front of the views is written
abbrev pub invariant-loop-view : goal.invariant-loop-view
invariant-loop-view g l =
    IsPlainFormatter l.initial.f → HasWritten g.W.Write.write_str_gives l.initial.f (views_lines (g.N.Naming.names l.names) (take l.view-index l.view-items)) l.f
