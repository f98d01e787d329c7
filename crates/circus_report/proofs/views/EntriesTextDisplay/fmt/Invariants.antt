use Rattle.std.proofs.Common.{take}
use Rattle.std.specs.Fmt.{HasWritten, IsPlainFormatter}
use Rattle.circus_report.specs.ViewLines.{entries_text}
use Rattle.circus_report.proofs.views.EntriesTextDisplay.fmt.Given as goal

-- the front of the entries is written
abbrev pub invariant-loop-entry : goal.invariant-loop-entry
invariant-loop-entry g l =
    IsPlainFormatter l.initial.f → HasWritten g.W.Write.write_str_gives l.initial.f (entries_text (g.N.Naming.names l.names) (take l.entry-index l.entry-items)) l.f
