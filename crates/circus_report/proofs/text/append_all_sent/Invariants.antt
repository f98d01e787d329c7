use Rattle.std.proofs.Common.{◌≡◌, [], ◌++◌, take}
use Rattle.circus_record.specs.Naming.{names_of}
use Rattle.circus_report.specs.Report.{sent_lines}
use Rattle.circus_report.proofs.text.append_all_sent.Given as goal

-- the lines of the front are added
abbrev pub invariant-loop-number : goal.invariant-loop-number
invariant-loop-number l =
    l.text.items ≡ l.fn.text.items ++ sent_lines (names_of l.nodes []) 0 (take l.number l.all)
