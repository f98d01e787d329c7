use Rattle.std.proofs.Common.{◌≡◌, ◌++◌, string_bytes, take}
use Rattle.circus_record.specs.MemberText.{runs_lines}
use Rattle.circus_record.proofs.text.append_runs.Given as goal

-- the front of the runs is added
abbrev pub invariant-loop-later : goal.invariant-loop-later
invariant-loop-later g l =
    string_bytes l.text ≡ string_bytes l.initial.text ++ runs_lines (g.N.Naming.names l.names) l.first (take l.later l.runs)
