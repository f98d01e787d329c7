use Rattle.std.proofs.Common.{◌≡◌, ◌++◌, ◌≤◌, string_bytes, drop}
use Rattle.circus_serve.specs.NodeText.{happened_lines}
use Rattle.circus_serve.proofs.happening_lines.append_happened.Given as goal

-- what is added and the lines of what is left are the lines of all; no more events came than what happened
abbrev pub invariant-loop-happening : goal.invariant-loop-happening
invariant-loop-happening g l =
    (string_bytes l.text ++ happened_lines (g.N.Naming.names l.names) l.number (drop l.happening-index l.all)
    ≡ string_bytes l.fn.text ++ happened_lines (g.N.Naming.names l.names) 0 l.all)
    × (l.number ≤ l.happening-index)
