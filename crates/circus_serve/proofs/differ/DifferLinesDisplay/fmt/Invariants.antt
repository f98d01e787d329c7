use Rattle.std.proofs.Common.{take}
use Rattle.std.specs.Fmt.{HasWritten, IsPlainFormatter}
use Rattle.std.specs.List.{flat_map}
use Rattle.circus_serve.specs.NodeText.{differ_line}
use Rattle.circus_serve.proofs.differ.DifferLinesDisplay.fmt.Given as goal

-- the front of the differences is written
abbrev pub invariant-loop-difference : goal.invariant-loop-difference
invariant-loop-difference g l =
    IsPlainFormatter l.initial.f → HasWritten g.W.Write.write_str_gives l.initial.f (flat_map (differ_line (g.N.Naming.names l.names)) (take l.difference-index l.difference-items)) l.f
