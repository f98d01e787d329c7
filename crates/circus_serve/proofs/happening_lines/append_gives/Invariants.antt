use Rattle.std.proofs.Common.{◌≡◌, ◌++◌, string_bytes, take}
use Rattle.std.specs.List.{flat_map}
use Rattle.circus_serve.specs.NodeText.{give_line}
use Rattle.circus_serve.proofs.happening_lines.append_gives.Given as goal

-- the lines of the front are added
abbrev pub invariant-loop-give : goal.invariant-loop-give
invariant-loop-give g l =
    string_bytes l.text ≡ string_bytes l.fn.text ++ flat_map (give_line (g.N.Naming.names l.names)) (take l.give-index l.gives)
