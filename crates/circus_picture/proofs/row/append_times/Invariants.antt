use Rattle.std.proofs.Common.{◌≡◌, ◌++◌}
use Rattle.std.specs.Prelude.{replicate}
use Rattle.circus_picture.proofs.row.append_times.Given as goal

-- it was added so often
abbrev pub invariant-loop-each : goal.invariant-loop-each
invariant-loop-each l = l.row ≡ l.fn.row ++ replicate l._each l.character
