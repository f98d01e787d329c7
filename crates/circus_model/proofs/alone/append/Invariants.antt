use Rattle.std.proofs.Common.{◌≡◌, ◌++◌}
use Rattle.circus_model.proofs.alone.append.Given as goal

abbrev pub invariant-loop-run : goal.invariant-loop-run
invariant-loop-run l = l.into.items ≡ l.fn.into.items ++ l.yielded
