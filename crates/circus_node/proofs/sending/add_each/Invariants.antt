use Rattle.std.proofs.Common.{◌≡◌, ◌++◌, map}
use Rattle.circus_node.specs.Sending.{give_to}
use Rattle.circus_node.proofs.sending.add_each.Given as goal

abbrev pub invariant-loop-bytes : goal.invariant-loop-bytes
invariant-loop-bytes l = l.gives ≡ l.initial.gives ++ map (give_to l.to) l.yielded
