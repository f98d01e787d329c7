use Rattle.std.proofs.Common.{◌≡◌, ◌++◌}
use Rattle.std.specs.List.{flat_map}
use Rattle.circus_node.specs.Sending.{gives_of}
use Rattle.circus_node.proofs.sending.add_all_gives.Given as goal

abbrev pub invariant-loop-batch : goal.invariant-loop-batch
invariant-loop-batch l = l.gives ≡ l.initial.gives ++ flat_map gives_of l.yielded
