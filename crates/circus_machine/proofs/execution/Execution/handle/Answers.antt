use Rattle.std.proofs.Common.{arith}
use Rattle.circus_machine.proofs.Leading.{reach_there}
use Rattle.circus_machine.proofs.execution.Execution.handle.Goals as goal

pub overflow_add-result-then-is_for : goal.overflow_add-result-then-is_for
overflow_add-result-then-is_for c =
    omega (arith, c.requires.place, reach_there c.args.catches.now c.loop-catch.catch-index c.catch-item.result c.loop-catch-test.true c.catch-item.is)
