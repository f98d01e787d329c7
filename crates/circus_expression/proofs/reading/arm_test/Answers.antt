use Rattle.circus_expression.specs.ExpressionOf.{tree_of}
use Rattle.circus_expression.proofs.Stands.{arm_test_is}
use Rattle.circus_expression.proofs.reading.arm_test.Goals as goal

pub returns : goal.returns
returns c = arm_test_is c.args.reader.now c.word.new.self c.name.new.self (tree_of c.args.left) c.in_ok-operand.operand c.in_ok-arm.arm c.word.ensures c.in_ok-arm.ensures c.in_ok-operand.ensures
