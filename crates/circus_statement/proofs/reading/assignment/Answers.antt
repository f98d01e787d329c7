use Rattle.circus_expression.specs.ExpressionOf.{tree_of, place_of}
use Rattle.circus_statement.proofs.Steps.{assignment_is}
use Rattle.circus_statement.proofs.reading.assignment.Goals as goal

pub returns : goal.returns
returns c = assignment_is c.args.levels c.args.reader.now c.place_text.new.reader c.sign.new.self c.expression_text.new.reader c.sign-2.new.self (place_of c.in_ok-place.place) (tree_of c.in_ok-value.value) c.in_ok-place.ensures c.sign.ensures c.in_ok-value.ensures c.sign-2.ensures
