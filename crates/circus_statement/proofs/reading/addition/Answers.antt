use Rattle.circus_expression.specs.ExpressionOf.{tree_of, place_of}
use Rattle.circus_statement.proofs.Steps.{addition_is}
use Rattle.circus_statement.proofs.reading.addition.Goals as goal

pub returns : goal.returns
returns c = addition_is c.args.levels c.args.reader.now c.word.new.self c.expression_text.new.reader c.word-2.new.self c.place_text.new.reader c.sign.new.self (tree_of c.in_ok-value.value) (place_of c.in_ok-place.place) c.word.ensures c.in_ok-value.ensures c.word-2.ensures c.in_ok-place.ensures c.sign.ensures
