use Rattle.std.proofs.Common.{map}
use Rattle.std.specs.Prelude.{option_map}
use Rattle.circus_expression.specs.ExpressionOf.{place_of}
use Rattle.circus_statement.proofs.Steps.{handled_other, handled_error}
use Rattle.circus_statement.proofs.reading.handler_head.Goals as goal

pub returns-then-sees_word : goal.returns-then-sees_word
returns-then-sees_word c = handled_other c.args.levels c.args.reader.now c.word.new.self c.sees_word.result c.sees_word.ensures c.if-sees_word.true c.word.ensures

pub returns : goal.returns
returns c = handled_error c.args.levels c.args.reader.now c.name.new.self c.handled_places.new.reader c.in_ok-error.error (option_map (map place_of) c.in_ok-places.places) c.sees_word.result c.sees_word.ensures c.if-sees_word.false c.in_ok-error.ensures c.in_ok-places.ensures
