use Rattle.std.proofs.Common.{map}
use Rattle.circus_expression.specs.ExpressionOf.{place_of}
use Rattle.circus_statement.proofs.Steps.{into_is}
use Rattle.circus_statement.proofs.part_reading.into.Goals as goal

pub returns : goal.returns
returns c = into_is c.args.levels c.args.reader.now c.word.new.self c.places.new.reader (map place_of c.in_ok-places.places) c.place-at.result c.place-at.ensures c.word.ensures c.in_ok-places.ensures
