use Rattle.std.proofs.Common.{map}
use Rattle.circus_expression.specs.ExpressionOf.{place_of}
use Rattle.circus_statement.proofs.Steps.{handled_places_some, handled_places_none}
use Rattle.circus_statement.proofs.part_reading.handled_places.Goals as goal

pub returns-in_ok-places : goal.returns-in_ok-places
returns-in_ok-places c = handled_places_some c.args.levels c.args.reader.now c.places.new.reader (map place_of c.in_ok-places.field-0) c.sees_sign.result c.sees_sign.ensures c.if-sees_sign.true c.in_ok-places.ensures

pub returns-else-sees_sign : goal.returns-else-sees_sign
returns-else-sees_sign c = handled_places_none c.args.levels c.args.reader.now c.sees_sign.result c.sees_sign.ensures c.if-sees_sign.false
