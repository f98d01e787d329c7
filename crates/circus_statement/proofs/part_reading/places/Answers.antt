use Rattle.std.proofs.Common.{map}
use Rattle.circus_expression.specs.ExpressionOf.{place_of}
use Rattle.circus_statement.proofs.Steps.{places_is}
use Rattle.circus_statement.proofs.part_reading.places.Goals as goal

pub returns : goal.returns
returns c = places_is c.args.levels c.args.reader.now c.sign.new.self c.places_within.new.reader c.sign-2.new.self (map place_of c.in_ok-places.places) c.sign.ensures c.in_ok-places.ensures c.sign-2.ensures
