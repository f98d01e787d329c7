use Rattle.std.proofs.Common.{◌≡◌, length, map}
use Rattle.circus_syntax.proofs.Tokens.{is_comma}
use Rattle.circus_expression.specs.ExpressionOf.{place_of}
use Rattle.circus_expression.specs.Standing.{show_as, place_stands_for}
use Rattle.circus_statement.specs.StatementReading.{places_within}
use Rattle.circus_statement.specs.StatementStanding.{places_stand_for}
use Rattle.circus_statement.proofs.Steps.{go_on, place_item}
use Rattle.circus_statement.proofs.part_reading.places_within.Given as goal

-- the places so far and those that follow are the places
abbrev pub invariant-loop-reader : goal.invariant-loop-reader
invariant-loop-reader l = show_as places_stand_for (places_within l.levels l.fn.reader) ≡ go_on place_stands_for is_comma (place_item l.levels) (map place_of l.places) l.reader

abbrev pub decreases-loop-reader : goal.decreases-loop-reader
decreases-loop-reader l = length l.reader.rest
