use Rattle.std.proofs.Common.{◌≡◌, length}
use Rattle.circus_syntax.specs.Reading.{behind}
use Rattle.circus_syntax.proofs.Tokens.{comma_sign, is_comma}
use Rattle.circus_syntax.proofs.Loops.{goes_on}
use Rattle.circus_place.specs.Seen.Reading.{attribute, attributes}
use Rattle.circus_place.proofs.reading.attributes.Given as goal

-- the attributes so far and those that follow are the attributes
abbrev pub invariant-loop-reader : goal.invariant-loop-reader
invariant-loop-reader l = attributes l.fn.reader ≡ goes_on is_comma (behind comma_sign attribute) l.attributes l.reader

abbrev pub decreases-loop-reader : goal.decreases-loop-reader
decreases-loop-reader l = length l.reader.rest
