use Rattle.std.proofs.Common.{◌≡◌, length}
use Rattle.circus_syntax.specs.Reading.{behind}
use Rattle.circus_syntax.proofs.Tokens.{comma_sign, is_comma}
use Rattle.circus_syntax.proofs.Loops.{goes_on}
use Rattle.circus_place.specs.Seen.Reading.{own_name, own_names}
use Rattle.circus_place.proofs.value_reading.names.Given as goal

-- the names so far and those that follow are the names
abbrev pub invariant-loop-reader : goal.invariant-loop-reader
invariant-loop-reader l = own_names l.fn.reader ≡ goes_on is_comma (behind comma_sign own_name) l.names l.reader

abbrev pub decreases-loop-reader : goal.decreases-loop-reader
decreases-loop-reader l = length l.reader.rest
