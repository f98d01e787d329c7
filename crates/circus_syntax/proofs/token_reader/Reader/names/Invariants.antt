use Rattle.std.proofs.Common.{◌≡◌, length}
use Rattle.circus_syntax.specs.Reading.{name, names, behind}
use Rattle.circus_syntax.proofs.Tokens.{comma_sign, is_comma}
use Rattle.circus_syntax.proofs.Loops.{goes_on}
use Rattle.circus_syntax.proofs.token_reader.Reader.names.Given as goal

-- the names so far and those that follow are the names
abbrev pub invariant-loop-self : goal.invariant-loop-self
invariant-loop-self l = names l.fn.self ≡ goes_on is_comma (behind comma_sign name) l.names l.self

abbrev pub decreases-loop-self : goal.decreases-loop-self
decreases-loop-self l = length l.self.rest
