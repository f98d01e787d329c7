use Rattle.std.proofs.Common.{◌≡◌, length}
use Rattle.circus_syntax.specs.Reading.{label, labels, behind}
use Rattle.circus_syntax.proofs.Tokens.{comma_sign, is_comma}
use Rattle.circus_syntax.proofs.Loops.{goes_on}
use Rattle.circus_syntax.proofs.token_reader.Reader.labels.Given as goal

-- the labels so far and those that follow are the labels
abbrev pub invariant-loop-self : goal.invariant-loop-self
invariant-loop-self l = labels l.fn.self ≡ goes_on is_comma (behind comma_sign label) l.labels l.self

abbrev pub decreases-loop-self : goal.decreases-loop-self
decreases-loop-self l = length l.self.rest
