use Rattle.std.proofs.Common.{◌≡◌, ◌≤◌, take}
use Rattle.circus_text.specs.Form.{greatest_number, number_value}
use Rattle.circus_text.proofs.number.number_of.Given as goal

-- the value of the digits so far
abbrev pub invariant-loop-digit : goal.invariant-loop-digit
invariant-loop-digit l = record { value : l.value ≡ number_value (take l.digit-index l.digits); fits : l.value ≤ greatest_number }
