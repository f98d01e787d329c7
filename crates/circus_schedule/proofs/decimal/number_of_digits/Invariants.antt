use Rattle.std.proofs.Common.{◌≡◌, ◌<◌, ◌^◌, take}
use Rattle.std.specs.Str.Parse.{AllDigits, digits_value}
use Rattle.circus_schedule.proofs.decimal.number_of_digits.Given as goal

-- the front is digits, and this is their number
abbrev pub invariant-loop-byte : goal.invariant-loop-byte
invariant-loop-byte l =
    AllDigits 10 (take l.byte-index l.text) × (l.number ≡ digits_value 10 (take l.byte-index l.text)) × (l.number < 2 ^ 64)
