use Rattle.std.proofs.Common.{◌≡◌, ◌++◌, drop}
use Rattle.circus_value.specs.ThreadText.{numbers_behind}
use Rattle.circus_stub.proofs.show.add_numbers.Given as goal

-- the text so far and that of what is left are all
abbrev pub invariant-loop-number : goal.invariant-loop-number
invariant-loop-number l = l.text ++ numbers_behind 32 (drop l.number-index l.numbers) ≡ l.initial.text ++ numbers_behind 32 l.numbers
