use Rattle.std.proofs.Common.{◌≡◌, take}
use Rattle.circus_stub.specs.Packed.{words}
use Rattle.circus_stub.proofs.pack.pack_values.Given as goal

-- the front of the words is written
abbrev pub invariant-loop-number : goal.invariant-loop-number
invariant-loop-number l = l.bytes ≡ words (take l.number-index l.numbers)
