use Rattle.std.proofs.Common.{◌≡◌, take}
use Rattle.circus_stub.specs.Flat.{label_numbers}
use Rattle.circus_stub.proofs.compiler.numbers.Given as goal

-- the numbers so far are those of the front of the labels
abbrev pub invariant-loop-label : goal.invariant-loop-label
invariant-loop-label l = l.numbers ≡ label_numbers (take l.label-index l.labels)
