use Rattle.std.proofs.Common.{◌≡◌, length, drop}
use Rattle.circus_value_text.specs.WordReading.{bytes_of}
use Rattle.circus_value_text.proofs.WordLemmas.{bytes_before}
use Rattle.circus_value_text.proofs.words.read_bytes.Given as goal

-- the bytes so far stand in front of those that are left
abbrev pub invariant-loop-rest : goal.invariant-loop-rest
invariant-loop-rest l = bytes_of (drop l.at l.text) ≡ bytes_before l.bytes (bytes_of l.rest)

abbrev pub decreases-loop-rest : goal.decreases-loop-rest
decreases-loop-rest l = length l.rest
