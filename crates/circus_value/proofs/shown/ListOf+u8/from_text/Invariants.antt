use Rattle.std.proofs.Common.{◌≡◌, take}
use Rattle.circus_value.proofs.shown.ListOf+u8.from_text.Given as goal

-- the front of the text was added
abbrev pub invariant-loop-byte : goal.invariant-loop-byte
invariant-loop-byte l = l.octets ≡ take l.byte-index l.byte-items
