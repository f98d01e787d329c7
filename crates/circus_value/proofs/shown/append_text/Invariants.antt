use Rattle.std.proofs.Common.{◌≡◌, ◌++◌, string_bytes, take}
use Rattle.circus_value.specs.Shown.{shown_bytes}
use Rattle.circus_value.proofs.shown.append_text.Given as goal

-- the front of the bytes is added
abbrev pub invariant-loop-byte : goal.invariant-loop-byte
invariant-loop-byte l = string_bytes l.text ≡ string_bytes l.initial.text ++ shown_bytes (take l.byte-index l.bytes)
