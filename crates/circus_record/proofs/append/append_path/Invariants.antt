use Rattle.std.proofs.Common.{◌≡◌, ◌++◌, string_bytes, take}
use Rattle.circus_value.specs.ThreadText.{numbers_behind}
use Rattle.circus_record.proofs.append.append_path.Given as goal

-- the front of the asks is added behind the root
abbrev pub invariant-loop-number : goal.invariant-loop-number
invariant-loop-number l =
    string_bytes l.text ≡ string_bytes l.initial.text ++ numbers_behind 46 (take l.number-index l.number-items)
