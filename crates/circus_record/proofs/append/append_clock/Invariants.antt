use Rattle.std.proofs.Common.{◌≡◌, ◌++◌, string_bytes, take}
use Rattle.circus_value.specs.ThreadText.{numbers_behind}
use Rattle.circus_record.proofs.append.append_clock.Given as goal

-- the front of the others is added behind the first count
abbrev pub invariant-loop-count : goal.invariant-loop-count
invariant-loop-count l =
    string_bytes l.text ≡ string_bytes l.initial.text ++ numbers_behind 44 (take l.count-index l.others)
