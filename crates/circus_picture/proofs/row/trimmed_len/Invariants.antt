use Rattle.std.proofs.Common.{◌≡◌, ◌+◌, ◌≤◌, length, take}
use Rattle.std.specs.Prelude.{◌==◌}
use Rattle.std.specs.List.{suffix_len}
use Rattle.circus_picture.specs.Row.{blank}
use Rattle.circus_picture.proofs.row.trimmed_len.Given as goal

-- what was left out are blanks
abbrev pub invariant-loop-len : goal.invariant-loop-len
invariant-loop-len l =
    (l.len ≤ length l.text)
    × (l.len + suffix_len (λ character. character == blank) l.text
    ≡ length l.text + suffix_len (λ character. character == blank) (take l.len l.text))

abbrev pub decreases-loop-len : goal.decreases-loop-len
decreases-loop-len l = l.len
