use Rattle.std.proofs.Common.{take}
use Rattle.std.specs.Fmt.{HasWritten, IsPlainFormatter}
use Rattle.circus_value.specs.ThreadText.{numbers_behind}
use Rattle.circus_value.proofs.thread_text.PathTextDisplay.fmt.Given as goal

-- the front of the asks is written
abbrev pub invariant-loop-number : goal.invariant-loop-number
invariant-loop-number g l =
    IsPlainFormatter l.initial.f → HasWritten g.W.Write.write_str_gives l.initial.f (numbers_behind 46 (take l.number-index l.number-items)) l.f
