use Rattle.std.proofs.Common.{take}
use Rattle.std.specs.Fmt.{HasWritten, IsPlainFormatter}
use Rattle.circus_value.specs.ThreadText.{numbers_behind}
use Rattle.circus_value.proofs.thread_text.ClockTextDisplay.fmt.Given as goal

-- the front of the others is written
abbrev pub invariant-loop-count : goal.invariant-loop-count
invariant-loop-count g l =
    IsPlainFormatter l.initial.f → HasWritten g.W.Write.write_str_gives l.initial.f (numbers_behind 44 (take l.count-index l.others)) l.f
