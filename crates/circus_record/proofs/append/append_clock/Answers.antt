use Rattle.std.proofs.Common.{string_bytes}
use Rattle.circus_record.proofs.LinesMore.{number_added}
use Rattle.circus_record.proofs.append.append_clock.Goals as goal

pub loop-count-preserved : goal.loop-count-preserved
loop-count-preserved c =
    number_added 44 (string_bytes c.append_number.new.text) (string_bytes c.loop-count.text) (string_bytes c.append_number-in-loop-count.new.text)
    _ c.loop-count.count-index c.loop-count-test.true c.loop-count.invariant c.in_ok-append_number-2.ensures
