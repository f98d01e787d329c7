use Rattle.std.proofs.Common.{string_bytes}
use Rattle.circus_record.proofs.LinesMore.{number_added}
use Rattle.circus_record.proofs.append.append_path.Goals as goal

pub loop-number-preserved : goal.loop-number-preserved
loop-number-preserved c =
    number_added 46 (string_bytes c.push_str-2.new.self) (string_bytes c.loop-number.text) (string_bytes c.append_number.new.text)
    c.as_slice-number-items.result.now c.loop-number.number-index c.loop-number-test.true c.loop-number.invariant c.in_ok-append_number.ensures
