use Rattle.std.proofs.Common.{string_bytes}
use Rattle.circus_value.proofs.ShownMore.{byte_added}
use Rattle.circus_value.proofs.shown.append_text.Goals as goal

pub loop-byte-preserved : goal.loop-byte-preserved
loop-byte-preserved c =
    byte_added (string_bytes c.push_str.new.self) (string_bytes c.loop-byte.text) (string_bytes c.append_byte.new.text)
    c.args.bytes.now c.loop-byte.byte-index 0 c.loop-byte-test.true c.loop-byte.invariant c.in_ok-append_byte.ensures
