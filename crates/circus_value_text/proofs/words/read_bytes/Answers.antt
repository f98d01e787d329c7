use Rattle.std.proofs.Common.{◌∙◌, ◌-◌, List, ℕ, length, take, drop, ap, sym}
use Rattle.circus_value_text.specs.WordReading.{bytes_of}
use Rattle.circus_value_text.proofs.WordLemmas.{bytes_before, bytes_front}
use Rattle.circus_value_text.proofs.words.read_bytes.Goals as goal

pub loop-rest-preserved : goal.loop-rest-preserved
loop-rest-preserved c =
    let rest = c.loop-rest.rest.now in
    bytes_front c.in_ok-byte_of.field-0 c.loop-rest.bytes rest _ c.in-len2-up.len_at_least c.in_ok-byte_of.ensures c.loop-rest.invariant
    ∙ ap (λ (bs : List ℕ). bytes_before bs (bytes_of (take (length rest - 2) (drop 2 rest)))) (sym c.in_ok-push.ensures.ok)
