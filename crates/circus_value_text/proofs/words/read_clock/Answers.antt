use Rattle.std.proofs.Common.{◌∙◌, ◌+◌, ◌-◌, drop, sym, ap}
use Rattle.circus_value_text.specs.WordReading.{counts_read}
use Rattle.circus_value_text.specs.Seen.Given.{count_mark}
use Rattle.circus_value_text.proofs.PieceLemmas.{octets_before}
use Rattle.circus_value_text.proofs.WordLemmas.{counts_more}
use Rattle.circus_value_text.proofs.words.read_clock.Goals as goal

pub loop-preserved : goal.loop-preserved
loop-preserved c =
    let text = c.args.text.now in
    let mark = rw c.count_mark.ensures at c.in_ok-inner.ensures.1 in
    let more = counts_more c.args.count c.loop.counter c.in_ok-number.number c.loop.clock (drop c.loop.place text) (drop c.in_ok-inner.inner text) (drop c.in_ok-number.next text) _ c.loop-test.true mark c.in_ok-number.ensures.1 c.loop.invariant.read in
    record {
      within = c.in_ok-number.ensures.0;
      read = more ∙ ap (λ ns. octets_before ns (counts_read (c.args.count - (c.loop.counter + 1)) (count_mark ns) (drop c.in_ok-number.next text))) (sym c.in_ok-push.ensures.ok);
    }
