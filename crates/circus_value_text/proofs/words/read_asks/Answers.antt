use Rattle.std.proofs.Common.{◌∙◌, ◌+◌, ◌-◌, length, drop, sym, ap}
use Rattle.circus_value_text.specs.WordReading.{asks_read}
use Rattle.circus_value_text.proofs.PieceLemmas.{octets_before}
use Rattle.circus_value_text.proofs.WordLemmas.{asks_more, asks_end}
use Rattle.circus_value_text.proofs.words.read_asks.Goals as goal

pub returns-in-None : goal.returns-in-None
returns-in-None c =
    (c.loop.invariant.within, asks_end (length c.args.text.now) c.loop.counter c.loop.path (drop c.loop.place c.args.text.now) _ c.loop-test.true c.in-None.ensures c.loop.invariant.read)

pub loop-preserved : goal.loop-preserved
loop-preserved c =
    let text = c.args.text.now in
    let more = asks_more (length text) c.loop.counter c.in_ok-ask-in-Some.ask c.loop.path (drop c.loop.place text) (drop c.in-Some.inner text) (drop c.in_ok-ask-in-Some.next text) _ c.loop-test.true c.in-Some.ensures.1 c.in_ok-ask-in-Some.ensures.1 c.loop.invariant.read in
    record {
      within = c.in_ok-ask-in-Some.ensures.0;
      read = more ∙ ap (λ ns. octets_before ns (asks_read (length text - (c.loop.counter + 1)) (drop c.in_ok-ask-in-Some.next text))) (sym c.in_ok-push-in-Some.ensures.ok);
    }
