use Rattle.std.proofs.Common.{◌∙◌, ◌+◌, drop, sym, ap}
use Rattle.circus_value_text.proofs.PieceLemmas.{octets_before, octets_left, octets_more, octets_end}
use Rattle.circus_value_text.proofs.piece.read_octets.Goals as goal

pub returns-in-None : goal.returns-in-None
returns-in-None c = (
  c.loop.invariant.within,
  octets_end c.args.most c.loop.counter c.loop.octets (drop c.loop.place c.args.text.now) _ c.loop-test.true c.in-None.ensures c.loop.invariant.read,
)

pub loop-preserved : goal.loop-preserved
loop-preserved c =
    let text = c.args.text.now in
    let more = octets_more c.args.most c.loop.counter c.in-Some.byte c.loop.octets (drop c.loop.place text) (drop c.in-Some.next text) _ c.loop-test.true c.in-Some.ensures.1 c.loop.invariant.read in
    record {
      within = c.in-Some.ensures.0;
      read = more ∙ ap (λ ds. octets_before ds (octets_left c.args.most (c.loop.counter + 1) (drop c.in-Some.next text))) (sym c.in_ok-push-in-Some.ensures.ok);
    }
