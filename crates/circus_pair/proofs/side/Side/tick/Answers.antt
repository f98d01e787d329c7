use Rattle.std.proofs.Common.{ap, sym, ◌∙◌}
use Rattle.circus_exchange.specs.declared.exchange.Exchange.{Exchange}
use Rattle.circus_pair.proofs.Sides.{next_ticked}
use Rattle.circus_pair.proofs.side.Side.tick.Goals as goal

pub invariant_of-self-2 : goal.invariant_of-self-2
invariant_of-self-2 c = (c.self.invariant.0 ∙ sym (next_ticked c.self.inside.pair) ∙ sym (ap (λ (e : Exchange). e.next) c.in_ok-self-inside.ensures.state), c.tick.ensures.down ∙ c.self.invariant.1)
