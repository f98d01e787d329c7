use Rattle.std.proofs.Common.{ap, sym, ◌∙◌}
use Rattle.circus_exchange.specs.declared.exchange.Exchange.{Exchange}
use Rattle.circus_pair.proofs.Sides.{next_returned}
use Rattle.circus_pair.proofs.side.Side.give_back.Goals as goal

pub invariant_of-self-in-Ok : goal.invariant_of-self-in-Ok
invariant_of-self-in-Ok c = (c.self.invariant.0 ∙ sym (next_returned c.self.inside.pair c.args.call c.args.message) ∙ sym (ap (λ (e : Exchange). e.next) c.in-Ok.ensures.state), c.send_return.ensures.down ∙ c.self.invariant.1)
