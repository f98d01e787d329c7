use Rattle.std.proofs.Common.{ap, sym, ◌∙◌, ◌+◌}
use Rattle.circus_exchange.specs.declared.exchange.Exchange.{Exchange}
use Rattle.circus_pair.proofs.Sides.{next_called}
use Rattle.circus_pair.proofs.side.Side.call.Goals as goal

pub invariant_of-self-in-Ok : goal.invariant_of-self-in-Ok
invariant_of-self-in-Ok c = (ap (λ n. n + 1) c.self.invariant.0 ∙ sym (next_called c.self.inside.pair c.args.message) ∙ sym (ap (λ (e : Exchange). e.next) c.in-Ok.ensures.state), c.send_call.ensures.down ∙ c.self.invariant.1)
