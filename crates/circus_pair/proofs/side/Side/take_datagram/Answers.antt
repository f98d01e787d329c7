use Rattle.std.proofs.Common.{ap, sym, ◌∙◌}
use Rattle.circus_exchange.specs.declared.exchange.Exchange.{Exchange}
use Rattle.circus_segment.specs.Seen.Pieces.{piece}
use Rattle.circus_pair.proofs.Sides.{next_after}
use Rattle.circus_pair.proofs.side.Side.take_datagram.Goals as goal

pub invariant_of-self-in-Ok : goal.invariant_of-self-in-Ok
invariant_of-self-in-Ok c = (c.self.invariant.0 ∙ sym (next_after c.self.inside.pair (piece c.in-Ok.segment)) ∙ sym (ap (λ (e : Exchange). e.next) c.in_ok-taken-in-Ok.ensures.state), c.take.ensures.down ∙ c.self.invariant.1)
