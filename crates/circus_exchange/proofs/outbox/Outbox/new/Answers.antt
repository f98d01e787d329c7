use Rattle.circus_exchange.proofs.Knowing.{known_nothing}
use Rattle.circus_exchange.proofs.outbox.Outbox.new.Goals as goal

pub invariant_of-result : goal.invariant_of-result
invariant_of-result c = known_nothing c.new.result c.new-2.result c.new-2.ensures
