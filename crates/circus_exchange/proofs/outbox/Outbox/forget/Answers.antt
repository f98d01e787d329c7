use Rattle.std.proofs.Common.{sym, subst}
use Rattle.circus_exchange.specs.Seen.Known.{AreKnown}
use Rattle.circus_exchange.proofs.Knowing.{known_less}
use Rattle.circus_exchange.proofs.outbox.Outbox.forget.Goals as goal

pub invariant_of-self : goal.invariant_of-self
invariant_of-self c = subst (λ m. AreKnown c.self.inside.progress m) (sym c.remove.ensures) (known_less c.self.inside.progress c.self.inside.messages c.args.call c.self.invariant)
