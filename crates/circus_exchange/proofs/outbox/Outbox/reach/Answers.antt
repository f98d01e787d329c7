use Rattle.std.proofs.Common.{sym, subst}
use Rattle.circus_exchange.specs.Seen.Known.{AreKnown}
use Rattle.circus_exchange.proofs.Knowing.{known_more}
use Rattle.circus_exchange.proofs.outbox.Outbox.reach.Goals as goal

pub invariant_of-self : goal.invariant_of-self
invariant_of-self c = subst (λ m. AreKnown m c.self.inside.messages) (sym c.set.ensures) (known_more c.self.inside.progress c.self.inside.messages c.args.call _ c.self.invariant)
