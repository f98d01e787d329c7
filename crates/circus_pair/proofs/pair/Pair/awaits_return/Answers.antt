use Rattle.std.proofs.Common.{ap, ◌∙◌}
use Rattle.circus_exchange.specs.declared.exchange.Exchange.{Exchange}
use Rattle.circus_exchange.specs.Exchange.{awaits_return}
use Rattle.circus_pair.proofs.Following.{awaits_as_owed}
use Rattle.circus_pair.proofs.pair.Pair.awaits_return.Goals as goal

pub returns-clause-owed : goal.returns-clause-owed
returns-clause-owed c first format acts stands =
    c.awaits_return.ensures ∙ ap (λ (e : Exchange). awaits_return e c.args.call) c.self.view_is ∙ awaits_as_owed c.args.self.now first format acts stands c.args.call
