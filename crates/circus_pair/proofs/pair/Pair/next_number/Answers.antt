use Rattle.std.proofs.Common.{ap, ◌∙◌}
use Rattle.circus_exchange.specs.declared.exchange.Exchange.{Exchange}
use Rattle.circus_pair.proofs.Following.{next_is}
use Rattle.circus_pair.proofs.pair.Pair.next_number.Goals as goal

pub returns-clause-counted : goal.returns-clause-counted
returns-clause-counted c first format acts stands = ap (λ (e : Exchange). e.next) c.self.view_is ∙ next_is c.args.self.now first format acts stands
