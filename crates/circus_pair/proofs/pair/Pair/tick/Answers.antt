use Rattle.std.proofs.Common.{ap, ◌∙◌}
use Rattle.std.proofs.lemmas.Result.{on_ok_weaker, IfOk-weaker}
use Rattle.circus_exchange.specs.Exchange.{count_tick, is_suspect, datagrams_of_tick}
use Rattle.circus_pair.proofs.Following.{stands_ticked, ticked_owes, suspects_as_owed}
use Rattle.circus_pair.proofs.Lasting.{lasts_ticked, lasts_either}
use Rattle.circus_pair.proofs.Freshness.{fresh_ticked, fresh_either}
use Rattle.circus_pair.proofs.pair.Pair.tick.Goals as goal

pub invariant_of-self : goal.invariant_of-self
invariant_of-self c = fresh_either c.tick.result c.self.inside.exchange _ _ c.tick.ensures.state c.tick.ensures.err (fresh_ticked c.self.inside.exchange c.self.invariant) c.self.invariant

pub returns-clause-format : goal.returns-clause-format
returns-clause-format c = (lasts_either c.tick.result c.self.inside.exchange _ _ _ c.tick.ensures.state c.tick.ensures.err (lasts_ticked c.self.inside.exchange) c.self.view_is).format

pub returns-clause-down : goal.returns-clause-down
returns-clause-down c = (lasts_either c.tick.result c.self.inside.exchange _ _ _ c.tick.ensures.state c.tick.ensures.err (lasts_ticked c.self.inside.exchange) c.self.view_is).stopped

pub returns-clause-stands : goal.returns-clause-stands
returns-clause-stands c first format acts stands =
    on_ok_weaker c.tick.result (λ e. stands_ticked c.args.self.now first format acts stands _ c.requires.up (e ∙ ap count_tick c.self.view_is)) c.tick.ensures.state

pub returns-clause-owed : goal.returns-clause-owed
returns-clause-owed c first format acts stands =
    IfOk-weaker c.tick.result _ _ (λ tick e. e ∙ ap datagrams_of_tick c.self.view_is ∙ ticked_owes c.args.self.now first format acts stands) c.tick.ensures.datagrams

pub returns-clause-suspects : goal.returns-clause-suspects
returns-clause-suspects c first format acts stands =
    IfOk-weaker c.tick.result _ _ (λ tick e. e ∙ ap is_suspect c.self.view_is ∙ suspects_as_owed c.args.self.now first format acts stands) c.tick.ensures.suspect
