use Rattle.std.proofs.Common.{ap, ◌∙◌}
use Rattle.std.proofs.lemmas.Result.{on_ok_weaker, IfOk-weaker}
use Rattle.circus_exchange.specs.Exchange.{awaits_return, send_return, datagrams_of_return}
use Rattle.circus_exchange.specs.declared.exchange.Exchange.{Exchange}
use Rattle.circus_pair.proofs.Following.{stands_returned, returned_owes}
use Rattle.circus_pair.proofs.Lasting.{lasts_returned, lasts_either}
use Rattle.circus_pair.proofs.Freshness.{fresh_returned, return_free, fresh_either}
use Rattle.circus_pair.proofs.pair.Pair.send_return.Goals as goal

pub invariant_of-self : goal.invariant_of-self
invariant_of-self c = fresh_either c.send_return.result c.self.inside.exchange _ _ c.send_return.ensures.state c.send_return.ensures.err (fresh_returned c.self.inside.exchange c.args.call c.args.message c.self.invariant) c.self.invariant

pub returns-clause-format : goal.returns-clause-format
returns-clause-format c = (lasts_either c.send_return.result c.self.inside.exchange _ _ _ c.send_return.ensures.state c.send_return.ensures.err (lasts_returned c.self.inside.exchange c.args.call c.args.message) c.self.view_is).format

pub returns-clause-down : goal.returns-clause-down
returns-clause-down c = (lasts_either c.send_return.result c.self.inside.exchange _ _ _ c.send_return.ensures.state c.send_return.ensures.err (lasts_returned c.self.inside.exchange c.args.call c.args.message) c.self.view_is).stopped

pub send_return-requires-clause-fresh : goal.send_return-requires-clause-fresh
send_return-requires-clause-fresh c = return_free c.self.inside.exchange c.args.call (ap (λ (e : Exchange). awaits_return e c.args.call) c.self.view_is ∙ c.requires.awaited)

pub returns-clause-stands : goal.returns-clause-stands
returns-clause-stands c first format acts stands =
    on_ok_weaker c.send_return.result (λ e. stands_returned c.args.self.now first format acts stands _ c.args.call c.args.message c.requires.sendable c.requires.awaited (e ∙ ap (λ (x : Exchange). send_return x c.args.call c.args.message) c.self.view_is)) c.send_return.ensures.state

pub returns-clause-owed : goal.returns-clause-owed
returns-clause-owed c first format acts stands =
    IfOk-weaker c.send_return.result _ _ (λ datagrams e. e ∙ ap (λ (x : Exchange). datagrams_of_return x c.args.call c.args.message) c.self.view_is ∙ returned_owes c.args.self.now first format acts stands c.args.call c.args.message) c.send_return.ensures.datagrams
