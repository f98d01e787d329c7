use Rattle.std.proofs.Common.{not, ap, ◌∙◌}
use Rattle.std.proofs.lemmas.Result.{on_ok_weaker, IfOk-weaker}
use Rattle.circus_exchange.specs.declared.exchange.Exchange.{Exchange}
use Rattle.circus_exchange.specs.Exchange.{takes, after, arrived_after, datagrams_after}
use Rattle.circus_segment.specs.Seen.Pieces.{piece}
use Rattle.circus_pair.proofs.Following.{stands_taken, taken_owes, arrives_as_owed, takes_as_owed}
use Rattle.circus_pair.proofs.Lasting.{lasts_after, lasts_either}
use Rattle.circus_pair.proofs.Freshness.{fresh_after, fresh_either}
use Rattle.circus_pair.proofs.pair.Pair.take.Goals as goal

pub invariant_of-self : goal.invariant_of-self
invariant_of-self c = fresh_either c.take.result c.self.inside.exchange _ _ c.take.ensures.state c.take.ensures.err (fresh_after c.self.inside.exchange (piece c.args.segment.now) c.self.invariant) c.self.invariant

pub returns-clause-format : goal.returns-clause-format
returns-clause-format c = (lasts_either c.take.result c.self.inside.exchange _ _ _ c.take.ensures.state c.take.ensures.err (lasts_after c.self.inside.exchange (piece c.args.segment.now)) c.self.view_is).format

pub returns-clause-down : goal.returns-clause-down
returns-clause-down c = (lasts_either c.take.result c.self.inside.exchange _ _ _ c.take.ensures.state c.take.ensures.err (lasts_after c.self.inside.exchange (piece c.args.segment.now)) c.self.view_is).stopped

pub returns-clause-stands : goal.returns-clause-stands
returns-clause-stands c first format acts stands =
    on_ok_weaker c.take.result (λ e. stands_taken c.args.self.now first format acts stands _ (piece c.args.segment.now) c.requires (e ∙ ap (λ (x : Exchange). after x (piece c.args.segment.now)) c.self.view_is)) c.take.ensures.state

pub returns-clause-owed : goal.returns-clause-owed
returns-clause-owed c first format acts stands =
    IfOk-weaker c.take.result _ _ (λ taken e. e ∙ ap (λ (x : Exchange). datagrams_after x (piece c.args.segment.now)) c.self.view_is ∙ taken_owes c.args.self.now first format acts stands (piece c.args.segment.now) c.requires) c.take.ensures.datagrams

pub returns-clause-heard : goal.returns-clause-heard
returns-clause-heard c first format acts stands =
    IfOk-weaker c.take.result _ _ (λ taken e. e ∙ ap (λ (x : Exchange). arrived_after x (piece c.args.segment.now)) c.self.view_is ∙ arrives_as_owed c.args.self.now first format acts stands (piece c.args.segment.now) c.requires) c.take.ensures.arrived

pub returns-clause-drops : goal.returns-clause-drops
returns-clause-drops c first format acts stands =
    IfOk-weaker c.take.result _ _ (λ taken e. e ∙ ap (λ (x : Exchange). not (takes x (piece c.args.segment.now))) c.self.view_is ∙ ap not (takes_as_owed c.args.self.now first format acts stands (piece c.args.segment.now) c.requires)) c.take.ensures.dropped
