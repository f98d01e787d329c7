use Rattle.std.proofs.Common.{sym, subst, ap, ◌∙◌, []}
use Rattle.std.proofs.lemmas.Result.{on_ok_weaker}
use Rattle.std.proofs.lemmas.List.Elements.{All-same}
use Rattle.circus_header.specs.CallFields.{IsIncarnation}
use Rattle.circus_fanout.specs.declared.send.Send.{Send}
use Rattle.circus_fanout.specs.Asking.{Asking, begin_asking}
use Rattle.circus_member_rules.proofs.Calls.{by_the_view}
use Rattle.circus_member_rules.proofs.Homes.{are_views}
use Rattle.circus_member_rules.proofs.Named.{All-opened}
use Rattle.circus_dues.specs.Seen.Parts.{IsAskOf, AreAsksOf, MayCallFor}
use Rattle.circus_dues.proofs.Calling.{ask_with, may_call_of, may_with_asks}
use Rattle.circus_dues.proofs.calls_out.CallsOut.open.Goals as goal

pub calls_of_ask-requires-clause-may : goal.calls_of_ask-requires-clause-may
calls_of_ask-requires-clause-may c =
    let i = c.self.inside in
    let may = subst (MayCallFor c.args.place.now) (sym c.self.view_is) c.requires.may in
    let begun = begin_asking c.args.header c.in_ok-body.body c.args.place.now.replies in
    may_call_of c.args.place.now (record { known = i.known; asks = i.asks }) c.in_ok-fanout.fanout may
    (ask_with c.args.place.now.troupe begun c.in_ok-fanout.fanout (ap (λ (a : Asking). a.header) c.in_ok-fanout.ensures.fanout) (record { asked = c.requires.asked; client = c.requires.client }))

pub calls_of_ask-requires-clause-views : goal.calls_of_ask-requires-clause-views
calls_of_ask-requires-clause-views c =
    let i = c.self.inside in
    let may = subst (MayCallFor c.args.place.now) (sym c.self.view_is) c.requires.may in
    let view = c.in-Some.view.now in
    let incarnation = are_views i.known may.incarnations c.args.ask.now.callee view (sym c.in-Some.ensures) in
    All-same (λ (s : Send). IsIncarnation s.incarnation) _ _ (c.as_slice.ensures ∙ c.in_ok-fanout.ensures.sends) (by_the_view view c.down_nodes-down.result.now [] incarnation)

pub returns-clause-may : goal.returns-clause-may
returns-clause-may c =
    let i = c.self.inside in
    let may = subst (MayCallFor c.args.place.now) (sym c.self.view_is) c.requires.may in
    let troupe = c.args.place.now.troupe in
    let begun = begin_asking c.args.header c.in_ok-body.body c.args.place.now.replies in
    let ready = ask_with troupe begun c.in_ok-fanout.fanout (ap (λ (a : Asking). a.header) c.in_ok-fanout.ensures.fanout) (record { asked = c.requires.asked; client = c.requires.client }) in
    on_ok_weaker c.open.result
    (λ opened. may_with_asks c.args.place.now (record { known = i.known; asks = i.asks }) c.open.new.self
    (subst (AreAsksOf troupe) (sym opened) (All-opened (IsAskOf troupe) i.asks c.args.name c.in_ok-fanout.fanout ready may.asks)) may)
    c.open.ensures
