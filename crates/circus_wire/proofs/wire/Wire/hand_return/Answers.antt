use Rattle.std.proofs.Common.{rules, ◌<◌, length, [], Bool, cond, sym, ap, subst, ◌∙◌}
use Rattle.std.proofs.lemmas.Result.{on_ok_weaker, IfOk-weaker}
use Rattle.circus_exchange.specs.Exchange.{IsSendable, awaits_return, datagrams_of_return}
use Rattle.circus_pair.proofs.Lasting.{lasts_returned}
use Rattle.circus_wire.specs.declared.delivery.Batch.{Batch}
use Rattle.circus_wire.specs.Wire.{PeerState, WireState, change_peer, peer_answered, of_peer, sent_to}
use Rattle.circus_wire.proofs.Changing.{found_by, found_within, found_at, read_found, state_is, peer_is, set_remains}
use Rattle.circus_wire.proofs.Kept.{all_kept, same_format}
use Rattle.circus_wire.proofs.wire.Wire.hand_return.Goals as goal

pub place_of-place-requires : goal.place_of-place-requires
place_of-place-requires g c = (found_by (λ (p : PeerState g.row.P.Denot). awaits_return p.exchange c.args.caller.number) _ _ _ _ c.args.caller.node c.self.view_is c.requires.awaited).differs

pub index_mut-requires : goal.index_mut-requires
index_mut-requires g c =
    let found = found_by (λ (p : PeerState g.row.P.Denot). awaits_return p.exchange c.args.caller.number) _ _ _ _ c.args.caller.node c.self.view_is c.requires.awaited in
    let within : c.place_of-place.result < length c.self.inside.peers.items = found_within _ _ c.args.caller.node _ _ c.place_of-place.ensures found.there in search rules

pub answer-requires-clause-sendable : goal.answer-requires-clause-sendable
answer-requires-clause-sendable g c =
    let found = found_by (λ (p : PeerState g.row.P.Denot). awaits_return p.exchange c.args.caller.number) _ _ _ _ c.args.caller.node c.self.view_is c.requires.awaited in
    let same = read_found _ _ c.args.caller.node _ _ _ c.place_of-place.ensures found.there c.index_mut.ensures.value in
    subst (λ f. IsSendable f c.args.message)
    (ap (λ (w : WireState g.row.P.Denot). w.format) (sym c.self.view_is) ∙ sym (c.self.invariant.formats _ _ (found_at _ _ c.args.caller.node _ _ _ c.place_of-place.ensures found.there same)))
    c.requires.sendable

pub answer-requires-clause-awaited : goal.answer-requires-clause-awaited
answer-requires-clause-awaited g c =
    let found = found_by (λ (p : PeerState g.row.P.Denot). awaits_return p.exchange c.args.caller.number) _ _ _ _ c.args.caller.node c.self.view_is c.requires.awaited in
    let same = read_found _ _ c.args.caller.node _ _ _ c.place_of-place.ensures found.there c.index_mut.ensures.value in
    ap (λ (p : PeerState g.row.P.Denot). awaits_return p.exchange c.args.caller.number) same ∙ found.is

pub invariant_of-self : goal.invariant_of-self
invariant_of-self g c =
    let found = found_by (λ (p : PeerState g.row.P.Denot). awaits_return p.exchange c.args.caller.number) _ _ _ _ c.args.caller.node c.self.view_is c.requires.awaited in
    let same = read_found _ _ c.args.caller.node _ _ _ c.place_of-place.ensures found.there c.index_mut.ensures.value in
    all_kept _ _ _ _ _ _ (found_at _ _ c.args.caller.node _ _ _ c.place_of-place.ensures found.there same) (same_format c.answer.result c.index_mut.result.now _ _ c.answer.ensures.state c.answer.ensures.err (lasts_returned c.index_mut.result.now.exchange c.args.caller.number c.args.message).format) c.self.invariant

pub returns-clause-sent : goal.returns-clause-sent
returns-clause-sent g c =
    let found = found_by (λ (p : PeerState g.row.P.Denot). awaits_return p.exchange c.args.caller.number) _ _ _ _ c.args.caller.node c.self.view_is c.requires.awaited in
    let same = read_found _ _ c.args.caller.node _ _ _ c.place_of-place.ensures found.there c.index_mut.ensures.value in
    let at = peer_is _ _ _ _ c.args.caller.node _ _ c.self.view_is found.differs c.place_of-place.ensures (found_at _ _ c.args.caller.node _ _ _ c.place_of-place.ensures found.there same) in
    let given = λ (p : PeerState g.row.P.Denot). datagrams_of_return p.exchange c.args.caller.number c.args.message in
    IfOk-weaker c.answer.result _ _ (λ datagrams e.
    e ∙ sym (ap (of_peer [] given) at)
    ∙ sym (ap (λ (b : Bool). let x : Batch = cond b (sent_to given c.args.self.now c.args.caller.node) (record { to = c.args.caller.node; datagrams = [] }) in x.datagrams) c.requires.awaited)) c.answer.ensures.datagrams

pub returns-clause-state : goal.returns-clause-state
returns-clause-state g c =
    let found = found_by (λ (p : PeerState g.row.P.Denot). awaits_return p.exchange c.args.caller.number) _ _ _ _ c.args.caller.node c.self.view_is c.requires.awaited in
    let same = read_found _ _ c.args.caller.node _ _ _ c.place_of-place.ensures found.there c.index_mut.ensures.value in
    let change = λ (p : PeerState g.row.P.Denot). peer_answered p c.args.caller.number c.args.message in
    on_ok_weaker c.answer.result (λ e.
    state_is _ _ _ c.args.caller.node _ _ _ _ change c.self.view_is c.place_of-place.ensures (found_at _ _ c.args.caller.node _ _ _ c.place_of-place.ensures found.there same) e
    ∙ sym (ap (λ b. cond b (change_peer change c.args.self.now c.args.caller.node) c.args.self.now) c.requires.awaited)) c.answer.ensures.state

pub returns-clause-remains : goal.returns-clause-remains
returns-clause-remains g c = set_remains _ _ _ c.place_of-place.result _ _ c.self.view_is
