use Rattle.std.proofs.Common.{rules, ◌<◌, length, [], not, sym, ap, subst, ◌∙◌}
use Rattle.std.proofs.lemmas.Result.{on_ok_weaker, IfOk-weaker}
use Rattle.circus_exchange.specs.Limits.{never_used}
use Rattle.circus_exchange.specs.Exchange.{IsSendable, datagrams_of_call}
use Rattle.circus_pair.proofs.Dialogue.{not_true}
use Rattle.circus_pair.proofs.Lasting.{lasts_called}
use Rattle.circus_wire.specs.Wire.{PeerState, WireState, peer_called, of_peer}
use Rattle.circus_wire.proofs.Changing.{found_by, found_within, found_at, read_found, state_is, peer_is, set_remains}
use Rattle.circus_wire.proofs.Kept.{all_kept, same_format}
use Rattle.circus_wire.proofs.wire.Wire.hand_call.Goals as goal

pub place_of-place-requires : goal.place_of-place-requires
place_of-place-requires g c = (found_by (λ (p : PeerState g.row.P.Denot). not p.exchange.stopped) _ _ _ _ c.args.to c.self.view_is c.requires.up).differs

pub index_mut-requires : goal.index_mut-requires
index_mut-requires g c =
    let found = found_by (λ (p : PeerState g.row.P.Denot). not p.exchange.stopped) _ _ _ _ c.args.to c.self.view_is c.requires.up in
    let within : c.place_of-place.result < length c.self.inside.peers.items = found_within _ _ c.args.to _ _ c.place_of-place.ensures found.there in search rules

pub call-requires-clause-sendable : goal.call-requires-clause-sendable
call-requires-clause-sendable g c =
    let found = found_by (λ (p : PeerState g.row.P.Denot). not p.exchange.stopped) _ _ _ _ c.args.to c.self.view_is c.requires.up in
    let same = read_found _ _ c.args.to _ _ _ c.place_of-place.ensures found.there c.index_mut.ensures.value in
    subst (λ f. IsSendable f c.args.message)
    (ap (λ (w : WireState g.row.P.Denot). w.format) (sym c.self.view_is) ∙ sym (c.self.invariant.formats _ _ (found_at _ _ c.args.to _ _ _ c.place_of-place.ensures found.there same)))
    c.requires.sendable

pub call-requires-clause-up : goal.call-requires-clause-up
call-requires-clause-up g c =
    let found = found_by (λ (p : PeerState g.row.P.Denot). not p.exchange.stopped) _ _ _ _ c.args.to c.self.view_is c.requires.up in
    let same = read_found _ _ c.args.to _ _ _ c.place_of-place.ensures found.there c.index_mut.ensures.value in
    ap (λ (p : PeerState g.row.P.Denot). p.exchange.stopped) same ∙ not_true _ found.is

pub invariant_of-self : goal.invariant_of-self
invariant_of-self g c =
    let found = found_by (λ (p : PeerState g.row.P.Denot). not p.exchange.stopped) _ _ _ _ c.args.to c.self.view_is c.requires.up in
    let same = read_found _ _ c.args.to _ _ _ c.place_of-place.ensures found.there c.index_mut.ensures.value in
    all_kept _ _ _ _ _ _ (found_at _ _ c.args.to _ _ _ c.place_of-place.ensures found.there same) (same_format c.call.result c.index_mut.result.now _ _ c.call.ensures.state c.call.ensures.err (lasts_called c.index_mut.result.now.exchange c.args.message).format) c.self.invariant

pub returns-clause-left : goal.returns-clause-left
returns-clause-left g c =
    let found = found_by (λ (p : PeerState g.row.P.Denot). not p.exchange.stopped) _ _ _ _ c.args.to c.self.view_is c.requires.up in
    let same = read_found _ _ c.args.to _ _ _ c.place_of-place.ensures found.there c.index_mut.ensures.value in
    let at = peer_is _ _ _ _ c.args.to _ _ c.self.view_is found.differs c.place_of-place.ensures (found_at _ _ c.args.to _ _ _ c.place_of-place.ensures found.there same) in
    on_ok_weaker c.call.result (λ less. subst (λ n. n < never_used) (sym (ap (of_peer 0 (λ (p : PeerState g.row.P.Denot). p.exchange.next)) at)) less) c.call.ensures.left

pub returns-clause-sent : goal.returns-clause-sent
returns-clause-sent g c =
    let found = found_by (λ (p : PeerState g.row.P.Denot). not p.exchange.stopped) _ _ _ _ c.args.to c.self.view_is c.requires.up in
    let same = read_found _ _ c.args.to _ _ _ c.place_of-place.ensures found.there c.index_mut.ensures.value in
    let at = peer_is _ _ _ _ c.args.to _ _ c.self.view_is found.differs c.place_of-place.ensures (found_at _ _ c.args.to _ _ _ c.place_of-place.ensures found.there same) in
    IfOk-weaker c.call.result _ _ (λ datagrams e. e ∙ sym (ap (of_peer [] (λ (p : PeerState g.row.P.Denot). datagrams_of_call p.exchange c.args.message)) at)) c.call.ensures.datagrams

pub returns-clause-state : goal.returns-clause-state
returns-clause-state g c =
    let found = found_by (λ (p : PeerState g.row.P.Denot). not p.exchange.stopped) _ _ _ _ c.args.to c.self.view_is c.requires.up in
    let same = read_found _ _ c.args.to _ _ _ c.place_of-place.ensures found.there c.index_mut.ensures.value in
    on_ok_weaker c.call.result (λ e. state_is _ _ _ c.args.to _ _ _ _ (λ p. peer_called p c.args.message c.args.purpose) c.self.view_is c.place_of-place.ensures (found_at _ _ c.args.to _ _ _ c.place_of-place.ensures found.there same) e) c.call.ensures.state

pub returns-clause-spent : goal.returns-clause-spent
returns-clause-spent g c h =
    let found = found_by (λ (p : PeerState g.row.P.Denot). not p.exchange.stopped) _ _ _ _ c.args.to c.self.view_is c.requires.up in
    let same = read_found _ _ c.args.to _ _ _ c.place_of-place.ensures found.there c.index_mut.ensures.value in
    let at = peer_is _ _ _ _ c.args.to _ _ c.self.view_is found.differs c.place_of-place.ensures (found_at _ _ c.args.to _ _ _ c.place_of-place.ensures found.there same) in
    c.call.ensures.spent (sym (ap (of_peer 0 (λ (p : PeerState g.row.P.Denot). p.exchange.next)) at) ∙ h)

pub returns-clause-spent_only : goal.returns-clause-spent_only
returns-clause-spent_only g c h =
    let found = found_by (λ (p : PeerState g.row.P.Denot). not p.exchange.stopped) _ _ _ _ c.args.to c.self.view_is c.requires.up in
    let same = read_found _ _ c.args.to _ _ _ c.place_of-place.ensures found.there c.index_mut.ensures.value in
    let at = peer_is _ _ _ _ c.args.to _ _ c.self.view_is found.differs c.place_of-place.ensures (found_at _ _ c.args.to _ _ _ c.place_of-place.ensures found.there same) in
    ap (of_peer 0 (λ (p : PeerState g.row.P.Denot). p.exchange.next)) at ∙ c.call.ensures.spent_only h

pub returns-clause-remains : goal.returns-clause-remains
returns-clause-remains g c = set_remains _ _ _ c.place_of-place.result _ _ c.self.view_is
