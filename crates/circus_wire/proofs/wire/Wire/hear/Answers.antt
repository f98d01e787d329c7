use Rattle.std.proofs.Common.{[], sym, ap, ◌∙◌}
use Rattle.std.proofs.lemmas.Result.{on_ok_weaker, IfOk-weaker}
use Rattle.circus_segment.specs.Seen.Pieces.{piece}
use Rattle.circus_exchange.specs.Exchange.{datagrams_after}
use Rattle.circus_pair.proofs.Lasting.{lasts_after}
use Rattle.circus_wire.specs.declared.delivery.Batch.{Batch}
use Rattle.circus_wire.specs.declared.delivery.Heard.TheVariants.{Dropped}
use Rattle.circus_wire.specs.Wire.{PeerState, of_peer, peer_heard, heard_by}
use Rattle.circus_wire.proofs.Changing.{read_other, not_own, state_is, peer_is, set_remains}
use Rattle.circus_wire.proofs.Kept.{all_kept, same_format}
use Rattle.circus_wire.proofs.wire.Wire.hear.Goals as goal

pub invariant_of-self : goal.invariant_of-self
invariant_of-self g c =
    let item = read_other _ _ _ _ c.args.from _ _ c.self.view_is c.requires.other c.self.invariant c.place_of-place.ensures c.index_mut.ensures.value in
    all_kept _ _ _ _ _ _ item (same_format c.take.result c.index_mut.result.now _ _ c.take.ensures.state c.take.ensures.err (lasts_after c.index_mut.result.now.exchange (piece c.args.segment.now)).format) c.self.invariant

pub returns-clause-sent : goal.returns-clause-sent
returns-clause-sent g c =
    let item = read_other _ _ _ _ c.args.from _ _ c.self.view_is c.requires.other c.self.invariant c.place_of-place.ensures c.index_mut.ensures.value in
    let at = peer_is _ _ _ _ c.args.from _ _ c.self.view_is (not_own _ _ _ _ c.args.from c.self.view_is c.requires.other.0) c.place_of-place.ensures item in
    IfOk-weaker c.take.result _ _ (λ delivery e. e ∙ ap (λ o. let b : Batch = record { to = c.args.from; datagrams = of_peer [] (λ (p : PeerState g.row.P.Denot). datagrams_after p.exchange (piece c.args.segment.now)) o } in b) (sym at)) c.take.ensures.sent

pub returns-clause-told : goal.returns-clause-told
returns-clause-told g c =
    let item = read_other _ _ _ _ c.args.from _ _ c.self.view_is c.requires.other c.self.invariant c.place_of-place.ensures c.index_mut.ensures.value in
    let at = peer_is _ _ _ _ c.args.from _ _ c.self.view_is (not_own _ _ _ _ c.args.from c.self.view_is c.requires.other.0) c.place_of-place.ensures item in
    IfOk-weaker c.take.result _ _ (λ delivery e. e ∙ ap (of_peer Dropped (λ (p : PeerState g.row.P.Denot). heard_by p c.args.from (piece c.args.segment.now))) (sym at)) c.take.ensures.heard

pub returns-clause-state : goal.returns-clause-state
returns-clause-state g c =
    let item = read_other _ _ _ _ c.args.from _ _ c.self.view_is c.requires.other c.self.invariant c.place_of-place.ensures c.index_mut.ensures.value in
    on_ok_weaker c.take.result (λ e. state_is _ _ _ c.args.from _ _ _ _ (λ p. peer_heard p (piece c.args.segment.now)) c.self.view_is c.place_of-place.ensures item e) c.take.ensures.state

pub returns-clause-remains : goal.returns-clause-remains
returns-clause-remains g c = set_remains _ _ _ c.place_of-place.result _ _ c.self.view_is
