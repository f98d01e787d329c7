use Rattle.std.proofs.Common.{rules, ◌<◌, [], ◌++◌, length, refl, ap, subst, ◌∙◌}
use Rattle.std.specs.Prelude.{slice_get}
use Rattle.circus_wire.specs.Wire.{WireState, given_below, batches, suspicion, ticked_at, of_peer, node_at}
use Rattle.circus_wire.proofs.Changing.{itself_remains, remains_on}
use Rattle.circus_wire.proofs.Ticking.{tick_more, given_more}
use Rattle.circus_wire.proofs.wire.Wire.tick_all.Goals as goal

pub loop-place-init : goal.loop-place-init
unfolding given_below
loop-place-init g c = record { state = refl; sent = c.new-sends.ensures; suspected = c.new-suspects.ensures; remains = itself_remains c.args.self.now }

pub loop-place-preserved : goal.loop-place-preserved
loop-place-preserved g c =
    let place = c.loop-place.place in
    let inside : c.loop-place.place < length c.self.inside.peers.items = search rules in
    let less : c.loop-place.place < length c.args.self.now.peers = subst (λ n. c.loop-place.place < n) (ap (λ (w : WireState g.row.P.Denot). length w.peers) c.self.view_is) inside in
    let before = c.loop-place.invariant in
    let now = c.in_ok-tick_at.ensures in
    record {
      state = now.state ∙ ap (λ (w : WireState g.row.P.Denot). ticked_at w place) before.state ∙ tick_more c.args.self.now place less;
      sent = now.sent
          ∙ ap (λ xs. xs ++ of_peer [] (batches (node_at c.loop-place.self.own place)) (slice_get c.loop-place.self.peers place)) before.sent
          ∙ ap (λ (w : WireState g.row.P.Denot). given_below batches c.args.self.now place ++ of_peer [] (batches (node_at w.own place)) (slice_get w.peers place)) before.state
          ∙ given_more batches c.args.self.now place less;
      suspected = now.suspected
          ∙ ap (λ xs. xs ++ of_peer [] (suspicion (node_at c.loop-place.self.own place)) (slice_get c.loop-place.self.peers place)) before.suspected
          ∙ ap (λ (w : WireState g.row.P.Denot). given_below suspicion c.args.self.now place ++ of_peer [] (suspicion (node_at w.own place)) (slice_get w.peers place)) before.state
          ∙ given_more suspicion c.args.self.now place less;
      remains = remains_on _ _ _ before.remains c.tick_at.ensures.remains;
    }
