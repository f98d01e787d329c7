use Rattle.std.proofs.Common.{sym, ap, subst}
use Rattle.circus_wire.specs.Wire.{PeerState, WireState, peer_stopped}
use Rattle.circus_wire.specs.WireActs.{followed_by, StopOf}
use Rattle.circus_wire.specs.WireStanding.{WireStands}
use Rattle.circus_wire.proofs.Changing.{state_is, read_other, set_remains}
use Rattle.circus_wire.proofs.Kept.{all_kept}
use Rattle.circus_wire.proofs.Standing.{stands_stopped}
use Rattle.circus_wire.proofs.wire.Wire.stop.Goals as goal

pub invariant_of-self : goal.invariant_of-self
invariant_of-self g c =
    all_kept _ _ _ _ _ _ (read_other _ _ _ _ c.args.node _ _ c.self.view_is c.requires c.self.invariant c.place_of-place.ensures c.index_mut.ensures.value)
    (ap (λ (p : PeerState g.row.P.Denot). p.exchange.format) c.stop.ensures) c.self.invariant

pub returns-clause-state : goal.returns-clause-state
returns-clause-state g c =
    state_is _ _ _ c.args.node _ _ _ _ peer_stopped c.self.view_is c.place_of-place.ensures
    (read_other _ _ _ _ c.args.node _ _ c.self.view_is c.requires c.self.invariant c.place_of-place.ensures c.index_mut.ensures.value) c.stop.ensures

pub returns-clause-stands : goal.returns-clause-stands
returns-clause-stands g c b acts stands =
    subst (λ (w : WireState g.row.P.Denot). WireStands w b (followed_by acts (StopOf c.args.node))) (sym (returns-clause-state g c))
    (stands_stopped b acts c.args.self.now c.args.node c.requires.0 stands)

pub returns-clause-remains : goal.returns-clause-remains
returns-clause-remains g c = set_remains _ _ _ c.place_of-place.result _ _ c.self.view_is
