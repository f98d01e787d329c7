use Rattle.std.proofs.Common.{List, ap, ◌∙◌}
use Rattle.std.specs.Prelude.{slice_get}
use Rattle.circus_wire.specs.Wire.{PeerState}
use Rattle.circus_wire.proofs.Changing.{own_has_none, other_has, copied_is}
use Rattle.circus_wire.proofs.wire.Wire.peer.Goals as goal

pub returns-then-node-self : goal.returns-then-node-self
returns-then-node-self g c = own_has_none _ _ _ _ c.args.node c.self.view_is c.if-node-self.true

pub returns : goal.returns
returns g c =
    other_has _ _ _ _ c.args.node _ _ c.self.view_is c.if-node-self.false c.place_of.ensures
    (copied_is c.deref.result.now c.place_of.result c.get.result c.get.ensures.lookup.0 c.get.ensures.lookup.1
    ∙ ap (λ (ps : List (PeerState g.row.P.Denot)). slice_get ps c.place_of.result) c.deref.ensures.value)
