use Rattle.circus_pair.proofs.Sides.{next_ticked}
use Rattle.circus_wire.proofs.Kept.{kept_either}
use Rattle.circus_wire.proofs.peer.Peer.tick.Goals as goal

pub invariant_of-self-2 : goal.invariant_of-self-2
invariant_of-self-2 g c = kept_either c.tick.result c.self.inside.pair _ _ _ _ c.tick.ensures.state c.tick.ensures.err (next_ticked c.self.inside.pair) c.tick.ensures.down c.self.invariant
