use Rattle.circus_pair.proofs.Sides.{next_returned}
use Rattle.circus_wire.proofs.Kept.{kept_either}
use Rattle.circus_wire.proofs.peer.Peer.answer.Goals as goal

pub invariant_of-self : goal.invariant_of-self
invariant_of-self g c = kept_either c.send_return.result c.self.inside.pair _ _ _ _ c.send_return.ensures.state c.send_return.ensures.err (next_returned c.self.inside.pair c.args.number c.args.message) c.send_return.ensures.down c.self.invariant
