use Rattle.circus_wire.proofs.Kept.{kept_fresh}
use Rattle.circus_wire.proofs.peer.Peer.new.Goals as goal

pub invariant_of-result : goal.invariant_of-result
invariant_of-result g c = kept_fresh _ _ c.args.number c.args.format c.starting_at.ensures.value c.new.ensures
