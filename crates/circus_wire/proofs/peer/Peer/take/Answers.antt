use Rattle.circus_segment.specs.Seen.Pieces.{piece}
use Rattle.circus_wire.proofs.Kept.{kept_heard}
use Rattle.circus_wire.proofs.peer.Peer.take.Goals as goal

pub invariant_of-self-else-dropped : goal.invariant_of-self-else-dropped
invariant_of-self-else-dropped g c = kept_heard c.self.inside.pair _ c.self.inside.purposes _ (piece c.args.segment.now) c.in_ok-datagrams.field-0.arrived _ c.in_ok-datagrams.ensures.state c.hand_out-heard.ensures.purposes c.self.invariant
