use Rattle.std.proofs.Common.{ap, List}
use Rattle.circus_wire.specs.Wire.{PeerState, WireState}
use Rattle.circus_wire.proofs.Standing.{stands_begun}
use Rattle.circus_wire.proofs.wire.Wire.starting_at.Goals as goal

pub returns-clause-stands : goal.returns-clause-stands
returns-clause-stands g c =
    stands_begun (record { own = c.args.own; nodes = c.args.nodes; first = c.args.number; format = c.args.format }) _ c.requires.own
    (ap (λ (ps : List (PeerState g.row.P.Denot)). let w : WireState g.row.P.Denot = record { own = c.args.own; format = c.args.format; peers = ps } in w) c.in_ok-peers.ensures)
