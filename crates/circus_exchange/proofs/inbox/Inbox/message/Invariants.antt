use Rattle.std.proofs.Common.{◌≡◌, ◌*◌, ◌≤◌, length}
use Rattle.circus_segment.specs.Segment.{part_size}
use Rattle.circus_segment.specs.Seen.Pieces.{piece}
use Rattle.circus_exchange.specs.Inbox.{data_up_to, data_with}
use Rattle.circus_exchange.proofs.inbox.Inbox.message.Given as goal

abbrev pub invariant-loop-before : goal.invariant-loop-before
invariant-loop-before l = record { bytes : l.message ≡ data_up_to (data_with l.self (piece l.segment)) l.before; short : length l.message ≤ part_size * l.before }
