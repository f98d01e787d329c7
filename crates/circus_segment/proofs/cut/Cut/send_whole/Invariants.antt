use Rattle.std.proofs.Common.{◌≡◌, ◌++◌}
use Rattle.circus_segment.specs.Cut.{first_datagrams}
use Rattle.circus_segment.specs.Seen.Outgoing.{outgoing_of}
use Rattle.circus_segment.proofs.cut.Cut.send_whole.Given as goal

abbrev pub invariant-loop-before : goal.invariant-loop-before
invariant-loop-before l = l.datagrams ≡ l.initial.datagrams ++ first_datagrams (outgoing_of l.self) l.before
