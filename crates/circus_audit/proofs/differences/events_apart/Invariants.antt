use Rattle.std.proofs.Common.{◌≡◌}
use Rattle.std.specs.Vec.Iter.{into_iter_items}
use Rattle.circus_audit.specs.Seen.Differing.{event_apart, each_read, each_before}
use Rattle.circus_audit.proofs.differences.events_apart.Given as goal

-- the events so far stand in front of those that are left
abbrev pub invariant-loop-noted : goal.invariant-loop-noted
invariant-loop-noted l = each_read event_apart l.fn.notes ≡ each_before l.events (each_read event_apart (into_iter_items l.noted-iterator))
