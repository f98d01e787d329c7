use Rattle.std.proofs.Common.{◌≡◌, map}
use Rattle.std.specs.Vec.Iter.{into_iter_items}
use Rattle.circus_record.specs.Naming.{host_name}
use Rattle.circus_audit.specs.Seen.Differing.{each_read, each_before, event_of}
use Rattle.circus_audit.proofs.differences.ReplyReader.read_events.Given as goal

-- the events so far stand in front of those that are left
abbrev pub invariant-loop-noted : goal.invariant-loop-noted
invariant-loop-noted l =
    each_read (event_of (map host_name l.self.nodes.now) l.self.modules l.self.own l.imports l.kept) l.fn.notes
    ≡ each_before l.events (each_read (event_of (map host_name l.self.nodes.now) l.self.modules l.self.own l.imports l.kept) (into_iter_items l.noted-iterator))
