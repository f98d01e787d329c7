use Rattle.std.proofs.Common.{◌≡◌, drop, map}
use Rattle.circus_record.specs.Naming.{host_name}
use Rattle.circus_audit.specs.Seen.Differing.{each_read, each_before, difference_read}
use Rattle.circus_audit.proofs.differences.ReplyReader.read_differences.Given as goal

-- the replies so far stand in front of those that are left
abbrev pub invariant-loop-each : goal.invariant-loop-each
invariant-loop-each l =
    each_read (difference_read (map host_name l.self.nodes.now) l.self.modules l.self.own l.imports l.kept) l.all
    ≡ each_before l.differences (each_read (difference_read (map host_name l.self.nodes.now) l.self.modules l.self.own l.imports l.kept) (drop l.each-index l.all))
