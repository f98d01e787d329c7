use Rattle.std.proofs.Common.{◌≡◌, ◌-◌, ◌≤◌, length, drop, map}
use Rattle.circus_record.specs.Naming.{host_name}
use Rattle.circus_audit.specs.Seen.Views.{entries_read, entries_before}
use Rattle.circus_audit.proofs.views.read_entries.Given as goal

-- the entries so far stand in front of those that are left
abbrev pub invariant-loop : goal.invariant-loop
invariant-loop l = record {
  within : l.place ≤ length l.line;
  read :
      entries_read (map host_name l.nodes) (length l.line) (drop l.at l.line)
      ≡ entries_before l.entries (entries_read (map host_name l.nodes) (length l.line - l.counter) (drop l.place l.line));
}
