use Rattle.std.proofs.Common.{◌≡◌, ◌++◌, map, drop}
use Rattle.circus_ring.specs.RingTable.{activate_entry}
use Rattle.circus_ring.proofs.requests.active_entries.Given as goal

-- the entries so far stand in front of what the others come to
abbrev pub invariant-loop-entry : goal.invariant-loop-entry
invariant-loop-entry l = map (activate_entry l.node l.count) l.entry-items ≡ l.entries ++ map (activate_entry l.node l.count) (drop l.entry-index l.entry-items)
