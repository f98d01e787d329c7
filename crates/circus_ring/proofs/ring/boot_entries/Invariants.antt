use Rattle.std.proofs.Common.{◌≡◌, ◌++◌, map, drop}
use Rattle.circus_ring.specs.RingTable.{boot_entry}
use Rattle.circus_ring.proofs.ring.boot_entries.Given as goal

-- the entries so far stand in front of those of the founders that are left
abbrev pub invariant-loop-founder : goal.invariant-loop-founder
invariant-loop-founder l = map boot_entry l.founder-items ≡ l.entries ++ map boot_entry (drop l.founder-index l.founder-items)
