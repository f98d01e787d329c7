use Rattle.std.proofs.Common.{ℕ, ◌-◌, [], List, Result}
use Rattle.circus_header.specs.Seen.Layout.{Reading}
use Rattle.circus_header.specs.declared.header_fault.HeaderFault.{HeaderFault}
use Rattle.circus_collate.specs.declared.view.Entry.{Entry}
use Rattle.circus_ring.specs.Seen.TableLayout.{entries_layout}
use Rattle.circus_ring.proofs.tables.entries.Given as goal

-- what the entries behind those so far make of the bytes, all the entries do
abbrev pub invariant-loop-i : goal.invariant-loop-i
invariant-loop-i l = (r : Result (List Entry × ℕ) HeaderFault)
    → Reading l.bytes (entries_layout (l.count - l._i) l.entries) l.at r
    → Reading l.bytes (entries_layout l.count []) l.from r
