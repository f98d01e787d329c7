use Rattle.std.proofs.Common.{ℕ, ◌-◌, [], List, Result}
use Rattle.circus_header.specs.Seen.Layout.{of_long, numbers, Reading}
use Rattle.circus_header.specs.declared.header_fault.HeaderFault.{HeaderFault}
use Rattle.circus_header.proofs.reading.longs.Given as goal

-- what the numbers behind those so far make of the bytes, all the numbers do
abbrev pub invariant-loop-i : goal.invariant-loop-i
invariant-loop-i g l = (r : Result (List ℕ × ℕ) HeaderFault)
    → Reading (g.S.ByteSource.octets l.source) (numbers of_long 0 4294967295 (l.count - l._i) l.clock) l.at r
    → Reading (g.S.ByteSource.octets l.source) (numbers of_long 0 4294967295 l.count []) l.from r
