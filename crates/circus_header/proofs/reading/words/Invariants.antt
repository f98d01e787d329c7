use Rattle.std.proofs.Common.{ℕ, ◌-◌, [], List, Result}
use Rattle.circus_header.specs.Seen.Layout.{of_word, numbers, Reading}
use Rattle.circus_header.specs.declared.header_fault.HeaderFault.{HeaderFault}
use Rattle.circus_header.proofs.reading.words.Given as goal

-- what the numbers behind those so far make of the bytes, all the numbers do
abbrev pub invariant-loop-i : goal.invariant-loop-i
invariant-loop-i g l = (r : Result (List ℕ × ℕ) HeaderFault)
    → Reading (g.S.ByteSource.octets l.source) (numbers of_word 0 65534 (l.count - l._i) l.path) l.at r
    → Reading (g.S.ByteSource.octets l.source) (numbers of_word 0 65534 l.count []) l.from r
