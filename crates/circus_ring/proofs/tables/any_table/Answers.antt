use Rattle.std.proofs.Common.{[]}
use Rattle.circus_header.specs.Seen.Layout.{ended, end}
use Rattle.circus_header.proofs.Steps.{next_read, next_failed, then_read, then_failed}
use Rattle.circus_ring.specs.Seen.TableLayout.{entries_layout, table_of}
use Rattle.circus_ring.proofs.tables.any_table.Goals as goal

pub returns-in_err-number : goal.returns-in_err-number
returns-in_err-number c = next_failed c.in_err-number.ensures c.from_residual.ensures

pub returns-in_err-troupe : goal.returns-in_err-troupe
returns-in_err-troupe c = next_read c.in_ok-number.ensures (next_failed c.in_err-troupe.ensures c.from_residual-in_err-troupe.ensures)

pub returns-in_err-incarnation : goal.returns-in_err-incarnation
returns-in_err-incarnation c =
    next_read c.in_ok-number.ensures (next_read c.in_ok-troupe.ensures (next_failed c.in_err-incarnation.ensures c.from_residual-in_err-incarnation.ensures))

pub returns-in_err-count : goal.returns-in_err-count
returns-in_err-count c =
    next_read c.in_ok-number.ensures (next_read c.in_ok-troupe.ensures (next_read c.in_ok-incarnation.ensures (next_failed c.in_err-count.ensures c.from_residual-in_err-count.ensures)))

pub returns-in_err-entries : goal.returns-in_err-entries
returns-in_err-entries c =
    next_read c.in_ok-number.ensures (next_read c.in_ok-troupe.ensures (next_read c.in_ok-incarnation.ensures (next_read c.in_ok-count.ensures
    (then_failed (entries_layout c.in_ok-count.count []) (λ entries. end (table_of c.in_ok-number.number c.in_ok-troupe.troupe c.in_ok-incarnation.incarnation entries))
    c.in_err-entries.ensures c.from_residual-in_err-entries.ensures))))

pub returns : goal.returns
returns c =
    rw c.table_of.ensures (next_read c.in_ok-number.ensures (next_read c.in_ok-troupe.ensures (next_read c.in_ok-incarnation.ensures (next_read c.in_ok-count.ensures
    (then_read (entries_layout c.in_ok-count.count []) (λ entries. end (table_of c.in_ok-number.number c.in_ok-troupe.troupe c.in_ok-incarnation.incarnation entries))
    c.in_ok-entries.ensures ended)))))
