use Rattle.circus_header.specs.Seen.Layout.{ended}
use Rattle.circus_header.proofs.Steps.{next_read, next_failed}
use Rattle.circus_ring.proofs.tables.entry.Goals as goal

pub returns-in_err-node : goal.returns-in_err-node
returns-in_err-node c = next_failed c.in_err-node.ensures c.from_residual.ensures

pub returns-in_err-kind : goal.returns-in_err-kind
returns-in_err-kind c = next_read c.in_ok-node.ensures (next_failed c.in_err-kind.ensures c.from_residual-in_err-kind.ensures)

pub returns-in_err-first : goal.returns-in_err-first
returns-in_err-first c =
    next_read c.in_ok-node.ensures (next_read c.in_ok-kind.ensures (next_failed (rw c.most_first.ensures at c.in_err-first.ensures) c.from_residual-in_err-first.ensures))

pub returns : goal.returns
returns c =
    rw c.entry_of.ensures (next_read c.in_ok-node.ensures (next_read c.in_ok-kind.ensures (next_read (rw c.most_first.ensures at c.in_ok-first.ensures) ended)))
