use Rattle.circus_header.specs.Seen.Layout.{ended}
use Rattle.circus_header.proofs.Steps.{next_read, next_failed}
use Rattle.circus_header.proofs.reading.request.Goals as goal

pub returns-in_err-request : goal.returns-in_err-request
returns-in_err-request g c =
    next_failed c.in_err-request.ensures c.from_residual.ensures

pub returns-in_err-troupe : goal.returns-in_err-troupe
returns-in_err-troupe g c =
    next_read c.in_ok-request.ensures (next_failed c.in_err-troupe.ensures c.from_residual-in_err-troupe.ensures)

pub returns-in_err-node : goal.returns-in_err-node
returns-in_err-node g c =
    next_read c.in_ok-request.ensures (next_read c.in_ok-troupe.ensures (next_failed (rw c.most_node.ensures at c.in_err-node.ensures) c.from_residual-in_err-node.ensures))

pub returns-in_err-count : goal.returns-in_err-count
returns-in_err-count g c =
    next_read c.in_ok-request.ensures (next_read c.in_ok-troupe.ensures (next_read (rw c.most_node.ensures at c.in_ok-node.ensures) (next_failed (rw c.most_count.ensures at c.in_err-count.ensures) c.from_residual-in_err-count.ensures)))

pub returns : goal.returns
returns g c =
    rw c.request_of.ensures (next_read c.in_ok-request.ensures (next_read c.in_ok-troupe.ensures (next_read (rw c.most_node.ensures at c.in_ok-node.ensures) (next_read (rw c.most_count.ensures at c.in_ok-count.ensures) (ended)))))
