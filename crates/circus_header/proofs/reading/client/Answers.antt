use Rattle.circus_header.specs.Seen.Layout.{ended}
use Rattle.circus_header.proofs.Steps.{next_read, next_failed}
use Rattle.circus_header.proofs.reading.client.Goals as goal

pub returns-in_err-number : goal.returns-in_err-number
returns-in_err-number g c = next_failed c.in_err-number.ensures c.from_residual.ensures

pub returns-in_err-incarnation : goal.returns-in_err-incarnation
returns-in_err-incarnation g c = next_read c.in_ok-number.ensures (next_failed c.in_err-incarnation.ensures c.from_residual-in_err-incarnation.ensures)

pub returns-in_err-index : goal.returns-in_err-index
returns-in_err-index g c = next_read c.in_ok-number.ensures (next_read c.in_ok-incarnation.ensures (next_failed c.in_err-index.ensures c.from_residual-in_err-index.ensures))

pub returns : goal.returns
returns g c = next_read c.in_ok-number.ensures (next_read c.in_ok-incarnation.ensures (next_read c.in_ok-index.ensures ended))
