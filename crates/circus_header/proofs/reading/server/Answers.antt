use Rattle.circus_header.specs.Seen.Layout.{ended}
use Rattle.circus_header.proofs.Steps.{next_read, next_failed}
use Rattle.circus_header.proofs.reading.server.Goals as goal

pub returns-in_err-number : goal.returns-in_err-number
returns-in_err-number g c = next_failed c.in_err-number.ensures c.from_residual.ensures

pub returns-in_err-incarnation : goal.returns-in_err-incarnation
returns-in_err-incarnation g c = next_read c.in_ok-number.ensures (next_failed c.in_err-incarnation.ensures c.from_residual-in_err-incarnation.ensures)

pub returns-in_err-procedure : goal.returns-in_err-procedure
returns-in_err-procedure g c = next_read c.in_ok-number.ensures (next_read c.in_ok-incarnation.ensures (next_failed c.in_err-procedure.ensures c.from_residual-in_err-procedure.ensures))

pub returns : goal.returns
returns g c = next_read c.in_ok-number.ensures (next_read c.in_ok-incarnation.ensures (next_read c.in_ok-procedure.ensures ended))
