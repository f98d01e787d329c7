use Rattle.circus_header.specs.Seen.Layout.{ended}
use Rattle.circus_header.proofs.Steps.{next_read, next_failed}
use Rattle.circus_header.proofs.reading.fetch.Goals as goal

pub returns-in_err-troupe : goal.returns-in_err-troupe
returns-in_err-troupe g c = next_failed c.in_err-troupe.ensures c.from_residual.ensures

pub returns-in_err-incarnation : goal.returns-in_err-incarnation
returns-in_err-incarnation g c =
    next_read c.in_ok-troupe.ensures (next_failed c.in_err-incarnation.ensures c.from_residual-in_err-incarnation.ensures)

pub returns : goal.returns
returns g c = next_read c.in_ok-troupe.ensures (next_read c.in_ok-incarnation.ensures ended)
