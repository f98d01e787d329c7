use Rattle.circus_header.proofs.Steps.{next_read, next_failed}
use Rattle.circus_header.proofs.reading.clock.Goals as goal

pub returns-in_err-count : goal.returns-in_err-count
returns-in_err-count g c = next_failed c.in_err-count.ensures c.from_residual.ensures

pub returns : goal.returns
returns g c = next_read c.in_ok-count.ensures c.longs.ensures
