use Rattle.std.proofs.Common.{◌∙◌, sym}
use Rattle.circus_fault.proofs.LeastIs.{no_least}
use Rattle.circus_resolve.specs.Causes.{rank}
use Rattle.circus_check.proofs.checking.resolved_among.Goals as goal

pub returns-in-None-clause-faultless : goal.returns-in-None-clause-faultless
returns-in-None-clause-faultless c = no_least rank _ (sym c.in_ok-progress.ensures.found ∙ c.in-None.is)
