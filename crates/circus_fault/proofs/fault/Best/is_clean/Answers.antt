use Rattle.std.proofs.Common.{◌∙◌, ap, is_none}
use Rattle.circus_fault.proofs.LeastIs.{clean_is, none_result}
use Rattle.circus_fault.proofs.fault.Best.is_clean.Goals as goal

pub returns : goal.returns
returns g c faults is = none_result c.is_none.result _ c.is_none.ensures ∙ ap is_none is ∙ clean_is g.C.Cause.rank faults
