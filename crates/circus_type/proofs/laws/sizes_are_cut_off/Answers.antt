use Rattle.circus_type.proofs.WholeTypes.{over_cut}
use Rattle.circus_type.proofs.Sizes.{measured_is}
use Rattle.circus_type.proofs.laws.sizes_are_cut_off.Goals as goal

pub returns-clause-size : goal.returns-clause-size
returns-clause-size c = measured_is

pub returns-clause-over : goal.returns-clause-over
returns-clause-over c = over_cut
