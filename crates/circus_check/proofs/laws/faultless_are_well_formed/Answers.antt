use Rattle.circus_check.proofs.WholeModules.{well_formed}
use Rattle.circus_check.proofs.laws.faultless_are_well_formed.Goals as goal

pub returns : goal.returns
returns c interfaces modules obey read none = well_formed interfaces modules obey read none
