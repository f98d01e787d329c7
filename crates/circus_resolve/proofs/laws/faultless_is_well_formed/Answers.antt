use Rattle.circus_resolve.proofs.WellSorted.{well_sorted}
use Rattle.circus_resolve.proofs.laws.faultless_is_well_formed.Goals as goal

pub returns : goal.returns
returns c variables scope whole e bytes none = well_sorted variables scope whole e bytes none
