use Rattle.circus_body.proofs.WellTyped.{well_typed}
use Rattle.circus_body.proofs.laws.faultless_are_well_formed.Goals as goal

pub returns : goal.returns
returns c variables context whole ss bytes none = well_typed variables context whole ss bytes none
