use Rattle.circus_collate.proofs.Values.{given_said}
use Rattle.circus_collate.proofs.laws.given_values_were_said.Goals as goal

pub returns : goal.returns
returns g c expected said kind down place e = given_said g.V.PartialEq.eq expected said kind down place e
