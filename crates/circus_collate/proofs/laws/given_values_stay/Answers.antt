use Rattle.circus_collate.proofs.Staying.{given_values}
use Rattle.circus_collate.proofs.laws.given_values_stay.Goals as goal

pub returns : goal.returns
returns g c nodes down said later kind place other e = given_values g.V.PartialEq.eq g.met.V.Eq.laws nodes down said later kind place other e
