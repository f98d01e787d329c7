use Rattle.circus_collate.proofs.Staying.{equal_values}
use Rattle.circus_collate.proofs.laws.equal_values_do_not_differ.Goals as goal

pub returns : goal.returns
returns g c nodes down said kind one other same e = equal_values g.V.PartialEq.eq nodes down said kind one other same e
