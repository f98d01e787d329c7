use Rattle.circus_schedule.proofs.Spelled.{Spells-one}
use Rattle.circus_schedule.proofs.laws.one_spelling.Goals as goal

pub returns : goal.returns
returns c = Spells-one
