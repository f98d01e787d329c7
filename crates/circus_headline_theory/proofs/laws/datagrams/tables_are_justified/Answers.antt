use Rattle.circus_headline_theory.proofs.Datagrams.Tables.{steps_justified}
use Rattle.circus_headline_theory.proofs.laws.datagrams.tables_are_justified.Goals as goal

pub returns : goal.returns
returns g c = λ d node events begun before step event ended next.
    steps_justified g.M.Module.declared g.M.Module.turn g.M.Module.first d node events begun before step event ended next
