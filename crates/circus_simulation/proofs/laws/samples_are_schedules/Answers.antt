use Rattle.circus_simulation.proofs.Stepping.{samples_lead}
use Rattle.circus_simulation.proofs.Untouched.{none_crashed}
use Rattle.circus_simulation.proofs.laws.samples_are_schedules.Goals as goal

pub returns : goal.returns
returns g c = λ steps word world last untouched some is.
    samples_lead g.M.Module.declared g.M.Module.turn steps word world last (none_crashed world untouched) some is
