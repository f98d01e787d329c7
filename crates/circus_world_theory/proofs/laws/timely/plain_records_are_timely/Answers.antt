use Rattle.circus_world_theory.proofs.Timely.Plain.{plain_records_are_timely}
use Rattle.circus_world_theory.proofs.laws.timely.plain_records_are_timely.Goals as goal

pub returns : goal.returns
returns c = λ d program hosted lines begun last world. plain_records_are_timely d program hosted lines begun last world
