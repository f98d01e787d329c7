use Rattle.circus_world_theory.proofs.Plain.{plain_records_stand}
use Rattle.circus_world_theory.proofs.laws.plain_records_stand.Goals as goal

pub returns : goal.returns
returns c = λ d program hosted lines booted last world. plain_records_stand d program hosted lines booted last world
