use Rattle.circus_world_theory.proofs.Quiescence.Pairs.{all_arrive}
use Rattle.circus_world_theory.proofs.laws.quiescence.all_that_came_arrived.Goals as goal

pub returns : goal.returns
returns c = all_arrive
