use Rattle.circus_headline_theory.proofs.Owed.Making.{step_tells}
use Rattle.circus_headline_theory.proofs.laws.node_owed.steps_give_differences.Goals as goal

pub returns : goal.returns
returns g c = λ at event n next outputs ends. step_tells g.M.Module.declared g.M.Module.turn at event n (next, outputs) ends
