use Rattle.circus_check.proofs.ReachingByImports.{reaches_are_steps}
use Rattle.circus_check.proofs.laws.reach_is_by_imports.Goals as goal

pub returns : goal.returns
returns c modules i j = reaches_are_steps modules i j
