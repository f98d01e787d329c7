use Rattle.circus_settle.proofs.Leading.{spent_at}
use Rattle.circus_settle.proofs.laws.settling_ends_as_steps_do.Goals as goal

pub returns : goal.returns
returns g c = λ most world nodes is. spent_at g.M.Module.declared g.M.Module.turn most world nodes is
