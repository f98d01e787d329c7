use Rattle.circus_settle.proofs.Alike.{settled_as, text_as}
use Rattle.circus_settle.proofs.laws.settling_depends_on_behaviours.Goals as goal

pub returns-clause-worlds : goal.returns-clause-worlds
returns-clause-worlds g c = λ most world. settled_as g.M.Module.declared g.M.Module.turn g.M.Module.first most 0 world

pub returns-clause-texts : goal.returns-clause-texts
returns-clause-texts g c = λ names given world. text_as g.M.Module.declared g.M.Module.turn g.M.Module.first names given world
