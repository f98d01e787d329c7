use Rattle.circus_simulation.proofs.SamplesAlike.{sampled_as, lines_drawn_as, summary_as}
use Rattle.circus_simulation.proofs.laws.samples_depend_on_behaviours.Goals as goal

pub returns-clause-worlds : goal.returns-clause-worlds
returns-clause-worlds g c = λ steps word world. sampled_as g.M.Module.declared g.M.Module.turn g.M.Module.first steps word world

pub returns-clause-lines : goal.returns-clause-lines
returns-clause-lines g c = λ steps word world. lines_drawn_as g.M.Module.declared g.M.Module.turn g.M.Module.first steps word world

pub returns-clause-texts : goal.returns-clause-texts
returns-clause-texts g c = λ names steps world. summary_as g.M.Module.declared g.M.Module.turn g.M.Module.first names steps world
