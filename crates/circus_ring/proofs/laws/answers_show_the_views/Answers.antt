use Rattle.circus_ring.proofs.Performing.{view_shown, view_stays}
use Rattle.circus_ring.proofs.laws.answers_show_the_views.Goals as goal

pub returns-clause-shown : goal.returns-clause-shown
returns-clause-shown c = view_shown

pub returns-clause-others : goal.returns-clause-others
returns-clause-others c = view_stays
