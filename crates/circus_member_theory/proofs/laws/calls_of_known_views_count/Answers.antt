use Rattle.circus_member_theory.proofs.Timely.Counted.{counted_is, is_counted_by}
use Rattle.circus_member_theory.proofs.laws.calls_of_known_views_count.Goals as goal

pub returns-clause-only : goal.returns-clause-only
returns-clause-only c troupe required views index call is = counted_is troupe required views index call is

pub returns-clause-all : goal.returns-clause-all
returns-clause-all c troupe required views index call is = is_counted_by troupe required views index call is
