use Rattle.std.proofs.Common.{◌≡◌, not, None}
use Rattle.circus_collate.specs.Giving.{first_place, have_equal}
use Rattle.circus_collate.proofs.giving.first_difference.Given as goal

abbrev pub invariant-loop-place : goal.invariant-loop-place
invariant-loop-place g l = first_place (λ place. not (have_equal g.V.PartialEq.eq l.said 0 place)) l.place ≡ None
