use Rattle.std.proofs.Common.{◌≡◌, ◌&&◌, None}
use Rattle.circus_collate.specs.Giving.{first_place, counts, have_equal}
use Rattle.circus_collate.proofs.giving.at_least.Given as goal

abbrev pub invariant-loop-place : goal.invariant-loop-place
invariant-loop-place g l =
    first_place (λ place. counts (g.E.Expectation.nodes l.expectation) l.said place && have_equal g.V.PartialEq.eq l.said l.last place) l.place ≡ None
