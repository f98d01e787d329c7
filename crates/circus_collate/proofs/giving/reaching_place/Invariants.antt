use Rattle.std.proofs.Common.{◌≡◌, ◌&&◌, None}
use Rattle.circus_collate.specs.Giving.{first_place, counts, has_number}
use Rattle.circus_collate.proofs.giving.reaching_place.Given as goal

abbrev pub invariant-loop-place : goal.invariant-loop-place
invariant-loop-place g l =
    first_place (λ place. counts (g.E.Expectation.nodes l.expectation) l.said place && has_number g.V.PartialEq.eq (g.E.Expectation.nodes l.expectation) l.said l.number place) l.place ≡ None
