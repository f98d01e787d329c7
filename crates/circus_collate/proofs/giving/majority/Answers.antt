use Rattle.std.proofs.Common.{length, ◌&&◌, sym, ◌∙◌}
use Rattle.circus_collate.specs.Giving.{counts, has_majority, majority}
use Rattle.circus_collate.proofs.Places.{first_place-found, both_pass}
use Rattle.circus_collate.proofs.giving.majority.Goals as goal

pub returns-then-has_majority : goal.returns-then-has_majority
unfolding majority
returns-then-has_majority g c =
    let said = c.args.said.now in
    let nodes = g.E.Expectation.nodes c.args.expectation.now in
    sym (first_place-found (λ place. counts nodes said place && has_majority g.V.PartialEq.eq nodes said place) c.loop-place.place (length said)
    c.loop-place.invariant (both_pass (sym c.counts.ensures ∙ c.if-counts.true) (sym c.has_majority.ensures ∙ c.if-has_majority.true)) c.loop-place-test.true)
