use Rattle.std.proofs.Common.{length, ◌&&◌, sym, ◌∙◌}
use Rattle.circus_collate.specs.Giving.{counts, has_number, reached}
use Rattle.circus_collate.proofs.Places.{first_place-found, both_pass}
use Rattle.circus_collate.proofs.giving.reaching_place.Goals as goal

pub returns-then-has_number-clause-value : goal.returns-then-has_number-clause-value
unfolding reached
returns-then-has_number-clause-value g c =
    let said = c.args.said.now in
    let nodes = g.E.Expectation.nodes c.args.expectation.now in
    sym (first_place-found (λ place. counts nodes said place && has_number g.V.PartialEq.eq nodes said c.args.number place) c.loop-place.place (length said)
    c.loop-place.invariant (both_pass (sym c.counts.ensures ∙ c.if-counts.true) (sym c.has_number.ensures ∙ c.if-has_number.true)) c.loop-place-test.true)
