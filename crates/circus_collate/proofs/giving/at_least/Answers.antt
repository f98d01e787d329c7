use Rattle.std.proofs.Common.{length, ◌&&◌, sym, ap, ◌∙◌}
use Rattle.std.specs.Option.{option_and_then}
use Rattle.circus_collate.specs.Giving.{first_place, counts, have_equal, at_least}
use Rattle.circus_collate.proofs.Places.{first_place-found, both_pass}
use Rattle.circus_collate.proofs.giving.at_least.Goals as goal

pub returns-then-have_equal : goal.returns-then-have_equal
unfolding at_least
returns-then-have_equal g c =
    let said = c.args.said.now in
    let nodes = g.E.Expectation.nodes c.args.expectation.now in
    let found = first_place-found (λ place. counts nodes said place && have_equal g.V.PartialEq.eq said c.in_ok-last.last place) c.loop-place.place (length said)
    c.loop-place.invariant (both_pass (sym c.counts.ensures ∙ c.if-counts.true) (sym c.have_equal.ensures ∙ c.if-have_equal.true)) c.loop-place-test.true in
    sym (ap (λ o. option_and_then (λ last. first_place (λ place. counts nodes said place && have_equal g.V.PartialEq.eq said last place) (length said)) o) (sym c.in_ok-last.ensures.value) ∙ found)
