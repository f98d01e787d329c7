use Rattle.std.proofs.Common.{length, not, sym, ap, ◌∙◌}
use Rattle.circus_collate.specs.Giving.{have_equal, first_difference}
use Rattle.circus_collate.proofs.Places.{first_place-found}
use Rattle.circus_collate.proofs.giving.first_difference.Goals as goal

pub returns-then-not-have_equal : goal.returns-then-not-have_equal
unfolding first_difference
returns-then-not-have_equal g c =
    let said = c.args.said.now in
    sym (first_place-found (λ place. not (have_equal g.V.PartialEq.eq said 0 place)) c.loop-place.place (length said)
    c.loop-place.invariant (ap not (sym c.have_equal.ensures ∙ c.if-not-have_equal.true)) c.loop-place-test.true)
