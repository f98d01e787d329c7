use Rattle.std.proofs.Common.{◌*◌, length, ltb}
use borrow.Author.Tests.{ltb-true}
use Rattle.circus_collate.specs.Giving.{votes, counts, has_majority}
use Rattle.circus_collate.proofs.Later.{parts_of}
use Rattle.circus_collate.proofs.Values.{some_at, first_majority}
use Rattle.circus_collate.proofs.Reaching.{majority_given, number_given, number_votes, number_earliest}
use Rattle.circus_collate.proofs.laws.values_are_given_by_votes.Goals as goal

pub returns-clause-majority : goal.returns-clause-majority
unfolding has_majority
returns-clause-majority g c expected said place e =
    let eq = g.V.PartialEq.eq in
    let first = first_majority eq expected said place e in
    let parts = parts_of (counts expected said place) (has_majority eq expected said place) first.here in
    let (s, is, most) = some_at said (λ x. ltb (length (expected x.value)) (2 * votes eq said (expected x.value) x.value)) place parts.1 in
    (s, is, parts.0, ltb-true (length (expected s.value)) (2 * votes eq said (expected s.value) s.value) most)

pub returns-clause-number : goal.returns-clause-number
returns-clause-number g c expected said number place respects e = number_votes g.V.PartialEq.eq g.met.V.Eq.laws expected said number place respects e

pub returns-clause-some_majority : goal.returns-clause-some_majority
returns-clause-some_majority g c expected said v equals many = majority_given g.V.PartialEq.eq g.met.V.Eq.laws expected said v equals many

pub returns-clause-some_number : goal.returns-clause-some_number
returns-clause-some_number g c expected said number v equals some many = number_given g.V.PartialEq.eq g.met.V.Eq.laws expected said number v equals some many

pub returns-clause-earliest : goal.returns-clause-earliest
returns-clause-earliest g c expected said number place arrivals s v equals some e is many =
    number_earliest g.V.PartialEq.eq g.met.V.Eq.laws expected said number place arrivals s v equals some e is many
