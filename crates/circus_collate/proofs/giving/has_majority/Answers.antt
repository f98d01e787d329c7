use Rattle.std.proofs.Common.{length, get_or, ap, ◌∙◌, arith}
use Rattle.circus_collate.specs.Expecting.{nodes_of}
use Rattle.circus_collate.proofs.Saying.{votes_le, majority_at}
use Rattle.circus_collate.proofs.giving.has_majority.Goals as goal

pub overflow_sub-result : goal.overflow_sub-result
overflow_sub-result g c =
    omega (arith, c.votes-votes.ensures, c.len.ensures, votes_le g.V.PartialEq.eq c.args.said.now (nodes_of c.of-expected.result) (get_or c.args.said.now c.args.place c.index-said-place.result).value)

pub returns : goal.returns
returns g c =
    majority_at g.V.PartialEq.eq (g.E.Expectation.nodes c.args.expectation.now) c.args.said.now c.args.place c.index-said-place.result c.len.result c.votes-votes.result
    c.requires (c.len.ensures ∙ ap length c.of-expected.ensures) (rw c.of-expected.ensures at c.votes-votes.ensures)
