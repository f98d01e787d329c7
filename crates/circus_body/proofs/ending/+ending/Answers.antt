use Rattle.std.proofs.Common.{ap, arith, ◌∙◌}
use Rattle.circus_statement.specs.StatementTree.{statement_trees}
use Rattle.circus_statement.specs.Seen.StatementWeight.{list_weight}
use Rattle.circus_body.specs.Ending.{all_end}
use Rattle.circus_body.proofs.Listing.{weight_at, last_ends}
use Rattle.circus_body.proofs.ending.+ending.Goals as goal

pub all_end-ends-requires : goal.all_end-ends-requires
all_end-ends-requires t c =
    let light = weight_at c.as_slice.result.now _ c.in-Some.last.now c.in-Some.ensures.value in
    (omega (arith, light, ap (λ ss. list_weight (statement_trees ss)) c.as_slice.ensures, c.decreases), tt)

pub all_end-returns-in-Some : goal.all_end-returns-in-Some
all_end-returns-in-Some t c =
    c.ends.ensures ∙ last_ends c.as_slice.result.now c.in-Some.last.now c.in-Some.ensures.value ∙ ap (λ ss. all_end (statement_trees ss)) c.as_slice.ensures
