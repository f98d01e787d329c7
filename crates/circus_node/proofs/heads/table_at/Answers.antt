use Rattle.std.proofs.Common.{ap, ◌∙◌}
use Rattle.circus_node.specs.Headers.{table_in}
use Rattle.circus_node.proofs.HeadLemmas.{found_is, table_in_is}
use Rattle.circus_node.proofs.heads.table_at.Goals as goal

pub returns-clause-read : goal.returns-clause-read
returns-clause-read c =
    found_is c.unless_refused.result c.read_table.result _ c.unless_refused.ensures.found c.unless_refused.ensures.made
    (λ made.
    table_in_is c.as_slice.result.now c.read_table.result c.read_table.ensures made
    ∙ ap table_in (c.as_slice.ensures.value ∙ c.in_ok-bytes.ensures ∙ c.in_ok-rest.ensures))
