use Rattle.std.proofs.Common.{ap, ◌∙◌}
use Rattle.circus_node.specs.Headers.{return_in}
use Rattle.circus_node.proofs.HeadLemmas.{found_is, return_in_is}
use Rattle.circus_node.proofs.heads.return_in.Goals as goal

pub returns-clause-read : goal.returns-clause-read
returns-clause-read c =
    found_is c.unless_refused.result c.read_return.result _ c.unless_refused.ensures.found c.unless_refused.ensures.made
    (λ made.
    return_in_is c.as_slice.result.now c.read_return.result c.read_return.ensures made
    ∙ ap return_in (c.as_slice.ensures.value ∙ c.in_ok-bytes.ensures))
