use Rattle.std.proofs.Common.{ap, ◌∙◌}
use Rattle.circus_node.specs.Headers.{call_in}
use Rattle.circus_node.proofs.HeadLemmas.{found_is, call_in_is}
use Rattle.circus_node.proofs.heads.call_in.Goals as goal

pub returns-clause-read : goal.returns-clause-read
returns-clause-read c =
    found_is c.unless_refused.result c.read_call.result _ c.unless_refused.ensures.found c.unless_refused.ensures.made
    (λ made.
    call_in_is c.as_slice.result.now c.read_call.result c.read_call.ensures made
    ∙ ap call_in (c.as_slice.ensures.value ∙ c.in_ok-bytes.ensures))
