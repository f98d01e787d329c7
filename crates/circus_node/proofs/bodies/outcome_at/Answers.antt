use Rattle.std.proofs.Common.{sym}
use Rattle.circus_external.proofs.PieceLemmas.{word_given}
use Rattle.circus_node.proofs.bodies.outcome_at.Goals as goal

pub results_at-requires : goal.results_at-requires
results_at-requires c = (word_given c.args.message.now c.args.at c.in-Some.kind (sym c.in-Some.ensures.value)).0
