use Rattle.std.proofs.Common.{sym}
use Rattle.circus_external.proofs.PieceLemmas.{word_given}
use Rattle.circus_node.proofs.bodies.error_at.Goals as goal

pub raised_values-requires : goal.raised_values-requires
raised_values-requires c = (word_given c.args.message.now c.args.at c.in-Some.number (sym c.in-Some.ensures.value)).0
