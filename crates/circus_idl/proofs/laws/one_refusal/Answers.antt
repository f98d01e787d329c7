use Rattle.std.proofs.Common.{length}
use Rattle.circus_syntax.specs.Read.{placed_from}
use Rattle.circus_idl.proofs.OneAnswer.{one_answer, not_refused}
use Rattle.circus_idl.proofs.laws.one_refusal.Goals as goal

pub returns-clause-refusal : goal.returns-clause-refusal
returns-clause-refusal c text ts at one other first second =
    one_answer text ts at one other first second
    (c.one_reading.ensures.stop (placed_from text ts at) (length text) first.stop second.stop first.tree second.tree first.tree_of second.tree_of)
    (c.one_reading.ensures.tree (placed_from text ts at) (length text) first.stop second.stop first.tree second.tree first.tree_of second.tree_of)

pub returns-clause-either : goal.returns-clause-either
returns-clause-either c text ts at next i refusal is refused =
    not_refused text ts at refusal is.tree (is.own, is.rest, is.whole, is.spelled, is.within) is.faultless refused
