use Rattle.std.proofs.Common.{sym, ◌∙◌}
use Rattle.circus_resolve.proofs.Deciding.{labels_agree}
use Rattle.circus_resolve.proofs.Shapes.{labels_differ}
use Rattle.circus_resolve.proofs.same.are_labels.Goals as goal

pub returns-then-len : goal.returns-then-len
returns-then-len c = sym (labels_differ c.args.some.now c.args.others.now (λ same. c.if-len.true (c.len.ensures ∙ same ∙ sym c.len-2.ensures)))

pub returns-in-Some : goal.returns-in-Some
returns-in-Some c = labels_agree c.args.some.now c.args.others.now c.in-Some.like c.in-Some.ensures
