use Rattle.std.proofs.Common.{sym, ap, ◌∙◌, ◌++◌, take, append_assoc}
use Rattle.std.specs.List.{concat}
use Rattle.circus_value.proofs.PartLemmas.{concat-more}
use Rattle.circus_value.proofs.tail.Tail.copy_to.Goals as goal

pub loop-part-preserved : goal.loop-part-preserved
loop-part-preserved c =
    let more = concat-more c.deref-part-items.result.now c.loop-part.part-index c.part-item.result c.loop-part-test.true c.part-item.is in
    let before = concat (take c.loop-part.part-index c.deref-part-items.result.now) in
    let old = c.args.bytes.now.items in
    c.in_ok-extend_from_slice.ensures.items ∙ (λ j. c.loop-part.invariant j ++ c.as_slice.ensures j) ∙ append_assoc old before c.part-item.result ∙ ap (λ xs. old ++ xs) (sym more)
