use Rattle.std.proofs.Common.{◌∙◌, ◌+◌, ◌++◌, length, take, sym, ap, arith, append_assoc, length-append}
use Rattle.std.specs.List.{concat}
use Rattle.circus_value.proofs.PartLemmas.{concat-more, concat-take-le}
use Rattle.circus_value.proofs.tail.Tail.add_all.Goals as goal

pub add-requires : goal.add-requires
add-requires c =
    let ps = c.args.parts.now in
    let i = c.loop-part.part-index in
    let more = concat-more ps i c.part-item.result c.loop-part-test.true c.part-item.is in
    let before = concat (take i ps) in
    let k = c.in_ok-clone.ensures.cases in
    omega (arith, ap length c.loop-part.invariant, length-append c.args.self.now before, ap length more, length-append before c.part-item.result, concat-take-le ps (i + 1), ap length k, c.requires)

pub loop-part-preserved : goal.loop-part-preserved
loop-part-preserved c =
    let ps = c.args.parts.now in
    let i = c.loop-part.part-index in
    let more = concat-more ps i c.part-item.result c.loop-part-test.true c.part-item.is in
    let before = concat (take i ps) in
    c.in_ok-add.ensures.ok ∙ (λ j. c.loop-part.invariant j ++ c.in_ok-clone.ensures.cases j) ∙ append_assoc c.args.self.now before c.part-item.result ∙ ap (λ xs. c.args.self.now ++ xs) (sym more)
