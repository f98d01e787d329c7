use Rattle.std.proofs.Common.{◌+◌, ◌<◌, ◌&&◌, drop, length, nat_eq, sym, ap, ◌∙◌, arith}
use Rattle.std.specs.Cmp.Lexicographic.{pointwise}
use Rattle.circus_value.proofs.PointwiseLemmas.{pointwise_from, pointwise_past, from_not, parts_read}
use Rattle.circus_value.proofs.tail.same_parts.Goals as goal

pub returns-then-ne : goal.returns-then-ne
returns-then-ne c =
    let xs = c.args.parts.now in
    let ys = c.args.others.now in
    let i = c.loop-place.place in
    let few : i < length xs = omega arith in
    let many : i < length ys = omega arith in
    let step = pointwise_from (pointwise nat_eq) xs ys i few many in
    let test = from_not (sym c.ne.ensures ∙ c.if-ne.true) in
    let same = parts_read xs ys i c.index-parts-place.result c.index-others-place.result c.as_slice.result.now c.as_slice-in-loop-place.result.now
    few many c.index-parts-place.is c.index-others-place.is c.as_slice.ensures c.as_slice-in-loop-place.ensures in
    let rest = pointwise (pointwise nat_eq) (drop (i + 1) xs) (drop (i + 1) ys) in
    sym (sym c.loop-place.invariant ∙ step ∙ ap (λ b. b && rest) (same ∙ test))

pub loop-place-preserved : goal.loop-place-preserved
loop-place-preserved c =
    let xs = c.args.parts.now in
    let ys = c.args.others.now in
    let i = c.loop-place.place in
    let few : i < length xs = omega arith in
    let many : i < length ys = omega arith in
    let step = pointwise_from (pointwise nat_eq) xs ys i few many in
    let test = from_not (sym c.ne.ensures ∙ c.if-ne.false) in
    let same = parts_read xs ys i c.index-parts-place.result c.index-others-place.result c.as_slice.result.now c.as_slice-in-loop-place.result.now
    few many c.index-parts-place.is c.index-others-place.is c.as_slice.ensures c.as_slice-in-loop-place.ensures in
    let rest = pointwise (pointwise nat_eq) (drop (i + 1) xs) (drop (i + 1) ys) in
    sym (step ∙ ap (λ b. b && rest) (same ∙ test)) ∙ c.loop-place.invariant

pub returns : goal.returns
returns c =
    sym (sym c.loop-place.invariant ∙ pointwise_past (pointwise nat_eq) c.args.parts.now c.args.others.now c.loop-place.place (omega arith) (omega arith))
