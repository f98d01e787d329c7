use Rattle.std.proofs.Common.{arith}
use Rattle.circus_value.proofs.PartLemmas.{past_all, found}
use Rattle.circus_value.proofs.tail.find.Goals as goal

pub returns-in_err-part-clause-none : goal.returns-in_err-part-clause-none
returns-in_err-part-clause-none c =
    let past = past_all c.args.parts.now c.args.ends.now c.first_above-place.result c.args.at c.requires.0 (omega (arith, c.in_err-part.ensures.lookup)) c.first_above-place.ensures.within c.first_above-place.ensures.before in
    rw c.from_residual.ensures past

pub overflow_add-result : goal.overflow_add-result
overflow_add-result c =
    let f = found c.args.parts.now c.args.ends.now c.first_above-place.result c.args.at c.in_ok-part.part.now c.requires.0 c.in_ok-part.ensures.lookup.3.0 c.in_ok-part.ensures.lookup.1 c.first_above-place.ensures.before c.first_above-place.ensures.above in
    omega (arith, f.from, f.upto, f.within, c.requires.1, c.len.ensures.value)

pub bounds-ends-place : goal.bounds-ends-place
bounds-ends-place c =
    let f = found c.args.parts.now c.args.ends.now c.first_above-place.result c.args.at c.in_ok-part.part.now c.requires.0 c.in_ok-part.ensures.lookup.3.0 c.in_ok-part.ensures.lookup.1 c.first_above-place.ensures.before c.first_above-place.ensures.above in
    omega (arith, f.ends, c.in_ok-part.ensures.lookup.3.0)

pub overflow_sub-result : goal.overflow_sub-result
overflow_sub-result c =
    let f = found c.args.parts.now c.args.ends.now c.first_above-place.result c.args.at c.in_ok-part.part.now c.requires.0 c.in_ok-part.ensures.lookup.3.0 c.in_ok-part.ensures.lookup.1 c.first_above-place.ensures.before c.first_above-place.ensures.above in
    omega (arith, f.end, f.from, c.len.ensures.value)

pub returns-clause-start : goal.returns-clause-start
returns-clause-start c =
    let f = found c.args.parts.now c.args.ends.now c.first_above-place.result c.args.at c.in_ok-part.part.now c.requires.0 c.in_ok-part.ensures.lookup.3.0 c.in_ok-part.ensures.lookup.1 c.first_above-place.ensures.before c.first_above-place.ensures.above in
    omega (arith, f.end, f.from, c.len.ensures.value)

pub returns-clause-end : goal.returns-clause-end
returns-clause-end c =
    let f = found c.args.parts.now c.args.ends.now c.first_above-place.result c.args.at c.in_ok-part.part.now c.requires.0 c.in_ok-part.ensures.lookup.3.0 c.in_ok-part.ensures.lookup.1 c.first_above-place.ensures.before c.first_above-place.ensures.above in
    omega (arith, f.next, f.upto)
