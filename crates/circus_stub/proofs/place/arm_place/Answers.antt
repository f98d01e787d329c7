use Rattle.std.proofs.Common.{◌<◌, length, ap, ◌∙◌, arith, rules}
use Rattle.circus_stub.specs.Seen.Standing.{first_arm}
use Rattle.circus_stub.proofs.StandLemmas.{arms_first, arms_last, arm_at, arm_found, arm_passed}
use Rattle.circus_stub.proofs.place.arm_place.Goals as goal

pub bounds-operations-here : goal.bounds-operations-here
bounds-operations-here c =
    let left = c.loop-here.invariant.left c.requires.0 c.requires.1 in
    (arms_first left.0 c.loop-here-test.true left.1).within

pub offset_bounds-operations-here : goal.offset_bounds-operations-here
offset_bounds-operations-here c =
    let left = c.loop-here.invariant.left c.requires.0 c.requires.1 in
    let within : c.loop-here.here < length c.args.operations.now = (arms_first left.0 c.loop-here-test.true left.1).within in
    search rules

pub returns-then-number-wanted : goal.returns-then-number-wanted
returns-then-number-wanted c = λ arms standing.
    let left = c.loop-here.invariant.left arms standing in
    let arm = arm_at c.loop-here-test.true left.1 c.index-operations-here.is c.in-Arm.is in
    (omega (arith, c.loop-here.invariant.behind), (arm.shape, left.2 ∙ arm_found left.0 arm.others arm.name _ c.args.wanted arm.shape arm.is c.if-number-wanted.true, arm.stand))

pub loop-here-smaller : goal.loop-here-smaller
loop-here-smaller c =
    let left = c.loop-here.invariant.left c.requires.0 c.requires.1 in
    let further = (arm_at c.loop-here-test.true left.1 c.index-operations-here.is c.in-Arm.is).further in
    omega arith

pub loop-here-preserved : goal.loop-here-preserved
loop-here-preserved c =
    let all = c.loop-here.invariant.left c.requires.0 c.requires.1 in
    let further = (arm_at c.loop-here-test.true all.1 c.index-operations-here.is c.in-Arm.is).further in
    record {
      behind = omega (arith, c.loop-here.invariant.behind);
      left = λ arms standing.
          let left = c.loop-here.invariant.left arms standing in
          let arm = arm_at c.loop-here-test.true left.1 c.index-operations-here.is c.in-Arm.is in
          (arm.others, arm.later, left.2 ∙ arm_passed left.0 arm.others arm.name _ c.args.wanted arm.shape arm.is c.if-number-wanted.false);
    }

pub unreachable-requires : goal.unreachable-requires
unreachable-requires c =
    let left = c.loop-here.invariant.left c.requires.0 c.requires.1 in
    let first = arms_first left.0 c.loop-here-test.true left.1 in
    c.in_default.not-Arm _ _ (c.index-operations-here.is ∙ first.head c.index-operations-here.result)

pub returns : goal.returns
returns c = λ arms standing.
    let left = c.loop-here.invariant.left arms standing in
    left.2 ∙ ap (λ xs. first_arm xs c.args.wanted) (arms_last left.0 c.loop-here-test.false left.1)
