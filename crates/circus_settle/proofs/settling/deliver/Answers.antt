use Rattle.std.proofs.Common.{◌≡◌, ◌+◌, ◌-◌, ◌<◌, ◌≤◌, suc, length, Ok, Err, sym, ap, subst, ◌∙◌, arith, zero-add}
use Rattle.std.proofs.lemmas.Result.{err_from_is_err_and}
use Rattle.circus_settle.specs.Settled.{settle_world}
use Rattle.circus_settle.specs.Answers.{IsSettled}
use Rattle.circus_settle.proofs.Delivering.{may_be, kept, goes_on, ends, stops}
use Rattle.circus_settle.proofs.settling.deliver.Goals as goal

pub loop-number-init : goal.loop-number-init
loop-number-init g c =
    record {
      sent = omega arith;
      few = c.requires;
      same = λ left all. ap (λ k. settle_world g.M.Module.declared g.M.Module.turn k 0 c.args.world) (sym (zero-add left) ∙ all);
    }

pub returns-then-number-len : goal.returns-then-number-len
returns-then-number-len g c =
    let w = c.loop-number.world in
    let none : length w.sent ≤ c.loop-number.number = omega (arith, c.if-number-len.true, c.len.ensures, ap length c.sent.ensures) in
    let left = c.args.deliveries - (c.loop-number.number + 1) in
    let same = c.loop-number.invariant.same (suc left) (omega (arith, c.loop-number-test.true)) in
    (sym same ∙ stops g.M.Module.declared g.M.Module.turn left c.loop-number.number w none, omega (arith, none))

pub step-requires-clause-legal : goal.step-requires-clause-legal
step-requires-clause-legal g c =
    may_be c.loop-number.world c.loop-number.number (omega (arith, c.if-number-len.false, c.len.ensures, ap length c.sent.ensures))

pub returns-in_err-world : goal.returns-in_err-world
returns-in_err-world g c =
    let declared = g.M.Module.declared in
    let turn = g.M.Module.turn in
    let w = c.loop-number.world in
    let below : c.loop-number.number < length w.sent = omega (arith, c.if-number-len.false, c.len.ensures, ap length c.sent.ensures) in
    let left = c.args.deliveries - (c.loop-number.number + 1) in
    let same = c.loop-number.invariant.same (suc left) (omega (arith, c.loop-number-test.true)) in
    let end = err_from_is_err_and c.from_residual.result c.from_residual.ensures.1 in
    subst (λ r. IsSettled declared turn {P = g.row.M-Paused.Denot} c.args.deliveries c.args.world r) (sym end.1)
    (subst (λ f. IsSettled declared turn {P = g.row.M-Paused.Denot} c.args.deliveries c.args.world (Err f)) (sym end.2)
    (ends declared turn g.row.M-Paused.Denot left c.loop-number.number w c.args.deliveries c.args.world c.in_err-world.field-0.0 below c.in_err-world.ensures same))

pub loop-number-preserved : goal.loop-number-preserved
loop-number-preserved g c =
    let declared = g.M.Module.declared in
    let turn = g.M.Module.turn in
    let w = c.loop-number.world in
    let next = c.in_ok-world.world in
    let below : c.loop-number.number < length w.sent = omega (arith, c.if-number-len.false, c.len.ensures, ap length c.sent.ensures) in
    let keeps = kept declared turn c.loop-number.number w next c.in_ok-world.ensures in
    record {
      sent = omega (arith, below, keeps.sent);
      few = omega (arith, keeps.steps, c.loop-number.invariant.few);
      same = λ left all.
          goes_on declared turn left c.loop-number.number w next (settle_world declared turn c.args.deliveries 0 c.args.world) below c.in_ok-world.ensures
          (c.loop-number.invariant.same (suc left) (omega (arith, all)));
    }

pub returns : goal.returns
returns g c =
    let w = c.loop-number.world in
    let number : c.loop-number.number ≡ c.args.deliveries = omega (arith, c.loop-number-test.false, c.loop-number.auto.number-end) in
    let same = c.loop-number.invariant.same 0 (omega (arith, number)) in
    (sym same ∙ (λ i. Ok (record { world = w; given = number i })), ap (λ n. n - c.args.deliveries) (c.len-2.ensures ∙ ap length c.sent-2.ensures))
