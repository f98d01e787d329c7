use Rattle.std.proofs.Common.{◌≡◌, refl, ap, subst, ◌∙◌}
use Rattle.std.specs.Bool.{Decides}
use Rattle.circus_model.specs.Behaviour.{IsModule}
use Rattle.circus_performing.specs.Record.{behaviour}
use Rattle.circus_dues.specs.WalkRecord.{state_asked}
use Rattle.circus_dues.proofs.FollowingLemmas.{IsAlong, not_a_run, waits_there, goes_behind, refutes, decides_not, second_decides, first_decides, is_nil, not_nil}
use Rattle.circus_dues.proofs.following.go_on.Goals as goal

pub returns-then-not-branch : goal.returns-then-not-branch
returns-then-not-branch g c =
    let M = g.M.Module in
    let b = behaviour M.declared M.turn M.first c.args.module.now in
    let kept = c.args.kept.now in
    let began = c.args.began.now in
    let state = c.loop-run.state.now in
    let i = subst (IsAlong b kept began state c.loop-run.count) c.in-Some.ensures.cases.0 c.loop-run.invariant in
    decides_not (not_a_run b kept began state c.loop-run.count c.in-Some.run'.now c.in-Some.others.now i (refutes c.in_ok-is_run_of.field-0 c.in_ok-is_run_of.ensures c.if-not-branch.true))

pub returns-then-is_empty : goal.returns-then-is_empty
returns-then-is_empty g c =
    let M = g.M.Module in
    let b = behaviour M.declared M.turn M.first c.args.module.now in
    let kept = c.args.kept.now in
    let began = c.args.began.now in
    let state = c.loop-run.state.now in
    let run = c.in-Some.run'.now in
    let others = c.in-Some.others.now in
    let i = subst (IsAlong b kept began state c.loop-run.count) c.in-Some.ensures.cases.0 c.loop-run.invariant in
    let waits = waits_there b kept began state c.loop-run.count run others i (c.in_ok-is_run_of.ensures.0 c.if-not-branch.false) c.in_default-state.is in
    let there = ◌∙◌ {b = state_asked state c.as_slice.result.now} c.last_asked-state.ensures (ap (state_asked state) c.as_slice.ensures) in
    let d = subst (λ s. Decides c.is_at.result ((kept.count ≡ c.loop-run.count) × (kept.state ≡ s))) there c.is_at.ensures in
    second_decides c.is_at.result c.is_at.result waits (is_nil others c.is_empty.result c.is_empty.ensures c.if-is_empty.true) d refl

pub returns-else-is_empty : goal.returns-else-is_empty
returns-else-is_empty g c =
    let M = g.M.Module in
    let b = behaviour M.declared M.turn M.first c.args.module.now in
    let kept = c.args.kept.now in
    let began = c.args.began.now in
    let state = c.loop-run.state.now in
    let run = c.in-Some.run'.now in
    let others = c.in-Some.others.now in
    let i = subst (IsAlong b kept began state c.loop-run.count) c.in-Some.ensures.cases.0 c.loop-run.invariant in
    let waits = waits_there b kept began state c.loop-run.count run others i (c.in_ok-is_run_of.ensures.0 c.if-not-branch.false) c.in_default-state.is in
    first_decides c.is_empty.result waits (not_nil others c.is_empty.result c.is_empty.ensures c.if-is_empty.false) c.if-is_empty.false

pub loop-run-preserved : goal.loop-run-preserved
loop-run-preserved g c =
    let M = g.M.Module in
    let m = c.args.module.now in
    let b = behaviour M.declared M.turn M.first m in
    let lawful : IsModule b = record { first_is_state = g.met.M.Module.first_is_state m; turns_are_lawful = g.met.M.Module.turns_are_lawful m } in
    let kept = c.args.kept.now in
    let began = c.args.began.now in
    let state = c.loop-run.state.now in
    let run = c.in-Some.run'.now in
    let others = c.in-Some.others.now in
    let i = subst (IsAlong b kept began state c.loop-run.count) c.in-Some.ensures.cases.0 c.loop-run.invariant in
    goes_behind b kept began state c.loop-run.count lawful run others c.in-Some-state.after c.saturating_add-count.result i (c.in_ok-is_run_of.ensures.0 c.if-not-branch.false) c.in-Some-state.is c.saturating_add-count.ensures
