use Rattle.std.proofs.Common.{ℕ, List, subst, ◌∙◌}
use Rattle.circus_value.specs.declared.outcome.Outcome.{Outcome}
use Rattle.circus_performing.specs.Record.{behaviour}
use Rattle.circus_dues.specs.Seen.Following.{IsTaken, IsAnswer}
use Rattle.circus_dues.proofs.FollowingLemmas.{may_start, IsPassing, not_answered, goes_with, second_decides, first_decides, is_nil, not_nil}
use Rattle.circus_dues.proofs.following.is_run_of.Goals.{then-is_empty, else-is_empty}
use Rattle.circus_dues.proofs.following.is_run_of.Goals as goal

pub returns-in_default-answer_to : goal.returns-in_default-answer_to
returns-in_default-answer_to g c =
    let M = g.M.Module in
    let m = c.args.module.now in
    let S = M.stands m in
    let b = behaviour M.declared M.turn M.first m in
    let state = c.args.state.now in
    let run = c.args.run.now in
    let clock = c.loop-ask.clock.now in
    let ask = c.in-Some.ask.now in
    let can = may_start (M.declared m) state run.procedure run.arguments c.requires (subst (λ s. IsTaken s run.procedure run.arguments) c.signature.ensures (c.is_taken.ensures.0 c.if-not-is_taken.false)) in
    let i = subst (IsPassing S b state run c.loop-ask.turn clock c.loop-ask.step) c.in-Some.ensures.cases.0 c.loop-ask.invariant in
    let none = subst (λ s. (reply : Outcome) (after : List ℕ) (step : ℕ) → IsAnswer s clock ask reply after step → ⊥) c.signature-in-Some.ensures c.in_default-answer_to.ensures.none in
    let waits = not_answered S b state run c.loop-ask.turn clock c.loop-ask.step ask c.in-Some.others.now can i c.in-Some-paused_at.ensures.ask.1 none in
    elim c.if-is_empty.branch [
      | then-is_empty w ↦ second_decides c.if-is_empty.result w.still_waits.result waits (is_nil c.in-Some.others.now c.is_empty.result c.is_empty.ensures w.if-is_empty.true) (w.still_waits.ensures b state) w.result-is
      | else-is_empty w ↦ first_decides c.if-is_empty.result waits (not_nil c.in-Some.others.now c.is_empty.result c.is_empty.ensures w.if-is_empty.false) (w.result-is ∙ w.if-is_empty.false)
    ]

pub loop-ask-preserved : goal.loop-ask-preserved
loop-ask-preserved g c =
    let M = g.M.Module in
    let m = c.args.module.now in
    let S = M.stands m in
    let b = behaviour M.declared M.turn M.first m in
    let state = c.args.state.now in
    let run = c.args.run.now in
    let clock = c.loop-ask.clock.now in
    let ask = c.in-Some.ask.now in
    let a = c.in-Some-answer_to.answer in
    let i = subst (IsPassing S b state run c.loop-ask.turn clock c.loop-ask.step) c.in-Some.ensures.cases.0 c.loop-ask.invariant in
    let is = subst (λ s. IsAnswer s clock ask a.reply.now a.after.now a.step) c.signature-in-Some.ensures c.in-Some-answer_to.ensures.answer in
    goes_with S b state run c.loop-ask.turn clock c.loop-ask.step ask c.in-Some.others.now c.in-Some-paused_at.paused a.reply.now a.after.now a.step c.in_ok-turn-2.turn i c.in-Some-paused_at.ensures.ask.0 c.in-Some-paused_at.ensures.ask.1 is c.in_ok-turn-2.ensures
