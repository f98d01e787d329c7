use Rattle.std.proofs.Common.{subst}
use Rattle.std.proofs.lemmas.Result.{IfOk-weaker}
use Rattle.std.specs.Bool.{Decides}
use Rattle.circus_model.specs.Lawful.{IsState}
use Rattle.circus_performing.specs.Record.{behaviour, IsRecord}
use Rattle.circus_dues.specs.WalkRecord.{GoOn}
use Rattle.circus_dues.proofs.FollowingLemmas.{runs_decide, began_in, refutes, decides_not}
use Rattle.circus_dues.proofs.following.follows.Goals.{then-not-may_perform-via-then-not-may_perform, then-not-may_perform-via-else-not-may_perform+then-not-is_state}
use Rattle.circus_dues.proofs.following.follows.Goals as goal

pub returns-then-not-may_perform : goal.returns-then-not-may_perform
returns-then-not-may_perform g c =
    let M = g.M.Module in
    let m = c.args.module.now in
    let b = behaviour M.declared M.turn M.first m in
    let kept = c.args.kept.now in
    let began = c.args.began.now in
    elim c.then-not-may_perform.branch [
      | then-not-may_perform-via-then-not-may_perform w ↦ decides_not (λ (is : IsRecord b began kept). refutes c.may_perform.result c.may_perform.ensures w.if-not-may_perform.true is.inactive)
      | then-not-may_perform-via-else-not-may_perform+then-not-is_state w ↦
          decides_not (λ is. refutes w.is_state.result (subst (λ s. Decides w.is_state.result (IsState s began)) w.signature.ensures w.is_state.ensures) w.if-not-is_state.true (began_in b began kept is))
    ]

pub returns : goal.returns
returns g c =
    let M = g.M.Module in
    let b = behaviour M.declared M.turn M.first c.args.module.now in
    let kept = c.args.kept.now in
    let began = c.args.began.now in
    IfOk-weaker c.go_on.result (λ r. Decides r (GoOn b kept 0 began kept.runs)) (λ r. Decides r (IsRecord b began kept))
    (λ r d. runs_decide b began kept r (c.may_perform.ensures.0 c.if-not-may_perform.false) d) c.go_on.ensures
