use Rattle.std.proofs.Common.{◌≡◌, ◌+◌, ◌-◌, ◌<◌, true, false, ℕ, List, [], ◌∷◌, ◌++◌, Some, None, length, refl, ap, sym, subst, ◌∙◌}
use Rattle.circus_value.specs.ValueTree.{ValueTree}
use Rattle.circus_value.specs.declared.outcome.Outcome.{Outcome}
use Rattle.circus_limits.specs.Limits.{most_asks}
use Rattle.circus_model.specs.Behaviour.{IsModule}
use Rattle.circus_model.specs.Gives.{Gives, CanResume}
use Rattle.circus_model.specs.Execution.{is_spent}
use Rattle.circus_performing.specs.Performing.{state_after, clock_after, replies_of, with_run}
use Rattle.circus_performing.specs.Record.{behaviour}
use Rattle.circus_performing.specs.Seen.UnderWay.{IsMember}
use Rattle.circus_performing.proofs.Members.{answered_same, member_same, clock_is_there, IsGoing, ends_member, ends_kept, waits_member, waits_kept, resumes_refused, goes_on_refused, fewer_left}
use Rattle.circus_performing.proofs.performer.Going.go_on.Goals as goal

pub loop-turn-init : goal.loop-turn-init
loop-turn-init g c = record { next = c.requires.next; gives = c.requires.gives; comes_to = refl }

pub ended_run-requires : goal.ended_run-requires
ended_run-requires g c =
    let m = c.args.self.held.value in
    let b = behaviour g.M.Module.declared g.M.Module.turn g.M.Module.first m.hosted in
    clock_is_there b (state_after m.began m.kept.runs) c.loop-turn.run c.loop-turn.invariant.next.under_way.made

pub rest-requires : goal.rest-requires
rest-requires g c =
    let m = c.args.self.held.value in
    let S = g.M.Module.stands m.hosted in
    let b = behaviour g.M.Module.declared g.M.Module.turn g.M.Module.first m.hosted in
    let lawful : IsModule b = record { first_is_state = g.met.M.Module.first_is_state m.hosted; turns_are_lawful = g.met.M.Module.turns_are_lawful m.hosted } in
    subst (λ r. IsMember S b m.began (with_run m.kept r) None) (sym c.in_ok-run-in-Ends.ensures)
    (ends_member S b m.began lawful m.kept c.args.step c.args.self.run c.loop-turn.run c.loop-turn.turn c.in-Ends.outcome c.in-Ends.state c.loop-turn.invariant c.in-Ends.is)

pub returns-in-Ends : goal.returns-in-Ends
returns-in-Ends g c =
    let m = c.args.self.held.value in
    let S = g.M.Module.stands m.hosted in
    let b = behaviour g.M.Module.declared g.M.Module.turn g.M.Module.first m.hosted in
    let lawful : IsModule b = record { first_is_state = g.met.M.Module.first_is_state m.hosted; turns_are_lawful = g.met.M.Module.turns_are_lawful m.hosted } in
    let kept = ap (with_run m.kept) c.in_ok-run-in-Ends.ensures ∙ ends_kept S b m.began lawful m.kept c.args.step c.args.self.run c.loop-turn.run c.loop-turn.turn c.in-Ends.outcome c.in-Ends.state c.loop-turn.invariant c.in-Ends.is in
    answered_same c.rest.result _ _ (member_same m.hosted m.began _ _ kept) c.rest.ensures

pub current_clock-requires : goal.current_clock-requires
current_clock-requires g c =
    let m = c.args.self.held.value in
    let b = behaviour g.M.Module.declared g.M.Module.turn g.M.Module.first m.hosted in
    clock_is_there b (state_after m.began m.kept.runs) c.loop-turn.run c.loop-turn.invariant.next.under_way.made

pub waiting_run-requires : goal.waiting_run-requires
waiting_run-requires g c =
    let m = c.args.self.held.value in
    let b = behaviour g.M.Module.declared g.M.Module.turn g.M.Module.first m.hosted in
    clock_is_there b (state_after m.began m.kept.runs) c.loop-turn.run c.loop-turn.invariant.next.under_way.made

pub refused_run-requires : goal.refused_run-requires
refused_run-requires g c =
    let m = c.args.self.held.value in
    let b = behaviour g.M.Module.declared g.M.Module.turn g.M.Module.first m.hosted in
    clock_is_there b (state_after m.began m.kept.runs) c.loop-turn.run c.loop-turn.invariant.next.under_way.made

pub rest-requires-then-not-is_spent : goal.rest-requires-then-not-is_spent
rest-requires-then-not-is_spent g c =
    let m = c.args.self.held.value in
    let S = g.M.Module.stands m.hosted in
    let b = behaviour g.M.Module.declared g.M.Module.turn g.M.Module.first m.hosted in
    let lawful : IsModule b = record { first_is_state = g.met.M.Module.first_is_state m.hosted; turns_are_lawful = g.met.M.Module.turns_are_lawful m.hosted } in
    let unspent : is_spent (clock_after c.loop-turn.run.entry c.loop-turn.run.asks) ≡ false = sym (c.is_spent.ensures ∙ ap is_spent c.current_clock.ensures) ∙ c.if-not-is_spent.true in
    subst (λ r. IsMember S b m.began (with_run m.kept r) (Some c.in-Asks.paused)) (sym c.in_ok-waiting_run-in-Asks.ensures)
    (waits_member S b m.began lawful m.kept c.args.step c.args.self.run c.loop-turn.run c.loop-turn.turn c.in-Asks.callee c.in-Asks.procedure c.in-Asks.arguments c.in-Asks.state c.in-Asks.paused c.loop-turn.invariant c.in-Asks.is unspent)

pub returns-then-not-is_spent : goal.returns-then-not-is_spent
returns-then-not-is_spent g c =
    let m = c.args.self.held.value in
    let S = g.M.Module.stands m.hosted in
    let b = behaviour g.M.Module.declared g.M.Module.turn g.M.Module.first m.hosted in
    let lawful : IsModule b = record { first_is_state = g.met.M.Module.first_is_state m.hosted; turns_are_lawful = g.met.M.Module.turns_are_lawful m.hosted } in
    let unspent : is_spent (clock_after c.loop-turn.run.entry c.loop-turn.run.asks) ≡ false = sym (c.is_spent.ensures ∙ ap is_spent c.current_clock.ensures) ∙ c.if-not-is_spent.true in
    let kept = ap (with_run m.kept) c.in_ok-waiting_run-in-Asks.ensures ∙ waits_kept S b m.began lawful m.kept c.args.step c.args.self.run c.loop-turn.run c.loop-turn.turn c.in-Asks.callee c.in-Asks.procedure c.in-Asks.arguments c.in-Asks.state c.in-Asks.paused c.loop-turn.invariant c.in-Asks.is unspent in
    answered_same c.rest-then-not-is_spent.result _ _ (member_same m.hosted m.began _ _ kept) c.rest-then-not-is_spent.ensures

pub resume-requires : goal.resume-requires
resume-requires g c =
    let m = c.args.self.held.value in
    let S = g.M.Module.stands m.hosted in
    let b = behaviour g.M.Module.declared g.M.Module.turn g.M.Module.first m.hosted in
    let lawful : IsModule b = record { first_is_state = g.met.M.Module.first_is_state m.hosted; turns_are_lawful = g.met.M.Module.turns_are_lawful m.hosted } in
    subst (λ h. CanResume (g.M.Module.stands h.hosted c.in-Asks.paused) (g.M.Module.declared h.hosted) (g.M.Module.turn h.hosted) c.refusal.result) (sym c.deref.ensures)
    (subst (λ r. CanResume (S c.in-Asks.paused) b.declared b.turn r) (sym c.refusal.ensures)
    (resumes_refused S b m.began lawful m.kept c.args.step c.args.self.run c.loop-turn.run c.loop-turn.turn c.in-Asks.callee c.in-Asks.procedure c.in-Asks.arguments c.in-Asks.state c.in-Asks.paused c.loop-turn.invariant c.in-Asks.is))

pub loop-turn-smaller : goal.loop-turn-smaller
loop-turn-smaller g c =
    let m = c.args.self.held.value in
    let S = g.M.Module.stands m.hosted in
    let b = behaviour g.M.Module.declared g.M.Module.turn g.M.Module.first m.hosted in
    let lawful : IsModule b = record { first_is_state = g.met.M.Module.first_is_state m.hosted; turns_are_lawful = g.met.M.Module.turns_are_lawful m.hosted } in
    subst (λ r. most_asks + 1 - length (replies_of r.asks) < most_asks + 1 - length (replies_of c.loop-turn.run.asks)) (sym c.in_ok-run-in-Asks.ensures)
    (fewer_left S b m.began lawful m.kept c.args.step c.args.self.run c.loop-turn.run c.loop-turn.turn c.in-Asks.callee c.in-Asks.procedure c.in-Asks.arguments c.in-Asks.state c.loop-turn.invariant)

pub loop-turn-preserved : goal.loop-turn-preserved
loop-turn-preserved g c =
    let m = c.args.self.held.value in
    let S = g.M.Module.stands m.hosted in
    let b = behaviour g.M.Module.declared g.M.Module.turn g.M.Module.first m.hosted in
    let lawful : IsModule b = record { first_is_state = g.met.M.Module.first_is_state m.hosted; turns_are_lawful = g.met.M.Module.turns_are_lawful m.hosted } in
    let spent : is_spent (clock_after c.loop-turn.run.entry c.loop-turn.run.asks) ≡ true = sym (c.is_spent.ensures ∙ ap is_spent c.current_clock.ensures) ∙ c.if-not-is_spent.false in
    let went = subst (λ h. (state : List ValueTree) (p : ℕ) (a : List ValueTree) (replies : List Outcome) → g.M.Module.stands h.hosted c.in-Asks.paused state p a replies
    → Gives (λ q. g.M.Module.stands h.hosted q state p a (replies ++ c.refusal.result ∷ [])) (g.M.Module.turn h.hosted state p a (replies ++ c.refusal.result ∷ [])) c.in_ok-turn-in-Asks.turn)
    c.deref.ensures c.in_ok-turn-in-Asks.ensures in
    let resumed = subst (λ r. (state : List ValueTree) (p : ℕ) (a : List ValueTree) (replies : List Outcome) → S c.in-Asks.paused state p a replies → Gives (λ q. S q state p a (replies ++ r ∷ [])) (b.turn state p a (replies ++ r ∷ [])) c.in_ok-turn-in-Asks.turn) c.refusal.ensures went in
    subst (λ r. IsGoing S b m.began m.kept c.args.step c.args.self.run r c.in_ok-turn-in-Asks.turn) (sym c.in_ok-run-in-Asks.ensures)
    (goes_on_refused S b m.began lawful m.kept c.args.step c.args.self.run c.loop-turn.run c.loop-turn.turn c.in_ok-turn-in-Asks.turn c.in-Asks.callee c.in-Asks.procedure c.in-Asks.arguments c.in-Asks.state c.in-Asks.paused c.loop-turn.invariant c.in-Asks.is spent resumed)
