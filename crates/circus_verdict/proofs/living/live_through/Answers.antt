use Rattle.std.proofs.Common.{◌≡◌, ◌∙◌, true, [], ◌∷◌, Option, sym, subst}
use Rattle.std.specs.Prelude.{IfSome}
use Rattle.circus_value.specs.Fits.{all_fit}
use Rattle.circus_model.specs.declared.signature.Signature.{Signature}
use Rattle.circus_performing.specs.Record.{behaviour}
use Rattle.circus_verdict.specs.declared.living.Lived.{Lived}
use Rattle.circus_verdict.specs.Seen.Living.{IsReady, LivesThrough, EndsSo}
use Rattle.circus_verdict.proofs.LivedSteps.{refused_more, none_of_refused}
use Rattle.circus_verdict.proofs.living.live_through.Goals as goal

-- the first state is that of the module, which fits what it declares
pub begin-requires-clause-first : goal.begin-requires-clause-first
begin-requires-clause-first g c =
    let M = g.M.Module in
    let m = c.args.module.now in
    subst (λ (s : Signature). all_fit s.variables c.in_ok-first.first ≡ true) (sym c.requires.declared)
    ((λ j. all_fit (M.declared m).variables (c.in_ok-first.ensures j)) ∙ (g.met.M.Module.first_is_state m).fits)

pub returns-in_default : goal.returns-in_default
returns-in_default g c = λ node number troupe of_.
    let M = g.M.Module in
    let of = c.args.of.now in
    let b = behaviour M.declared M.turn M.first c.args.module.now in
    let boot = c.args.boot.now in
    none_of_refused of.deployment.now b node number troupe of.kept.now (boot ∷ c.args.later.now)
    (refused_more of.deployment.now b node number troupe of.kept.now (boot ∷ []) c.args.later.now
    (subst (LivesThrough of.deployment.now b node number troupe of.kept.now (boot ∷ [])) c.in_default.is (c.in_ok-begun.ensures.lived b node number troupe of_ c.in_ok-first.ensures)))

pub live-requires-clause-ready : goal.live-requires-clause-ready
live-requires-clause-ready g c =
    let of = c.args.of.now in
    subst (λ (o : Option Lived). IfSome o (IsReady of.deployment.now of.home.now of.signature.now of.kept.now)) c.in-Some.is c.in_ok-begun.ensures.ready

pub returns-in_default-2 : goal.returns-in_default-2
returns-in_default-2 g c = λ node number troupe of_.
    let M = g.M.Module in
    let of = c.args.of.now in
    let b = behaviour M.declared M.turn M.first c.args.module.now in
    let boot = c.args.boot.now in
    none_of_refused of.deployment.now b node number troupe of.kept.now (boot ∷ c.args.later.now)
    (subst (LivesThrough of.deployment.now b node number troupe of.kept.now (boot ∷ c.args.later.now)) c.in_default-2.is
    (c.in_ok-lived.ensures.lived b node number troupe boot of_
    (subst (LivesThrough of.deployment.now b node number troupe of.kept.now (boot ∷ [])) c.in-Some.is (c.in_ok-begun.ensures.lived b node number troupe of_ c.in_ok-first.ensures))))

pub ends_so-requires-clause-ready : goal.ends_so-requires-clause-ready
ends_so-requires-clause-ready g c =
    let of = c.args.of.now in
    subst (λ (o : Option Lived). IfSome o (IsReady of.deployment.now of.home.now of.signature.now of.kept.now)) c.in-Some-2.is c.in_ok-lived.ensures.ready

pub returns-then-ends : goal.returns-then-ends
returns-then-ends g c = λ node number troupe of_.
    let M = g.M.Module in
    let of = c.args.of.now in
    let b = behaviour M.declared M.turn M.first c.args.module.now in
    let boot = c.args.boot.now in
    let events = boot ∷ c.args.later.now in
    let lives =
    subst (LivesThrough of.deployment.now b node number troupe of.kept.now events) c.in-Some-2.is
    (c.in_ok-lived.ensures.lived b node number troupe boot of_
    (subst (LivesThrough of.deployment.now b node number troupe of.kept.now (boot ∷ [])) c.in-Some.is (c.in_ok-begun.ensures.lived b node number troupe of_ c.in_ok-first.ensures))) in
    subst (EndsSo of.deployment.now b node number troupe of.kept.now events c.in-Some-2.lived.dues.owing.began) c.if-ends.true (c.in_ok-ends.ensures node number troupe events of_ lives)

pub returns : goal.returns
returns g c = λ node number troupe of_.
    let M = g.M.Module in
    let of = c.args.of.now in
    let b = behaviour M.declared M.turn M.first c.args.module.now in
    let boot = c.args.boot.now in
    let events = boot ∷ c.args.later.now in
    let lives =
    subst (LivesThrough of.deployment.now b node number troupe of.kept.now events) c.in-Some-2.is
    (c.in_ok-lived.ensures.lived b node number troupe boot of_
    (subst (LivesThrough of.deployment.now b node number troupe of.kept.now (boot ∷ [])) c.in-Some.is (c.in_ok-begun.ensures.lived b node number troupe of_ c.in_ok-first.ensures))) in
    subst (EndsSo of.deployment.now b node number troupe of.kept.now events c.in-Some-2.lived.dues.owing.began) c.if-ends.false (c.in_ok-ends.ensures node number troupe events of_ lives)
