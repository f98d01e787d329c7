use Rattle.std.proofs.Common.{◌+◌, [], ◌∷◌, ◌++◌, List, Option, Some, take, drop, sym, subst}
use Rattle.std.specs.Prelude.{IfSome}
use Rattle.std.proofs.lemmas.List.{take_all}
use Rattle.circus_audit.specs.declared.given.GivenEvent.{GivenEvent}
use Rattle.circus_verdict.specs.declared.living.Lived.{Lived}
use Rattle.circus_verdict.specs.Seen.Living.{IsReady, AreRefused, LivesThrough}
use Rattle.circus_verdict.proofs.Lists.{take_one, around, taken}
use Rattle.circus_verdict.proofs.LivedSteps.{refused_more}
use Rattle.circus_verdict.proofs.living.live.Goals as goal

pub loop-place-preserved : goal.loop-place-preserved
loop-place-preserved c =
    let of = c.args.of.now in
    let d = of.deployment.now in
    let later = c.args.later.now in
    let i = c.loop-place.place in
    let told = c.index-later-place.result in
    record {
      ready = subst (λ (o : Option Lived). IfSome o (IsReady d of.home.now of.signature.now of.kept.now)) c.in-Some.is c.in_ok-on.ensures.ready;
      lived = λ b node number troupe boot of_ begun.
          subst (λ (l : List GivenEvent). LivesThrough d b node number troupe of.kept.now (boot ∷ l) (Some c.in-Some.on)) (sym (take_one later i told c.loop-place-test.true c.index-later-place.is))
          (subst (LivesThrough d b node number troupe of.kept.now (boot ∷ (take i later ++ told ∷ []))) c.in-Some.is
          (c.in_ok-on.ensures.lived b node number troupe (boot ∷ take i later) of_ (taken boot later i c.loop-place-test.true) (c.loop-place.invariant.lived b node number troupe boot of_ begun)));
    }

pub returns-in-None-clause-lived : goal.returns-in-None-clause-lived
returns-in-None-clause-lived c = λ b node number troupe boot of_ begun.
    let of = c.args.of.now in
    let d = of.deployment.now in
    let later = c.args.later.now in
    let i = c.loop-place.place in
    let told = c.index-later-place.result in
    subst (λ (l : List GivenEvent). AreRefused d b node number troupe of.kept.now (boot ∷ l)) (sym (around later i told c.loop-place-test.true c.index-later-place.is))
    (refused_more d b node number troupe of.kept.now (boot ∷ (take i later ++ told ∷ [])) (drop (i + 1) later)
    (subst (LivesThrough d b node number troupe of.kept.now (boot ∷ (take i later ++ told ∷ []))) c.in-None.is
    (c.in_ok-on.ensures.lived b node number troupe (boot ∷ take i later) of_ (taken boot later i c.loop-place-test.true) (c.loop-place.invariant.lived b node number troupe boot of_ begun))))

pub returns-clause-lived : goal.returns-clause-lived
returns-clause-lived c = λ b node number troupe boot of_ begun.
    let of = c.args.of.now in
    subst (λ (l : List GivenEvent). LivesThrough of.deployment.now b node number troupe of.kept.now (boot ∷ l) (Some c.loop-place.lived)) (take_all c.loop-place.place c.args.later.now c.loop-place-test.false)
    (c.loop-place.invariant.lived b node number troupe boot of_ begun)
