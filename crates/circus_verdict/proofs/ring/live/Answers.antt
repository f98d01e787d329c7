use Rattle.std.proofs.Common.{◌+◌, [], ◌∷◌, ◌++◌, List, Option, Some, take, drop, sym, subst}
use Rattle.std.specs.Prelude.{IfSome}
use Rattle.std.proofs.lemmas.List.{take_all}
use Rattle.circus_audit.specs.declared.given.GivenEvent.{GivenEvent}
use Rattle.circus_verdict.specs.declared.ring.Rung.{Rung}
use Rattle.circus_verdict.specs.Seen.Ringing.{IsReady, AreRefused, LivesThrough}
use Rattle.circus_verdict.proofs.Lists.{take_one, around}
use Rattle.circus_verdict.proofs.Ringing.{ring_refused_more}
use Rattle.circus_verdict.proofs.ring.live.Goals as goal

pub loop-told-preserved : goal.loop-told-preserved
loop-told-preserved c =
    let d = c.args.deployment.now in
    let node = c.args.node in
    let later = c.args.later.now in
    let i = c.loop-told.told-index in
    let told = c.told-item.result in
    record {
      ready = subst (λ (o : Option Rung). IfSome o (IsReady d node)) c.in-Some.is c.in_ok-on.ensures.ready;
      lived = λ boot begun.
          subst (λ (l : List GivenEvent). LivesThrough d node (boot ∷ l) (Some c.in-Some.on)) (sym (take_one later i told c.loop-told-test.true c.told-item.is))
          (subst (LivesThrough d node (boot ∷ (take i later ++ told ∷ []))) c.in-Some.is (c.in_ok-on.ensures.lived (boot ∷ take i later) (c.loop-told.invariant.lived boot begun)));
    }

pub returns-in-None : goal.returns-in-None
returns-in-None c = λ boot begun.
    let d = c.args.deployment.now in
    let node = c.args.node in
    let later = c.args.later.now in
    let i = c.loop-told.told-index in
    let told = c.told-item.result in
    subst (λ (l : List GivenEvent). AreRefused d node (boot ∷ l)) (sym (around later i told c.loop-told-test.true c.told-item.is))
    (ring_refused_more d node (boot ∷ (take i later ++ told ∷ [])) (drop (i + 1) later)
    (subst (LivesThrough d node (boot ∷ (take i later ++ told ∷ []))) c.in-None.is (c.in_ok-on.ensures.lived (boot ∷ take i later) (c.loop-told.invariant.lived boot begun))))

pub returns : goal.returns
returns c = λ boot begun.
    subst (λ (l : List GivenEvent). LivesThrough c.args.deployment.now c.args.node (boot ∷ l) (Some c.loop-told.rung)) (take_all c.loop-told.told-index c.args.later.now c.loop-told-test.false)
    (c.loop-told.invariant.lived boot begun)
