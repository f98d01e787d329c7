use Rattle.std.proofs.Common.{◌≡◌, ◌∙◌, true, false, [], ◌∷◌, Option, Some, sym, ap, subst}
use Rattle.std.specs.Prelude.{IfSome}
use Rattle.circus_verdict.specs.declared.ring.Rung.{Rung}
use Rattle.circus_verdict.specs.Seen.Ringing.{IsReady, LivesThrough}
use Rattle.circus_verdict.proofs.Lists.{is_nil, not_nil}
use Rattle.circus_verdict.proofs.Ringing.{ring_refused, ring_refused_more, ring_awaits, ring_not_said, ring_said}
use Rattle.circus_verdict.proofs.ring.audit_ring.Goals as goal

pub returns-in_default : goal.returns-in_default
returns-in_default c = λ program.
    let d = c.args.deployment.now in
    let node = c.args.given.now.node in
    let boot = c.args.boot.now in
    ring_refused d program c.args.given.now c.requires.none (boot ∷ c.args.later.now) c.requires.events
    (ring_refused_more d node (boot ∷ []) c.args.later.now (subst (LivesThrough d node (boot ∷ [])) c.in_default.is c.in_ok-begun.ensures.lived))

pub live-requires-clause-ready : goal.live-requires-clause-ready
live-requires-clause-ready c = subst (λ (o : Option Rung). IfSome o (IsReady c.args.deployment.now c.args.given.now.node)) c.in-Some.is c.in_ok-begun.ensures.ready

pub returns-in_default-2 : goal.returns-in_default-2
returns-in_default-2 c = λ program.
    let d = c.args.deployment.now in
    let node = c.args.given.now.node in
    let boot = c.args.boot.now in
    let events = boot ∷ c.args.later.now in
    ring_refused d program c.args.given.now c.requires.none events c.requires.events
    (subst (LivesThrough d node events) c.in_default-2.is (c.in_ok-rung.ensures boot (subst (LivesThrough d node (boot ∷ [])) c.in-Some.is c.in_ok-begun.ensures.lived)))

pub returns-then-not-is_empty : goal.returns-then-not-is_empty
returns-then-not-is_empty c = λ program.
    let d = c.args.deployment.now in
    let node = c.args.given.now.node in
    let boot = c.args.boot.now in
    let events = boot ∷ c.args.later.now in
    let l = c.in-Some-2.rung in
    let h = subst (LivesThrough d node events) c.in-Some-2.is (c.in_ok-rung.ensures boot (subst (LivesThrough d node (boot ∷ [])) c.in-Some.is c.in_ok-begun.ensures.lived)) in
    ring_awaits d program c.args.given.now c.requires.none events c.requires.events l.pairs l.ring l.awaited h (not_nil l.awaited c.is_empty.result c.is_empty.ensures c.if-not-is_empty.true)

pub returns-then-not-says_views : goal.returns-then-not-says_views
returns-then-not-says_views c = λ program.
    let d = c.args.deployment.now in
    let node = c.args.given.now.node in
    let boot = c.args.boot.now in
    let events = boot ∷ c.args.later.now in
    let l = c.in-Some-2.rung in
    let h = subst (LivesThrough d node events) c.in-Some-2.is (c.in_ok-rung.ensures boot (subst (LivesThrough d node (boot ∷ [])) c.in-Some.is c.in_ok-begun.ensures.lived)) in
    ring_not_said d program c.args.given.now c.requires.none events c.requires.events l.pairs l.ring l.awaited h
    (λ is. let clash : false ≡ true = sym c.if-not-says_views.true ∙ c.says_views.ensures.1 (is ∙ ap Some (sym c.views.ensures)) in cc)

pub returns : goal.returns
returns c = λ program.
    let d = c.args.deployment.now in
    let node = c.args.given.now.node in
    let boot = c.args.boot.now in
    let events = boot ∷ c.args.later.now in
    let l = c.in-Some-2.rung in
    let h = subst (LivesThrough d node events) c.in-Some-2.is (c.in_ok-rung.ensures boot (subst (LivesThrough d node (boot ∷ [])) c.in-Some.is c.in_ok-begun.ensures.lived)) in
    ring_said d program c.args.given.now c.requires.none events c.requires.events l.pairs l.ring l.awaited h c.requires.joins (is_nil l.awaited c.is_empty.result c.is_empty.ensures c.if-not-is_empty.false)
    (c.says_views.ensures.0 c.if-not-says_views.false ∙ ap Some c.views.ensures)
