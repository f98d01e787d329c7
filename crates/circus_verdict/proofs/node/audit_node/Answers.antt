use Rattle.std.proofs.Common.{◌≡◌, ◌∙◌, ◌∷◌, true, false, All, sym, ap, subst}
use Rattle.std.proofs.lemmas.List.{nil_from_length}
use Rattle.circus_model.specs.Behaviour.{behaviours}
use Rattle.circus_world.specs.Legal.{is_spare}
use Rattle.circus_verdict.specs.Audited.{JoinsSo}
use Rattle.circus_verdict.specs.Seen.Living.{MayCome}
use Rattle.circus_verdict.specs.Seen.Shape.{joins_so}
use Rattle.circus_verdict.proofs.Hosted.{no_home}
use Rattle.circus_verdict.proofs.Shaping.{boot_is, they_come, begun_so, some_events, joins_hold, joins_only}
use Rattle.circus_verdict.proofs.node.audit_node.Goals as goal

pub returns-in_default : goal.returns-in_default
returns-in_default g c =
    λ a. some_events a.lived (sym (nil_from_length c.as_slice.result.now c.in_default.ensures.cases) ∙ c.as_slice.ensures ∙ a.is.events)

pub returns-then-not-is_begun : goal.returns-then-not-is_begun
returns-then-not-is_begun g c =
    let events : c.args.given.now.events ≡ c.in-Some.boot.now ∷ c.in-Some.later.now = sym c.as_slice.ensures ∙ c.in-Some.ensures.cases.0 in
    λ a.
    let so = begun_so a.lived c.in-Some.boot.now c.in-Some.later.now (sym events ∙ a.is.events) in
    let clash : false ≡ true = sym c.if-not-is_begun.true ∙ c.is_begun.ensures ∙ so in cc

pub returns-then-not-joins_so : goal.returns-then-not-joins_so
returns-then-not-joins_so g c =
    let d = c.args.deployment.now in
    let node = c.args.given.now.node in
    let events : c.args.given.now.events ≡ c.in-Some.boot.now ∷ c.in-Some.later.now = sym c.as_slice.ensures ∙ c.in-Some.ensures.cases.0 in
    λ a.
    let so = joins_only (is_spare d node) c.in-Some.boot.now c.in-Some.later.now (subst (JoinsSo (is_spare d node)) events a.is.joins) in
    let clash : false ≡ true = sym c.if-not-joins_so.true ∙ c.joins_so.ensures ∙ ap (λ b. joins_so b c.in-Some.later.now) c.is_spare.ensures ∙ so in cc

pub audit_member-requires-clause-boot : goal.audit_member-requires-clause-boot
audit_member-requires-clause-boot g c = boot_is c.in-Some.boot.now c.in-Some.later.now (sym c.is_begun.ensures ∙ c.if-not-is_begun.false)

pub audit_member-requires-clause-come : goal.audit_member-requires-clause-come
audit_member-requires-clause-come g c =
    let d = c.args.deployment.now in
    let node = c.args.given.now.node in
    let events : c.args.given.now.events ≡ c.in-Some.boot.now ∷ c.in-Some.later.now = sym c.as_slice.ensures ∙ c.in-Some.ensures.cases.0 in
    they_come d node c.in-Some.boot.now c.in-Some.later.now (sym c.is_begun.ensures ∙ c.if-not-is_begun.false) (subst (All (MayCome d node)) events c.requires.come)

pub audit_member-requires-clause-joins : goal.audit_member-requires-clause-joins
audit_member-requires-clause-joins g c =
    let d = c.args.deployment.now in
    let node = c.args.given.now.node in
    let events : c.args.given.now.events ≡ c.in-Some.boot.now ∷ c.in-Some.later.now = sym c.as_slice.ensures ∙ c.in-Some.ensures.cases.0 in
    let begun = boot_is c.in-Some.boot.now c.in-Some.later.now (sym c.is_begun.ensures ∙ c.if-not-is_begun.false) in
    subst (JoinsSo (is_spare d node)) (sym events)
    (joins_hold (is_spare d node) c.in-Some.boot.now c.in-Some.later.now begun
    (sym (ap (λ b. joins_so b c.in-Some.later.now) c.is_spare.ensures) ∙ sym c.joins_so.ensures ∙ c.if-not-joins_so.false))

pub audit_member-requires-clause-events : goal.audit_member-requires-clause-events
audit_member-requires-clause-events g c = sym c.as_slice.ensures ∙ c.in-Some.ensures.cases.0

pub audit_ring-requires-clause-boot : goal.audit_ring-requires-clause-boot
audit_ring-requires-clause-boot g c = boot_is c.in-Some.boot.now c.in-Some.later.now (sym c.is_begun.ensures ∙ c.if-not-is_begun.false)

pub audit_ring-requires-clause-come : goal.audit_ring-requires-clause-come
audit_ring-requires-clause-come g c =
    let d = c.args.deployment.now in
    let node = c.args.given.now.node in
    let events : c.args.given.now.events ≡ c.in-Some.boot.now ∷ c.in-Some.later.now = sym c.as_slice.ensures ∙ c.in-Some.ensures.cases.0 in
    they_come d node c.in-Some.boot.now c.in-Some.later.now (sym c.is_begun.ensures ∙ c.if-not-is_begun.false) (subst (All (MayCome d node)) events c.requires.come)

pub audit_ring-requires-clause-joins : goal.audit_ring-requires-clause-joins
audit_ring-requires-clause-joins g c =
    let d = c.args.deployment.now in
    let node = c.args.given.now.node in
    let events : c.args.given.now.events ≡ c.in-Some.boot.now ∷ c.in-Some.later.now = sym c.as_slice.ensures ∙ c.in-Some.ensures.cases.0 in
    let begun = boot_is c.in-Some.boot.now c.in-Some.later.now (sym c.is_begun.ensures ∙ c.if-not-is_begun.false) in
    subst (JoinsSo (is_spare d node)) (sym events)
    (joins_hold (is_spare d node) c.in-Some.boot.now c.in-Some.later.now begun
    (sym (ap (λ b. joins_so b c.in-Some.later.now) c.is_spare.ensures) ∙ sym c.joins_so.ensures ∙ c.if-not-joins_so.false))

pub audit_ring-requires-clause-events : goal.audit_ring-requires-clause-events
audit_ring-requires-clause-events g c = sym c.as_slice.ensures ∙ c.in-Some.ensures.cases.0

pub audit_member-requires-clause-home : goal.audit_member-requires-clause-home
audit_member-requires-clause-home g c = sym c.in_ok-home.ensures ∙ c.in-Some-2.is

pub audit_ring-requires-clause-none : goal.audit_ring-requires-clause-none
audit_ring-requires-clause-none g c = no_home c.args.deployment.now c.args.given.now.node c.requires.deployment (sym c.in_ok-home.ensures ∙ c.in-None.is)

pub returns-in-None : goal.returns-in-None
returns-in-None g c = (let M = g.M.Module in c.audit_ring.ensures (behaviours M.declared M.turn M.first c.args.modules.now))
