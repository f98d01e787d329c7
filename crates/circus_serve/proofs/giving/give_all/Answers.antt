use Rattle.std.proofs.Common.{List, [], ◌∷◌, Err, ap, subst, ◌∙◌, sym}
use Rattle.std.proofs.lemmas.Result.{err_from_is_err_and}
use Rattle.circus_outside.specs.Told.{told_more}
use Rattle.circus_node.specs.declared.event.Give.{Give}
use Rattle.circus_serve.specs.Happened.{port_of, all_given}
use Rattle.circus_serve.specs.Outside.{Tells, tells_of}
use Rattle.circus_serve.specs.Giving.{AreGiven}
use Rattle.circus_serve.proofs.AskedLemmas.{first_more, next_lacks}
use Rattle.circus_serve.proofs.giving.give_all.Goals as goal

pub returns-in_err-give-clause-given : goal.returns-in_err-give-clause-given
returns-in_err-give-clause-given g c =
    let L = g.L.Link in
    let d = c.args.deployment.now in
    let old : Tells = tells_of (L.bound c.args.link.now) (L.taken c.args.link.now) (L.given c.args.link.now) in
    let mid : Tells = tells_of (L.bound c.loop-give.link) (L.taken c.loop-give.link) (L.given c.loop-give.link) in
    let new : Tells = tells_of (L.bound c.give.new.self) (L.taken c.give.new.self) (L.given c.give.new.self) in
    let p = err_from_is_err_and c.from_residual.result c.from_residual.ensures.1 in
    subst (λ r. AreGiven {A = Unit {0}} old new (all_given d c.args.gives.now) r) (sym (p.1 ∙ ap Err p.2))
    (subst (λ (gives : List Give). AreGiven {A = Unit {0}} old new (all_given d gives) (Err c.in_err-give.field-0.0)) c.as_slice-gives.ensures
    (next_lacks d old mid new c.as_slice-gives.result.now c.loop-give.give-index c.give-item.result c.in_err-give.field-0.0 c.loop-give-test.true c.give-item.is
    c.in_err-give.ensures.bound c.in_err-give.ensures.taken c.in_err-give.ensures.given c.loop-give.invariant.given))

pub loop-give-preserved : goal.loop-give-preserved
loop-give-preserved g c =
    let L = g.L.Link in
    let d = c.args.deployment.now in
    let old : Tells = tells_of (L.bound c.args.link.now) (L.taken c.args.link.now) (L.given c.args.link.now) in
    let mid : Tells = tells_of (L.bound c.loop-give.link) (L.taken c.loop-give.link) (L.given c.loop-give.link) in
    let new : Tells = tells_of (L.bound c.give.new.self) (L.taken c.give.new.self) (L.given c.give.new.self) in
    let sent = c.in_ok-give.ensures.given
    ∙ ap (λ port. told_more (L.given c.loop-give.link) ((port, c.as_slice.result.now) ∷ [])) c.port_of.ensures
    ∙ ap (λ bytes. told_more (L.given c.loop-give.link) ((port_of d c.give-item.result.to, bytes) ∷ [])) c.as_slice.ensures in
    record {
      given = first_more d old mid new c.as_slice-gives.result.now c.loop-give.give-index c.give-item.result c.loop-give-test.true c.give-item.is c.in_ok-give.ensures.bound
          c.in_ok-give.ensures.taken sent c.loop-give.invariant.given;
      counts = c.in_ok-give.ensures.counts ∙ c.loop-give.invariant.counts;
    }
