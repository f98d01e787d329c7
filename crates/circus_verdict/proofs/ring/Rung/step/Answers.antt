use Rattle.std.proofs.Common.{◌∙◌, [], Option, sym, subst}
use Rattle.std.specs.Prelude.{IsSomeAnd}
use Rattle.circus_node.specs.declared.event.Event.{Event}
use Rattle.circus_world_theory.specs.NodeActs.{came_by}
use Rattle.circus_world_theory.specs.Histories.{beginning_of}
use Rattle.circus_headline_theory.specs.Trace.{acts_of}
use Rattle.circus_verdict.specs.Seen.Living.{ComesSo}
use Rattle.circus_verdict.specs.Seen.Station.{TellsOf}
use Rattle.circus_verdict.proofs.Ringing.{step_of, ring_goes_to_peers, ring_lives_on, ring_untold, ring_undue}
use Rattle.circus_verdict.proofs.Stationing.{may_come_there, still_of}
use Rattle.circus_verdict.proofs.ring.Rung.step.Goals as goal

pub take-requires : goal.take-requires
take-requires c =
    may_come_there c.args.deployment.now c.args.node c.args.self.pairs c.requires.ready.pairs c.in-Some.event
    (subst (λ (o : Option Event). IsSomeAnd o (ComesSo c.args.deployment.now c.args.node)) c.in-Some.is c.requires.come)

pub is_told-requires : goal.is_told-requires
is_told-requires c = c.take.ensures.format c.requires.ready.format

pub returns-then-not-tells-clause-lived : goal.returns-then-not-tells-clause-lived
returns-then-not-tells-clause-lived c = λ events lives.
    let d = c.args.deployment.now in
    let node = c.args.node in
    let l = c.args.self in
    let told = c.args.told.now in
    let event = c.in-Some.event in
    let came = c.in_ok-gives.field-0 in
    let made = c.in_ok-made.made in
    let s = step_of d node events l.pairs l.ring l.awaited lives told event came c.take.new.self c.answer.new.ring made c.in-Some.is c.requires.come c.in_ok-gives.ensures.came c.in_ok-gives.ensures.stand
    c.in_ok-made.ensures.made c.in_ok-made.ensures.ring in
    let acts = acts_of (beginning_of d node) s.lives.lived in
    let peers = ring_goes_to_peers d node events l.pairs l.ring l.awaited told event came c.take.new.self c.answer.new.ring made s in
    ring_untold d node events l.pairs l.ring l.awaited told event came c.take.new.self c.answer.new.ring made s
    (subst (TellsOf d node acts (came_by event) made [] told c.is_told.new.pairs) c.if-not-tells.true
    (c.in_ok-tells.ensures.tells d node acts (came_by event) (s.stand acts s.lives.stand) (s.owed acts s.lives.stand).gives peers))

pub returns-in_default-2-clause-lived : goal.returns-in_default-2-clause-lived
returns-in_default-2-clause-lived c = λ events lives.
    let d = c.args.deployment.now in
    let node = c.args.node in
    let l = c.args.self in
    let told = c.args.told.now in
    let event = c.in-Some.event in
    let came = c.in_ok-gives.field-0 in
    let made = c.in_ok-made.made in
    let s = step_of d node events l.pairs l.ring l.awaited lives told event came c.take.new.self c.answer.new.ring made c.in-Some.is c.requires.come c.in_ok-gives.ensures.came c.in_ok-gives.ensures.stand
    c.in_ok-made.ensures.made c.in_ok-made.ensures.ring in
    ring_undue d node events l.pairs l.ring l.awaited told event came c.take.new.self c.answer.new.ring made s (sym c.in_ok-awaited.ensures ∙ c.in_default-2.is)

pub returns-clause-ready : goal.returns-clause-ready
returns-clause-ready c =
    let d = c.args.deployment.now in
    let still = c.take.new.self in
    record {
      format = c.is_told.ensures.format;
      pairs = still_of d c.args.node still c.is_told.new.pairs c.is_told.ensures.remains (still_of d c.args.node c.args.self.pairs still c.take.ensures.remains c.requires.ready.pairs);
      ring = c.in_ok-made.ensures.kept;
    }

pub returns-clause-lived : goal.returns-clause-lived
returns-clause-lived c = λ events lives.
    let d = c.args.deployment.now in
    let node = c.args.node in
    let l = c.args.self in
    let told = c.args.told.now in
    let event = c.in-Some.event in
    let came = c.in_ok-gives.field-0 in
    let made = c.in_ok-made.made in
    let last = c.is_told.new.pairs in
    let s = step_of d node events l.pairs l.ring l.awaited lives told event came c.take.new.self c.answer.new.ring made c.in-Some.is c.requires.come c.in_ok-gives.ensures.came c.in_ok-gives.ensures.stand
    c.in_ok-made.ensures.made c.in_ok-made.ensures.ring in
    let acts = acts_of (beginning_of d node) s.lives.lived in
    let peers = ring_goes_to_peers d node events l.pairs l.ring l.awaited told event came c.take.new.self c.answer.new.ring made s in
    ring_lives_on d node events l.pairs l.ring l.awaited told event came c.take.new.self c.answer.new.ring made s last c.in-Some-2.awaited
    (subst (TellsOf d node acts (came_by event) made [] told last) c.if-not-tells.false (c.in_ok-tells.ensures.tells d node acts (came_by event) (s.stand acts s.lives.stand) (s.owed acts s.lives.stand).gives peers))
    (sym c.in_ok-awaited.ensures ∙ c.in-Some-2.is)
