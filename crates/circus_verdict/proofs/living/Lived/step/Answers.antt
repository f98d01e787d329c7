use Rattle.std.proofs.Common.{◌∙◌, Option, sym, subst}
use Rattle.std.specs.Prelude.{IsSomeAnd}
use Rattle.circus_node.specs.declared.event.Event.{Event}
use Rattle.circus_member_theory.specs.Made.{at_most_one}
use Rattle.circus_world_theory.specs.Histories.{beginning_of}
use Rattle.circus_world_theory.specs.NodeActs.{came_by}
use Rattle.circus_headline_theory.specs.Trace.{acts_of}
use Rattle.circus_verdict.specs.Seen.Living.{ComesSo}
use Rattle.circus_verdict.specs.Seen.Station.{TellsOf}
use Rattle.circus_verdict.proofs.LivedSteps.{dues_on, sound_of, sound_for, can_come, step_of}
use Rattle.circus_verdict.proofs.Stationing.{may_come_there, still_of}
use Rattle.circus_verdict.proofs.Stepping.{goes_to_peers, lives_on, refused_untimely, refused_untold, refused_undue}
use Rattle.circus_verdict.proofs.living.Lived.step.Goals as goal

pub take-requires : goal.take-requires
take-requires c =
    let of = c.args.of.now in
    may_come_there of.deployment.now of.home.now.place.node c.args.self.pairs c.requires.ready.pairs c.in-Some.event
    (subst (λ (o : Option Event). IsSomeAnd o (ComesSo of.deployment.now of.home.now.place.node)) c.in-Some.is c.requires.come)

pub owe-requires-clause-sound : goal.owe-requires-clause-sound
owe-requires-clause-sound c =
    let of = c.args.of.now in
    sound_for of.home.now of.signature.now of.kept.now c.args.self.dues c.requires.ready.dues_are c.requires.ready.sound

pub owe-requires-clause-can : goal.owe-requires-clause-can
owe-requires-clause-can c =
    let of = c.args.of.now in
    can_come of.home.now of.signature.now of.kept.now c.args.self.dues c.requires.ready.dues_are _ c.requires.ready.many c.in_ok-occurrence.occurrence c.in_ok-occurrence.ensures.can

pub is_told-requires : goal.is_told-requires
is_told-requires c = c.take.ensures.format c.requires.ready.format

pub returns-then-not-is_in_time-clause-lived : goal.returns-then-not-is_in_time-clause-lived
returns-then-not-is_in_time-clause-lived c = λ b node number troupe events of_ at lives.
    let of = c.args.of.now in
    let d = of.deployment.now in
    let l = c.args.self in
    let came = c.in_ok-gives.field-0 in
    let o = c.in_ok-occurrence.occurrence in
    let new = c.owe.new.dues in
    let made = c.in_ok-made.made in
    let differs = c.in_ok-made.differs in
    let new_are = dues_on of.home.now of.signature.now of.kept.now l.dues new c.requires.ready.dues_are c.in_ok-made.ensures.stands in
    let s = step_of d of.home.now of.signature.now of.kept.now b node number troupe of_ l events c.requires.ready lives c.args.told.now c.args.at c.in-Some.event came c.take.new.self o new made differs c.in-Some.is
    c.requires.come at c.in_ok-gives.ensures.came c.in_ok-gives.ensures.stand c.in_ok-occurrence.ensures.happens c.in_ok-made.ensures.owes new_are in
    refused_untimely d b node number troupe of.kept.now of_.at events l.pairs l.dues l.awaited c.args.told.now c.args.at c.in-Some.event came c.take.new.self o new made differs s
    (sym c.is_in_time.ensures ∙ c.if-not-is_in_time.true)

pub returns-then-not-tells-clause-lived : goal.returns-then-not-tells-clause-lived
returns-then-not-tells-clause-lived c = λ b node number troupe events of_ at lives.
    let of = c.args.of.now in
    let d = of.deployment.now in
    let l = c.args.self in
    let told = c.args.told.now in
    let event = c.in-Some.event in
    let came = c.in_ok-gives.field-0 in
    let o = c.in_ok-occurrence.occurrence in
    let new = c.owe.new.dues in
    let made = c.in_ok-made.made in
    let differs = c.in_ok-made.differs in
    let last = c.is_told.new.pairs in
    let new_are = dues_on of.home.now of.signature.now of.kept.now l.dues new c.requires.ready.dues_are c.in_ok-made.ensures.stands in
    let s = step_of d of.home.now of.signature.now of.kept.now b node number troupe of_ l events c.requires.ready lives told c.args.at event came c.take.new.self o new made differs c.in-Some.is
    c.requires.come at c.in_ok-gives.ensures.came c.in_ok-gives.ensures.stand c.in_ok-occurrence.ensures.happens c.in_ok-made.ensures.owes new_are in
    refused_untold d b node number troupe of.kept.now of_.at events l.pairs l.dues l.awaited told c.args.at event came c.take.new.self o new made differs s
    (sym c.is_in_time.ensures ∙ c.if-not-is_in_time.false)
    (λ h peers.
    let acts = acts_of (beginning_of d node) h.lived in
    subst (TellsOf d node acts (came_by event) made (at_most_one differs) told last) c.if-not-tells.true (c.in_ok-tells.ensures.tells d node acts (came_by event) (s.stand acts h.stand) (s.owed acts h.stand).gives peers))

pub returns-in_default-2-clause-lived : goal.returns-in_default-2-clause-lived
returns-in_default-2-clause-lived c = λ b node number troupe events of_ at lives.
    let of = c.args.of.now in
    let d = of.deployment.now in
    let l = c.args.self in
    let came = c.in_ok-gives.field-0 in
    let o = c.in_ok-occurrence.occurrence in
    let new = c.owe.new.dues in
    let made = c.in_ok-made.made in
    let differs = c.in_ok-made.differs in
    let new_are = dues_on of.home.now of.signature.now of.kept.now l.dues new c.requires.ready.dues_are c.in_ok-made.ensures.stands in
    let s = step_of d of.home.now of.signature.now of.kept.now b node number troupe of_ l events c.requires.ready lives c.args.told.now c.args.at c.in-Some.event came c.take.new.self o new made differs c.in-Some.is
    c.requires.come at c.in_ok-gives.ensures.came c.in_ok-gives.ensures.stand c.in_ok-occurrence.ensures.happens c.in_ok-made.ensures.owes new_are in
    refused_undue d b node number troupe of.kept.now of_.at events l.pairs l.dues l.awaited c.args.told.now c.args.at c.in-Some.event came c.take.new.self o new made differs s
    (sym c.in_ok-awaited.ensures ∙ c.in_default-2.is)

pub returns-clause-ready : goal.returns-clause-ready
returns-clause-ready c =
    let of = c.args.of.now in
    let d = of.deployment.now in
    let node = of.home.now.place.node in
    let l = c.args.self in
    let still = c.take.new.self in
    let new = c.owe.new.dues in
    let new_are = dues_on of.home.now of.signature.now of.kept.now l.dues new c.requires.ready.dues_are c.in_ok-made.ensures.stands in
    record {
      format = c.is_told.ensures.format;
      pairs = still_of d node still c.is_told.new.pairs c.is_told.ensures.remains (still_of d node l.pairs still c.take.ensures.remains c.requires.ready.pairs);
      dues_are = new_are;
      sound = sound_of of.home.now of.signature.now of.kept.now new new_are c.in_ok-made.ensures.sound;
      many = c.in_ok-made.ensures.views ∙ c.requires.ready.many;
      few = c.requires.ready.few;
    }

pub returns-clause-lived : goal.returns-clause-lived
returns-clause-lived c = λ b node number troupe events of_ at lives lawful.
    let of = c.args.of.now in
    let d = of.deployment.now in
    let l = c.args.self in
    let told = c.args.told.now in
    let event = c.in-Some.event in
    let came = c.in_ok-gives.field-0 in
    let o = c.in_ok-occurrence.occurrence in
    let new = c.owe.new.dues in
    let made = c.in_ok-made.made in
    let differs = c.in_ok-made.differs in
    let last = c.is_told.new.pairs in
    let new_are = dues_on of.home.now of.signature.now of.kept.now l.dues new c.requires.ready.dues_are c.in_ok-made.ensures.stands in
    let s = step_of d of.home.now of.signature.now of.kept.now b node number troupe of_ l events c.requires.ready lives told c.args.at event came c.take.new.self o new made differs c.in-Some.is
    c.requires.come at c.in_ok-gives.ensures.came c.in_ok-gives.ensures.stand c.in_ok-occurrence.ensures.happens c.in_ok-made.ensures.owes new_are in
    let timely = sym c.is_in_time.ensures ∙ c.if-not-is_in_time.false in
    let h = lives lawful in
    let acts = acts_of (beginning_of d node) h.lived in
    let peers = goes_to_peers d b node number troupe of.kept.now of_.at events l.pairs l.dues l.awaited told c.args.at event came c.take.new.self o new made differs s h timely in
    lives_on d b node number troupe of.kept.now of_.at events l.pairs l.dues l.awaited told c.args.at event came c.take.new.self o new made differs s h timely last c.in-Some-2.awaited
    (subst (TellsOf d node acts (came_by event) made (at_most_one differs) told last) c.if-not-tells.false (c.in_ok-tells.ensures.tells d node acts (came_by event) (s.stand acts h.stand) (s.owed acts h.stand).gives peers))
    (sym c.in_ok-awaited.ensures ∙ c.in-Some-2.is)
