use Rattle.std.proofs.Common.{◌≡◌, ℕ, List, Option, IfOk, sym, ap, subst, ◌∙◌}
use Rattle.std.specs.Option.{option_map_or}
use Rattle.circus_value.specs.ValueTree.{ValueTree}
use Rattle.circus_value.specs.declared.outcome.Outcome.{Outcome}
use Rattle.circus_collate.specs.declared.deployment.Deployment.{Deployment}
use Rattle.circus_model.specs.NextTurn.{NextTurn}
use Rattle.circus_model.specs.declared.signature.Signature.{Signature}
use Rattle.circus_ring.specs.RingTable.{Kept}
use Rattle.circus_wire.specs.declared.delivery.Heard.{Heard}
use Rattle.circus_member_rules.specs.declared.occurrence.Occurrence.{Occurrence}
use Rattle.circus_member_rules.specs.declared.occurrence.Purpose.{Purpose}
use Rattle.circus_member_rules.specs.MemberState.{MemberState}
use Rattle.circus_node.specs.declared.acting.Consequences.{Consequences}
use Rattle.circus_node.specs.NodeState.{Acting, member, ringmaster}
use Rattle.circus_node.specs.Accepting.{occurrence_of_heard}
use Rattle.circus_node.specs.Making.{Made, refuse, happens, arrives}
use Rattle.circus_node.specs.Seen.ActingOf.{acting_of}
use Rattle.circus_node.specs.Seen.Kept.{IsActing}
use Rattle.circus_node.proofs.acting.Acting.take.Goals as goal

-- what a member makes of a message, by what it accepts
made_by : {M : Type 0} (declared : M → Signature) (turn : M → List ValueTree → ℕ → List ValueTree → List Outcome → NextTurn) (d : Deployment) (at from : ℕ) (heard : Heard Purpose)
    → (m : MemberState M) (self : Acting M) (o p : Option Occurrence) → member m ≡ self → o ≡ occurrence_of_heard d (declared m.performing.hosted) m from heard → o ≡ p
    → option_map_or (happens declared turn at m) p (refuse (member m)) ≡ arrives declared turn d at from heard self
made_by declared turn d at from heard m self o p own is so =
    ap (λ (x : Option Occurrence). option_map_or (happens declared turn at m) x (refuse (member m))) (sym so ∙ is)
    ∙ ap (arrives declared turn d at from heard) own

pub accept-requires : goal.accept-requires
accept-requires g c =
    let own = sym (ap acting_of c.in-Member.is) ∙ c.self.view_is in
    (subst (λ (a : Acting g.row.M.Denot). IsActing c.args.deployment.now a) (sym own) c.requires).0

pub returns-in-Some-clause-acting : goal.returns-in-Some-clause-acting
returns-in-Some-clause-acting g c =
    let M = g.M.Module in
    let own = sym (ap acting_of c.in-Member.is) ∙ c.self.view_is in
    subst (λ (made : Made g.row.M.Denot). IfOk c.happen.result (λ (r : Acting g.row.M.Denot × Consequences). r.0 ≡ made.acting))
    (made_by M.declared M.turn c.args.deployment.now c.args.at c.args.from c.args.heard _ c.args.self _ _ own c.in_ok-occurrence-in-Member.ensures.accepted c.in-Some.is)
    c.happen.ensures.acting

pub returns-in-Some-clause-came : goal.returns-in-Some-clause-came
returns-in-Some-clause-came g c =
    let M = g.M.Module in
    let own = sym (ap acting_of c.in-Member.is) ∙ c.self.view_is in
    subst (λ (made : Made g.row.M.Denot). IfOk c.happen.result (λ (r : Acting g.row.M.Denot × Consequences). r.1 ≡ made.came))
    (made_by M.declared M.turn c.args.deployment.now c.args.at c.args.from c.args.heard _ c.args.self _ _ own c.in_ok-occurrence-in-Member.ensures.accepted c.in-Some.is)
    c.happen.ensures.came

pub returns-in-Some-clause-kept : goal.returns-in-Some-clause-kept
returns-in-Some-clause-kept g c =
    let own = sym (ap acting_of c.in-Member.is) ∙ c.self.view_is in
    c.happen.ensures.kept c.args.deployment.now (subst (λ (a : Acting g.row.M.Denot). IsActing c.args.deployment.now a) (sym own) c.requires).0

pub returns-in-None-clause-acting : goal.returns-in-None-clause-acting
returns-in-None-clause-acting g c =
    let M = g.M.Module in
    let own = sym (ap acting_of c.in-Member.is) ∙ c.self.view_is in
    c.member.ensures
    ∙ ap (λ (made : Made g.row.M.Denot). made.acting)
    (made_by M.declared M.turn c.args.deployment.now c.args.at c.args.from c.args.heard _ c.args.self _ _ own c.in_ok-occurrence-in-Member.ensures.accepted c.in-None.is)

pub returns-in-None-clause-came : goal.returns-in-None-clause-came
returns-in-None-clause-came g c =
    let M = g.M.Module in
    let own = sym (ap acting_of c.in-Member.is) ∙ c.self.view_is in
    c.a_drop.ensures
    ∙ ap (λ (made : Made g.row.M.Denot). made.came)
    (made_by M.declared M.turn c.args.deployment.now c.args.at c.args.from c.args.heard _ c.args.self _ _ own c.in_ok-occurrence-in-Member.ensures.accepted c.in-None.is)

pub returns-in-None-clause-kept : goal.returns-in-None-clause-kept
returns-in-None-clause-kept g c =
    let own = sym (ap acting_of c.in-Member.is) ∙ c.self.view_is in
    subst (λ (a : Acting g.row.M.Denot). IsActing c.args.deployment.now a) (sym (c.member.ensures ∙ own)) c.requires

pub happen-requires : goal.happen-requires
happen-requires g c = rw c.in-Some.is at c.in_ok-occurrence-in-Member.ensures.can

pub perform_heard-requires : goal.perform_heard-requires
perform_heard-requires g c =
    let own = ap (λ (k : Kept). ringmaster k) c.deref_mut.ensures.value ∙ sym (ap acting_of c.in-Ringmaster.is) ∙ c.self.view_is in
    subst (λ (a : Acting g.row.M.Denot). IsActing c.args.deployment.now a) (sym own) c.requires

pub returns-in_ok-came-in-Ringmaster-clause-acting : goal.returns-in_ok-came-in-Ringmaster-clause-acting
returns-in_ok-came-in-Ringmaster-clause-acting g c =
    let M = g.M.Module in
    let own = ap (λ (k : Kept). ringmaster k) c.deref_mut.ensures.value ∙ sym (ap acting_of c.in-Ringmaster.is) ∙ c.self.view_is in
    c.ringmaster.ensures ∙ ap (λ (k : Kept). ringmaster k) c.in_ok-came-in-Ringmaster.ensures.ring
    ∙ ap (λ (a : Acting g.row.M.Denot). (arrives M.declared M.turn c.args.deployment.now c.args.at c.args.from c.args.heard a).acting) own

pub returns-in_ok-came-in-Ringmaster-clause-came : goal.returns-in_ok-came-in-Ringmaster-clause-came
returns-in_ok-came-in-Ringmaster-clause-came g c =
    let M = g.M.Module in
    let own = ap (λ (k : Kept). ringmaster k) c.deref_mut.ensures.value ∙ sym (ap acting_of c.in-Ringmaster.is) ∙ c.self.view_is in
    c.in_ok-came-in-Ringmaster.ensures.came
    ∙ ap (λ (a : Acting g.row.M.Denot). (arrives M.declared M.turn c.args.deployment.now c.args.at c.args.from c.args.heard a).came) own

pub returns-in_ok-came-in-Ringmaster-clause-kept : goal.returns-in_ok-came-in-Ringmaster-clause-kept
returns-in_ok-came-in-Ringmaster-clause-kept g c =
    subst (λ (a : Acting g.row.M.Denot). IsActing c.args.deployment.now a) (sym c.ringmaster.ensures) c.in_ok-came-in-Ringmaster.ensures.kept
