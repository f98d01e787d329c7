-- There is one trace by which a record is audited: that of a node which lives through its events.
use Rattle.std.proofs.Common.{ℕ, ◌≡◌, ◌∙◌, suc, ◌+◌, List, [], ◌∷◌, ◌++◌, length, map, Option, None, Some, refl, sym, ap, subst, arith, length-append}
use Rattle.std.proofs.lemmas.List.{map-append}
use Rattle.std.proofs.lemmas.Option.{same_Some}
use Rattle.circus_collate.specs.declared.deployment.Deployment.{Deployment}
use Rattle.circus_model.specs.Behaviour.{Behaviour}
use Rattle.circus_record.specs.declared.record.MemberRecord.{MemberRecord}
use Rattle.circus_node.specs.Accepting.{troupe_at}
use Rattle.circus_node.specs.Trace.{Trace, booted, stepped}
use Rattle.circus_node.specs.declared.event.Event.{Event}
use Rattle.circus_world_theory.specs.NodeLives.{Events}
use Rattle.circus_headline_theory.specs.Trace.{events_of, now, Rises}
use Rattle.circus_headline_theory.specs.NodeRun.{IsNodeRun}
use Rattle.circus_headline_theory.specs.ServedRun.{IsNumbered}
use Rattle.circus_headline_theory.proofs.OneRun.{there_is_one_run}
use Rattle.circus_audit.specs.declared.given.Given.{Given}
use Rattle.circus_audit.specs.declared.given.GivenEvent.{GivenEvent}
use Rattle.circus_verdict.specs.Audited.{events_in, said_of, IsRunOf, HasRun, HasRunAt, IsAuditedBy}
use Rattle.circus_verdict.specs.Seen.Living.{came_in}

-- ---- what came, and in which steps

pub came_events : (t : Trace) → map (λ (e : GivenEvent). e.event) (events_in t) ≡ came_in t
came_events (booted made outputs) = refl
came_events (stepped t at event made outputs) =
    map-append (λ (e : GivenEvent). e.event) (events_in t) (record { event = Some event; gives = outputs.gives; differences = outputs.differences } ∷ [])
    ∙ ap (λ l. l ++ Some event ∷ []) (came_events t)

pub rises : (t : Trace) → IsNumbered t → Rises t
rises (booted made outputs) numbered = tt
rises (stepped t at event made outputs) numbered = (rises t numbered.0, let is = numbered.1 in omega (arith, is))

-- the first in this step
abbrev pub events_from : ℕ → List (Option Event) → Events
events_from at [] = []
events_from at (None ∷ came) = events_from (at + 1) came
events_from at (Some event ∷ came) = (at, event) ∷ events_from (at + 1) came

events_both : (at : ℕ) (before later : List (Option Event)) → events_from at (before ++ later) ≡ events_from at before ++ events_from (at + length before) later
events_both at [] later = (let same : at ≡ at + 0 = omega arith in ap (λ n. events_from n later) same)
events_both at (None ∷ before) later =
    (let same : at + 1 + length before ≡ at + suc (length before) = omega arith in events_both (at + 1) before later ∙ ap (λ n. events_from (at + 1) before ++ events_from n later) same)
events_both at (Some event ∷ before) later =
    (let same : at + 1 + length before ≡ at + suc (length before) = omega arith in
    ap (λ l. (at, event) ∷ l) (events_both (at + 1) before later ∙ ap (λ n. events_from (at + 1) before ++ events_from n later) same))

as_many : (t : Trace) → IsNumbered t → length (came_in t) ≡ now t + 1
as_many (booted made outputs) numbered = refl
as_many (stepped t at event made outputs) numbered =
    (let before = as_many t numbered.0 in let one = length-append (came_in t) (Some event ∷ []) in let is = numbered.1 in omega (arith, before, one, is))

events_came : (t : Trace) → IsNumbered t → events_of t ≡ events_from 0 (came_in t)
events_came (booted made outputs) numbered = refl
events_came (stepped t at event made outputs) numbered =
    let at_is : at ≡ 0 + length (came_in t) = (let many = as_many t numbered.0 in let is = numbered.1 in omega (arith, many, is)) in
    (λ j. events_came t numbered.0 j ++ (at_is j, event) ∷ []) ∙ sym (events_both 0 (came_in t) (Some event ∷ []))

-- ---- a run of a member

module _ (d : Deployment) (program : List Behaviour) (given : Given) (number : ℕ) (t : Trace) (kept : MemberRecord) (hosts : troupe_at d given.node ≡ Some number)
    (run : IsRunOf d program given.node number t kept) (numbered : IsNumbered t) (came : came_in t ≡ map (λ (e : GivenEvent). e.event) given.events) where
  pub record IsThis (lived : Trace) : Type 0 where
    pub lived_is : lived ≡ t
    pub says : given.member ≡ Some (said_of kept)

  pub audited_is : (lived : Trace) → IsAuditedBy d program given lived → IsThis lived
  audited_is lived a = by_run (subst (λ o. HasRunAt d program given.node o lived given.member given.views) hosts a.run)
    where
      events : events_of lived ≡ events_of t
      events =
          events_came lived a.numbered
          ∙ ap (events_from 0) (sym (came_events lived) ∙ ap (map (λ (e : GivenEvent). e.event)) (sym a.events) ∙ sym came)
          ∙ sym (events_came t numbered)

      by_run : HasRun d program given.node number lived given.member → IsThis lived
      by_run h =
          let troupe_is : h.run.troupe ≡ run.troupe = same_Some h.run.troupe run.troupe (sym h.run.is_troupe ∙ run.is_troupe) in
          let hosted_is : h.run.hosted ≡ run.hosted = same_Some h.run.hosted run.hosted (sym h.run.is_hosted ∙ run.is_hosted) in
          let is : IsNodeRun d run.hosted given.node number run.troupe lived h.kept =
          subst (λ b. IsNodeRun d b given.node number run.troupe lived h.kept) hosted_is
          (subst (λ x. IsNodeRun d h.run.hosted given.node number x lived h.kept) troupe_is h.run.is) in
          let one = there_is_one_run d run.hosted given.node number run.troupe lived t h.kept kept is run.is (rises lived a.numbered) events in
          record { lived_is = one.1; says = h.says ∙ ap (λ k. Some (said_of k)) one.0 }
