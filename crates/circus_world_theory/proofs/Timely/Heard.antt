-- What truly comes to a node of a world can happen to its member.
use Rattle.std.proofs.Common.{◌≡◌, ℕ, List, length, Option, None, Some, refl, sym, subst}
use Rattle.circus_value.specs.ValueTree.{ValueTree}
use Rattle.circus_value.specs.declared.caller.Caller.{Caller}
use Rattle.circus_value.specs.declared.outcome.Outcome.{Outcome}
use Rattle.circus_segment.specs.Segment.{reading}
use Rattle.circus_collate.specs.Deployment.{IsDeployment}
use Rattle.circus_collate.specs.declared.deployment.Deployment.{Deployment}
use Rattle.circus_model.specs.NextTurn.{NextTurn}
use Rattle.circus_model.specs.Behaviour.{Behaviour}
use Rattle.circus_model.specs.Agree.{AreModules, Agree}
use Rattle.circus_model.specs.declared.signature.Signature.{Signature}
use Rattle.circus_wire.specs.declared.delivery.Heard.{Heard}
use Rattle.circus_wire.specs.Wire.{heard_from}
use Rattle.circus_wire.specs.WireActs.{WireActs}
use Rattle.circus_member_rules.specs.declared.occurrence.Occurrence.{Occurrence}
use Rattle.circus_member_rules.specs.declared.occurrence.Purpose.{Purpose}
use Rattle.circus_member_rules.specs.MemberState.{MemberState}
use Rattle.circus_node.specs.Accepting.{occurrence_of_heard, troupe_at}
use Rattle.circus_node.specs.declared.event.Event.{Event}
use Rattle.circus_node.specs.declared.event.Event.TheVariants as comes
use Rattle.circus_node.specs.NodeState.{Acting, member, ringmaster, NodeState}
use Rattle.circus_member_rules.specs.Proper.{AreProper}
use Rattle.circus_member_theory.proofs.Step.{in_range}
use Rattle.circus_world_theory.proofs.Making.{HasModule, MayHaveModule, HeardSo, Happens, heard_accepts}
use Rattle.circus_world_theory.proofs.Stepping.{has_module, CalledAt, SaysTrue, HeardAt, heard_so, ComesTruly}
use Rattle.circus_world_theory.proofs.True.{IsTrueAt, ActsTrue}
use Rattle.circus_world_theory.specs.Happened.{happens_by}
use Rattle.circus_world_theory.proofs.Timely.Lives.{MayHappenTo, MayHappen}

module _ {M : Type 0} (declared : M → Signature) (turn : M → List ValueTree → ℕ → List ValueTree → List Outcome → NextTurn) (first : M → List ValueTree)
    (program : List Behaviour) (agree : Agree program) (are : AreModules program) (proper : AreProper program) (d : Deployment) (good : IsDeployment d)
    (all : length program ≡ length d.troupes) (acts : ℕ → WireActs Purpose) (said : (node : ℕ) → SaysTrue program d acts node) (node : ℕ) where
  abbrev Called : Caller → List ℕ → Type 0
  Called = CalledAt d acts node

  by_accepted : (troupe : ℕ) (m : MemberState M) (o : Option Occurrence) → ((x : Occurrence) → o ≡ Some x → Happens declared first program Called troupe m x) → MayHappenTo declared m o
  by_accepted troupe m None so = tt
  by_accepted troupe m (Some o) so =
      let happens = so o refl in (happens.0, in_range program agree are troupe (first m.performing.hosted) Called m o happens.1)

  heard_may : (troupe : ℕ) (m : MemberState M) → IsTrueAt declared turn first program d Called troupe m → troupe_at d node ≡ Some troupe → (from : ℕ) (h : Heard Purpose)
      → HeardAt d acts node from h → MayHappenTo declared m (occurrence_of_heard d (declared m.performing.hosted) m from h)
  heard_may troupe m so_far hosts from h at =
      let has : HasModule program troupe = subst (λ o. MayHaveModule program o) hosts (has_module program d node good all) in
      by_accepted troupe m (occurrence_of_heard d (declared m.performing.hosted) m from h)
      (heard_accepts declared turn first program d Called troupe m so_far agree are proper from (troupe_at d from) (CalledAt d acts from) h has.few
      (has_module program d from good all)
      (subst (λ o. HeardSo program Called (CalledAt d acts from) o (troupe_at d from) h) hosts (heard_so program d acts said node from h at)))

  -- ---- what comes

  pub comes_may : (event : Event) (n : NodeState M) → n.deployment ≡ d → ComesTruly d acts node event n
      → ActsTrue declared turn first program d Called (troupe_at d node) n.acting
      → MayHappen declared n.acting (happens_by declared event n)
  comes_may event n deployed truly is = by_acting event (troupe_at d node) n.acting refl truly is
    where
      by_acting : (e : Event) (own : Option ℕ) (a : Acting M) → troupe_at d node ≡ own → ComesTruly d acts node e n → ActsTrue declared turn first program d Called own a
          → MayHappen declared a (happens_by declared e (record n { acting = a }))
      by_acting (comes.Datagram from bytes) (Some troupe) (member m) hosts comes_so so =
          subst (λ (x : Deployment). MayHappenTo declared m (occurrence_of_heard x (declared m.performing.hosted) m from (heard_from n.wire from (reading bytes)))) (sym deployed)
          (heard_may troupe m so hosts from (heard_from n.wire from (reading bytes)) comes_so)
      by_acting comes.Tick (Some troupe) (member m) hosts comes_so so = tt
      by_acting (comes.Down other) (Some troupe) (member m) hosts comes_so so = (tt, tt)
      by_acting comes.Join (Some troupe) (member m) hosts comes_so so = (tt, tt)
      by_acting e None (member m) hosts comes_so so = absurd so
      by_acting e own (ringmaster kept) hosts comes_so so = tt
