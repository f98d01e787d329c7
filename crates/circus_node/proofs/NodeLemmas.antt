-- A node stays the node that it is, and what it gives goes to other ones.
use Rattle.std.proofs.Common.{◌≡◌, ℕ, zero, suc, false, true, ◌-◌, ◌<◌, List, [], ◌∷◌, length, arith, Option, None, Some, Result, Ok, Err, refl, sym, subst, ◌∙◌}
use Rattle.std.specs.Prelude.{IsSome, IfOk, slice_get, option_and_then, option_map}
use Rattle.std.specs.Option.{option_map_or}
use Rattle.std.proofs.lemmas.List.{length-replicate}
use Rattle.std.proofs.lemmas.List.Elements.{All-nil}
use Rattle.circus_collate.specs.Deployment.{IsDeployment}
use Rattle.circus_collate.specs.declared.deployment.Deployment.{Deployment}
use Rattle.circus_collate.specs.declared.deployment.Host.{Host}
use Rattle.circus_collate.specs.declared.deployment.Troupe.{Troupe}
use Rattle.circus_value.specs.ValueTree.{ValueTree}
use Rattle.circus_value.specs.declared.outcome.Outcome.{Outcome}
use Rattle.circus_segment.specs.Segment.{reading}
use Rattle.circus_model.specs.NextTurn.{NextTurn}
use Rattle.circus_model.specs.declared.signature.Signature.{Signature}
use Rattle.circus_wire.specs.declared.delivery.Heard.{Heard}
use Rattle.circus_wire.specs.declared.delivery.Heard.TheVariants.{Dropped, Taken, Called, Returned}
use Rattle.circus_wire.specs.Wire.{Remains, after_datagram, heard_from, all_ticked, stopped_at}
use Rattle.circus_member_rules.specs.declared.occurrence.Occurrence.{Occurrence}
use Rattle.circus_member_rules.specs.declared.occurrence.Purpose.{Purpose}
use Rattle.circus_member_rules.specs.MemberState.{MemberState}
use Rattle.circus_node.specs.declared.event.Event.{Event}
use Rattle.circus_node.specs.declared.event.Event.TheVariants.{Datagram, Tick, Down, Join}
use Rattle.circus_node.specs.declared.event.Give.{Give}
use Rattle.circus_node.specs.declared.event.Outputs.{Outputs}
use Rattle.circus_node.specs.declared.acting.Consequences.{Consequences}
use Rattle.circus_node.specs.NodeState.{NodeState, Acting, member, ringmaster, member_record, ring_views}
use Rattle.circus_node.specs.Node.{IsNodeOf, GoToOthers}
use Rattle.circus_node.specs.GoneOn.{MemberHasGoneOn}
use Rattle.circus_node.specs.Seen.Kept.{IsActing}
use Rattle.circus_node.specs.Accepting.{troupe_at, occurrence_of_heard}
use Rattle.circus_node.specs.Making.{Made, hears, learns_down, is_told_to_join, happens, refuse}
use Rattle.circus_node.specs.Sending.{Sending, sent, spent}
use Rattle.circus_node.specs.declared.event.StepFault.{StepFault}
use Rattle.circus_node.specs.Step.{IsEnded, end_step, conclude_step, step_node}
use Rattle.circus_node.specs.Booting.{CanBoot, home_in, home_of, made_at_boot, boot_node, fresh_wire}
use Rattle.circus_node.proofs.GoLemmas.{AllGo, GoesOn, all_go_on, still_go, datagram_goes, tick_goes, changed_remains, same_remains, remains_on, datagram_remains, tick_remains}

-- ---- the troupe of a member is there

inside : {X : Type 0} (xs : List X) (i : ℕ) → i < length xs → IsSome (slice_get xs i)
inside [] i less = absurd (omega (arith, less))
inside (x ∷ xs) zero less = refl
inside (x ∷ xs) (suc i) less = inside xs i (omega (arith, less))

troupe_there : (d : Deployment) (node number : ℕ) → IsDeployment d → troupe_at d node ≡ Some number → IsSome (slice_get d.troupes number)
troupe_there d node number is e = by_host (slice_get d.nodes node) refl e
  where
    by_host : (o : Option Host) → slice_get d.nodes node ≡ o → option_and_then (λ (h : Host). h.module) o ≡ Some number → IsSome (slice_get d.troupes number)
    by_host None at found = absurd (let clash : ◌≡◌ {A = Option ℕ} None (Some number) = found in cc)
    by_host (Some h) at found = inside d.troupes number ((is.nodes node h at).hosted number found)

module _ {M : Type 0} where
  -- ---- its member has gone on as far as it can

  pub has_gone_on : (d : Deployment) (a : Acting M) → IsActing d a → MemberHasGoneOn a
  has_gone_on d (member m) is = is.1
  has_gone_on d (ringmaster kept) is = tt

  -- ---- what came of a step is sent

  -- the node after a step, with what it gave
  pub record Holds (n : NodeState M) (r : NodeState M × Outputs) : Type 0 where
    pub wire : Remains n.wire r.0.wire
    pub deployment : r.0.deployment ≡ n.deployment
    pub acting : r.0.acting ≡ n.acting
    pub go : GoToOthers r.0 r.1.gives

  same_end : (a b : NodeState M × Outputs) → ◌≡◌ {A = Result (NodeState M × Outputs) ℕ} (Ok a) (Ok b) → a ≡ b
  same_end a b e = cc

  ended_holds : (n : NodeState M) (came : Consequences) (s : Sending) (r : NodeState M × Outputs) → GoesOn n.wire s → end_step n came s ≡ Ok r → Holds n r
  ended_holds n came (sent w gives) r on is =
      subst (Holds n) (same_end _ r is) (record { wire = on.0; deployment = refl; acting = refl; go = still_go n.wire w gives on.0 on.1 })
  ended_holds n came (spent node) r on is = absurd (let clash : ◌≡◌ {A = Result (NodeState M × Outputs) ℕ} (Err node) (Ok r) = is in cc)

  pub concluded_holds : (n : NodeState M) (gives : List Give) (came : Consequences) (r : NodeState M × Outputs)
      → AllGo n.wire gives → conclude_step n gives came ≡ Ok r → Holds n r
  concluded_holds n gives came r go is =
      ended_holds n came _ r (all_go_on n.wire (sent n.wire gives) came.effects (same_remains n.wire, go)) is

  -- ---- a member stays one, and so does the Ringmaster

  abbrev SameRole : Acting M → Acting M → Type 0
  SameRole (member m) b = IsSome (member_record b)
  SameRole (ringmaster kept) b = IsSome (ring_views b)

  still_member : (a b : Acting M) → SameRole a b → IsSome (member_record a) → IsSome (member_record b)
  still_member (member m) b same some = same
  still_member (ringmaster kept) b same some = absurd (let clash : false ≡ true = some in cc)

  still_ring : (a b : Acting M) → SameRole a b → IsSome (ring_views a) → IsSome (ring_views b)
  still_ring (member m) b same some = absurd (let clash : false ≡ true = some in cc)
  still_ring (ringmaster kept) b same some = same

module _ {M : Type 0} (declared : M → Signature) (turn : M → List ValueTree → ℕ → List ValueTree → List Outcome → NextTurn) where
  by_occurrence : (m : MemberState M) (at : ℕ) (o : Option Occurrence) → IsSome (member_record (option_map_or (happens declared turn at m) o (refuse (member m))).acting)
  by_occurrence m at None = refl
  by_occurrence m at (Some o) = refl

  hears_role : (d : Deployment) (at from : ℕ) (heard : Heard Purpose) (a : Acting M) → SameRole a (hears declared turn d at from heard a).acting
  hears_role d at from Dropped (member m) = refl
  hears_role d at from Taken (member m) = refl
  hears_role d at from (Called sender message) (member m) = by_occurrence m at (occurrence_of_heard d (declared m.performing.hosted) m from (Called sender message))
  hears_role d at from (Returned number purpose message) (member m) = by_occurrence m at (occurrence_of_heard d (declared m.performing.hosted) m from (Returned number purpose message))
  hears_role d at from Dropped (ringmaster kept) = refl
  hears_role d at from Taken (ringmaster kept) = refl
  hears_role d at from (Called sender message) (ringmaster kept) = refl
  hears_role d at from (Returned number purpose message) (ringmaster kept) = refl

  lost_role : (at node : ℕ) (a : Acting M) → SameRole a (learns_down declared turn at node a).acting
  lost_role at node (member m) = refl
  lost_role at node (ringmaster kept) = refl

  joining_role : (at : ℕ) (a : Acting M) → SameRole a (is_told_to_join declared turn at a).acting
  joining_role at (member m) = refl
  joining_role at (ringmaster kept) = refl

  -- ---- a step

  -- of a node that has become another one before what came of it was sent
  step_holds : (d : Deployment) (number : ℕ) (n became : NodeState M) (r : NodeState M × Outputs)
      → Remains n.wire became.wire → became.deployment ≡ n.deployment → SameRole n.acting became.acting → Holds became r
      → IsNodeOf d number n → IsNodeOf d number r.0
  step_holds d number n became r wire deployment role holds is =
      let on = remains_on n.wire became.wire r.0.wire wire holds.wire in
      record {
        deployment = holds.deployment ∙ deployment ∙ is.deployment;
        own = on.own ∙ is.own;
        pairs = on.pairs ∙ is.pairs;
        member = λ some. subst (λ a. IsSome (member_record a)) (sym holds.acting) (still_member n.acting became.acting role (is.member some));
        ringmaster = λ none. subst (λ a. IsSome (ring_views a)) (sym holds.acting) (still_ring n.acting became.acting role (is.ringmaster none));
      }

  -- what holds of a step
  pub record Stays (n : NodeState M) (r : NodeState M × Outputs) : Type 0 where
    pub node : (d : Deployment) (number : ℕ) → IsNodeOf d number n → IsNodeOf d number r.0
    pub others : GoToOthers r.0 r.1.gives

  pub stepped_stays : (at : ℕ) (event : Event) (n : NodeState M) (r : NodeState M × Outputs) → step_node declared turn at event n ≡ Ok r → Stays n r
  stepped_stays at (Datagram from bytes) n r is =
      let heard = heard_from n.wire from (reading bytes) in
      let became : NodeState M = record n { wire = after_datagram n.wire from (reading bytes); acting = (hears declared turn n.deployment at from heard n.acting).acting } in
      let remains = datagram_remains n.wire from (reading bytes) in
      let holds = concluded_holds became _ (hears declared turn n.deployment at from heard n.acting).came r (still_go n.wire became.wire _ remains (datagram_goes n.wire from (reading bytes))) is in
      record {
        node = λ d number. step_holds d number n became r remains refl (hears_role n.deployment at from heard n.acting) holds;
        others = holds.go;
      }
  stepped_stays at Tick n r is =
      let became : NodeState M = record n { wire = all_ticked n.wire } in
      let remains = tick_remains n.wire in
      let holds : Holds became r = subst (Holds became) (same_end _ r is) (record { wire = same_remains became.wire; deployment = refl; acting = refl; go = still_go n.wire became.wire _ remains (tick_goes n.wire) }) in
      record {
        node = λ d number. step_holds d number n became r remains refl (own_role n.acting) holds;
        others = holds.go;
      }
    where
      own_role : (a : Acting M) → SameRole a a
      own_role (member m) = refl
      own_role (ringmaster kept) = refl
  stepped_stays at (Down node) n r is =
      let became : NodeState M = record n { wire = stopped_at n.wire node; acting = (learns_down declared turn at node n.acting).acting } in
      let remains = changed_remains _ n.wire node in
      let holds = concluded_holds became [] (learns_down declared turn at node n.acting).came r (All-nil _) is in
      record {
        node = λ d number. step_holds d number n became r remains refl (lost_role at node n.acting) holds;
        others = holds.go;
      }
  stepped_stays at Join n r is =
      let became : NodeState M = record n { acting = (is_told_to_join declared turn at n.acting).acting } in
      let holds = concluded_holds became [] (is_told_to_join declared turn at n.acting).came r (All-nil _) is in
      record {
        node = λ d number. step_holds d number n became r (same_remains n.wire) refl (joining_role at n.acting) holds;
        others = holds.go;
      }

  -- ---- boot

  module _ (first : M → List ValueTree) where
    boot_role : (d : Deployment) (hosted : Option M) (node : ℕ) → CanBoot d node (option_map declared hosted)
        → IsSome (troupe_at d node) → IsSome (member_record (made_at_boot declared turn first d (home_of d node) hosted).acting)
    boot_role d hosted node can some = by_number (troupe_at d node) refl some
      where
        by_hosted : (number : ℕ) (troupe : Troupe) (o : Option M) → IsSome (option_map declared o)
            → IsSome (member_record (made_at_boot declared turn first d (Some (home_in d node number troupe)) o).acting)
        by_hosted number troupe None is = absurd (let clash : false ≡ true = is in cc)
        by_hosted number troupe (Some m) is = refl

        by_troupe : (number : ℕ) (o : Option Troupe) → IsSome o
            → IsSome (member_record (made_at_boot declared turn first d (option_map (home_in d node number) o) hosted).acting)
        by_troupe number None is = absurd (let clash : false ≡ true = is in cc)
        by_troupe number (Some troupe) is = by_hosted number troupe hosted (can.hosted.1 some)

        by_number : (o : Option ℕ) → troupe_at d node ≡ o → IsSome o
            → IsSome (member_record (made_at_boot declared turn first d (option_and_then (λ number. option_map (home_in d node number) (slice_get d.troupes number)) (troupe_at d node)) hosted).acting)
        by_number None is there = absurd (let clash : false ≡ true = there in cc)
        by_number (Some number) is there =
            subst (λ o. IsSome (member_record (made_at_boot declared turn first d (option_and_then (λ number. option_map (home_in d node number) (slice_get d.troupes number)) o) hosted).acting))
            (sym is) (by_troupe number (slice_get d.troupes number) (troupe_there d node number can.deployment is))

    boot_ring : (d : Deployment) (hosted : Option M) (node : ℕ) → troupe_at d node ≡ None
        → IsSome (ring_views (made_at_boot declared turn first d (home_of d node) hosted).acting)
    boot_ring d hosted node none =
        subst (λ o. IsSome (ring_views (made_at_boot declared turn first d (option_and_then (λ number. option_map (home_in d node number) (slice_get d.troupes number)) o) hosted).acting))
        (sym none) refl

    -- what holds of a boot
    pub record Boots (d : Deployment) (number : ℕ) (r : NodeState M × Outputs) : Type 0 where
      pub node : IsNodeOf d number r.0
      pub others : GoToOthers r.0 r.1.gives

    pub booted_boots : (d : Deployment) (hosted : Option M) (node : ℕ) (r : NodeState M × Outputs) → CanBoot d node (option_map declared hosted)
        → boot_node declared turn first d hosted node ≡ Ok r → Boots d node r
    booted_boots d hosted node r can is =
        let made : Made M = made_at_boot declared turn first d (home_of d node) hosted in
        let began : NodeState M = record { deployment = d; wire = fresh_wire d node; acting = made.acting; dropped = 0 } in
        let holds = concluded_holds began [] made.came r (All-nil _) is in
        record {
          node = record {
            deployment = holds.deployment;
            own = holds.wire.own;
            pairs = holds.wire.pairs ∙ length-replicate (length d.nodes - 1) _;
            member = λ some. subst (λ a. IsSome (member_record a)) (sym holds.acting) (boot_role d hosted node can some);
            ringmaster = λ none. subst (λ a. IsSome (ring_views a)) (sym holds.acting) (boot_ring d hosted node none);
          };
          others = holds.go;
        }

    pub boot_is_of : (result : Result (NodeState M × Outputs) StepFault) (d : Deployment) (hosted : Option M) (node : ℕ) → CanBoot d node (option_map declared hosted)
        → IsEnded result (boot_node declared turn first d hosted node) → IfOk result (λ r. IsNodeOf d node r.0)
    boot_is_of (Ok r) d hosted node can is = (booted_boots d hosted node r can is).node
    boot_is_of (Err fault) d hosted node can is = tt

    pub boot_goes : (result : Result (NodeState M × Outputs) StepFault) (d : Deployment) (hosted : Option M) (node : ℕ) → CanBoot d node (option_map declared hosted)
        → IsEnded result (boot_node declared turn first d hosted node) → IfOk result (λ r. GoToOthers r.0 r.1.gives)
    boot_goes (Ok r) d hosted node can is = (booted_boots d hosted node r can is).others
    boot_goes (Err fault) d hosted node can is = tt

  pub step_is_of : (result : Result (NodeState M × Outputs) StepFault) (at : ℕ) (event : Event) (n : NodeState M) → IsEnded result (step_node declared turn at event n)
      → (d : Deployment) (number : ℕ) → IsNodeOf d number n → IfOk result (λ r. IsNodeOf d number r.0)
  step_is_of (Ok r) at event n is d number of = (stepped_stays at event n r is).node d number of
  step_is_of (Err fault) at event n is d number of = tt

  pub step_goes : (result : Result (NodeState M × Outputs) StepFault) (at : ℕ) (event : Event) (n : NodeState M) → IsEnded result (step_node declared turn at event n)
      → IfOk result (λ r. GoToOthers r.0 r.1.gives)
  step_goes (Ok r) at event n is = (stepped_stays at event n r is).others
  step_goes (Err fault) at event n is = tt
