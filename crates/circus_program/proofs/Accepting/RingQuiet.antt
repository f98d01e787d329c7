-- A node that hosts no member is the Ringmaster's along its trace, and no reply of it differs.
use Rattle.std.specs.Option.{option_map_or}
use Rattle.std.proofs.Common.{◌≡◌, ℕ, ◌<◌, ◌++◌, List, [], ◌∷◌, length, None, Some, refl, sym, ap, subst, ◌∙◌}
use Rattle.std.proofs.lemmas.List.Elements.{All-nil, All-cons}
use Rattle.circus_value.specs.ValueTree.{ValueTree}
use Rattle.circus_value.specs.declared.outcome.Outcome.{Outcome}
use Rattle.circus_segment.specs.Segment.{reading}
use Rattle.circus_collate.specs.declared.deployment.Deployment.{Deployment}
use Rattle.circus_ring.specs.RingTable.{Kept}
use Rattle.circus_model.specs.NextTurn.{NextTurn}
use Rattle.circus_model.specs.declared.signature.Signature.{Signature}
use Rattle.circus_wire.specs.Wire.{heard_from}
use Rattle.circus_wire.specs.declared.delivery.Heard.{Heard}
use Rattle.circus_wire.specs.declared.delivery.Heard.TheVariants.{Dropped, Taken, Called, Returned}
use Rattle.circus_member_rules.specs.declared.occurrence.Purpose.{Purpose}
use Rattle.circus_node.specs.Accepting.{accepted_request}
use Rattle.circus_node.specs.Booting.{home_of, made_at_boot}
use Rattle.circus_node.specs.Making.{hears, performs, a_drop}
use Rattle.circus_node.specs.NodeState.{Acting, ringmaster, NodeState}
use Rattle.circus_node.specs.Step as node_step
use Rattle.circus_node.specs.Trace as trace
use Rattle.circus_node.specs.Trace.{Trace, StandsFor, effects_in}
use Rattle.circus_node.specs.declared.event.Event.{Event}
use Rattle.circus_node.specs.declared.event.Event.TheVariants as comes
use Rattle.circus_headline_theory.specs.Datagrams.Lives.{IsOfOther}
use Rattle.circus_headline_theory.specs.Lived as lived
use Rattle.circus_headline_theory.specs.Owed.Living.{told_in}
use Rattle.circus_headline_theory.specs.Owed.Makes.{differences_in}
use Rattle.circus_headline_theory.specs.RingRun.{kept_behind, requests_of}
use Rattle.circus_headline_theory.specs.Trace.{told_of, ComesFromOthers}
use Rattle.circus_headline_theory.proofs.Owed.Making.{step_tells}
use Rattle.circus_headline_theory.proofs.Ring.{Rings, rings_at_boot, rings_with}
use Rattle.circus_program.proofs.Accepting.Serving.{boots_quietly}

module _ {M : Type 0} (declared : M → Signature) (turn : M → List ValueTree → ℕ → List ValueTree → List Outcome → NextTurn) (first : M → List ValueTree) (d : Deployment) (node : ℕ) where
  -- no reply differs at the Ringmaster
  tells_nothing : (at : ℕ) (event : Event) (n : NodeState M) (kept : Kept) → n.acting ≡ ringmaster kept → differences_in declared turn at event n ≡ []
  tells_nothing at event n kept is = subst (λ (a : Acting M). differences_in declared turn at event (record n { acting = a }) ≡ []) (sym is) (by_event event)
    where
      heard_by : (bytes : List ℕ) (from : ℕ) → (hears declared turn n.deployment at from (heard_from n.wire from (reading bytes)) (ringmaster kept)).came.differences ≡ []
      heard_by bytes from = every (heard_from n.wire from (reading bytes))
        where
          every : (heard : Heard Purpose) → (hears declared turn n.deployment at from heard (ringmaster kept)).came.differences ≡ []
          every Dropped = refl
          every Taken = refl
          every (Called sender message) =
              elim (accepted_request kept message) as (λ o. (option_map_or (performs kept sender) o (kept, a_drop)).1.differences ≡ []) [ None ↦ refl | (Some request) ↦ refl ]
          every (Returned number purpose message) = refl

      by_event : (ev : Event) → differences_in declared turn at ev (record n { acting = ringmaster kept }) ≡ []
      by_event (comes.Datagram from bytes) = heard_by bytes from
      by_event comes.Tick = refl
      by_event (comes.Down other) = refl
      by_event comes.Join = refl

  boot_makes_nothing : (made_at_boot declared turn first d (home_of d node) None).came.effects ≡ []
  boot_makes_nothing = elim (home_of d node) as (λ h. (made_at_boot declared turn first d h None).came.effects ≡ []) [ None ↦ refl | (Some home) ↦ refl ]

  abbrev grown_by : Trace → ℕ × Event → NodeState M → node_step.Ended M → Trace
  grown_by t next n e = lived.then_on (λ (x : Trace) (m : NodeState M). x) t (trace.stepped t next.0 next.1 (effects_in declared turn next.0 next.1 n)) e

  pub record RingsQuietly (t : Trace) (n : NodeState M) : Type 0 where
    pub rings : Rings declared turn d node t n
    pub quiet : told_of t ≡ []

  pub rings_quietly : (t : Trace) (n : NodeState M) → StandsFor declared turn first d None node t n → ComesFromOthers d node t → node < length d.nodes → RingsQuietly t n
  rings_quietly (trace.booted made outputs) n stands others within = record {
    rings = subst (λ m. Rings declared turn d node (trace.booted m outputs) n) (sym (stands.1 ∙ boot_makes_nothing)) (rings_at_boot declared turn d node first n outputs within stands.0);
    quiet = ap (told_in 0) (boots_quietly declared turn first d None node n outputs stands.0).1;
  }
  rings_quietly (trace.stepped t at event made outputs) n stands others within =
      let before = rings_quietly t stands.0 stands.1 others.0 within in
      let e : ℕ × Event = (at, event) in
      let one = rings_with declared turn d node t (e ∷ []) stands.0 n before.rings
      (All-cons (λ (x : ℕ × Event). IsOfOther d node x.1) e [] others.1 (All-nil (λ (x : ℕ × Event). IsOfOther d node x.1)))
      ((n, outputs), others.2, stands.2, refl) in
      let grown : lived.with_events declared turn t (e ∷ []) stands.0 ≡ trace.stepped t at event made outputs =
      (λ j. grown_by t e stands.0 (stands.2 j)) ∙ (λ j. trace.stepped t at event (sym stands.3 j) outputs) in
      let none : outputs.differences ≡ [] = step_tells declared turn at event stands.0 (n, outputs) stands.2 ∙ tells_nothing at event stands.0 (kept_behind d node (requests_of d node t)) before.rings.acting in
      record {
        rings = subst (λ x. Rings declared turn d node x n) grown one;
        quiet = (λ j. before.quiet j ++ told_in at (none j));
      }
