-- What a node makes and tells in a step is what its member makes and tells of what happens to it.
use Rattle.std.proofs.Common.{◌≡◌, ℕ, List, [], ◌++◌, Option, None, Some, Ok, Err, refl, sym, ap, subst, ◌∙◌, append-nil}
use Rattle.std.specs.Option.{option_map_or, option_to_list}
use Rattle.circus_value.specs.ValueTree.{ValueTree}
use Rattle.circus_value.specs.declared.outcome.Outcome.{Outcome}
use Rattle.circus_segment.specs.Segment.{reading}
use Rattle.circus_collate.specs.declared.deployment.Deployment.{Deployment}
use Rattle.circus_collate.specs.declared.deployment.Troupe.{Troupe}
use Rattle.circus_ring.specs.RingTable.{boot_views}
use Rattle.circus_model.specs.Behaviour.{IsModule}
use Rattle.circus_model.specs.NextTurn.{NextTurn}
use Rattle.circus_model.specs.declared.signature.Signature.{Signature}
use Rattle.circus_performing.specs.Record.{behaviour}
use Rattle.circus_wire.specs.declared.delivery.Heard.{Heard}
use Rattle.circus_wire.specs.declared.delivery.Heard.TheVariants.{Dropped, Taken, Called, Returned}
use Rattle.circus_wire.specs.Wire.{after_datagram, sent_by_datagram, heard_from, stopped_at}
use Rattle.circus_member_rules.specs.declared.occurrence.Difference.{Difference}
use Rattle.circus_member_rules.specs.declared.occurrence.Effect.{Effect}
use Rattle.circus_member_rules.specs.declared.occurrence.Occurrence.{Occurrence}
use Rattle.circus_member_rules.specs.declared.occurrence.Purpose.{Purpose}
use Rattle.circus_member_rules.specs.MemberState.{MemberState}
use Rattle.circus_member_rules.specs.Step as member_step
use Rattle.circus_node.specs.Accepting.{occurrence_of_heard}
use Rattle.circus_node.specs.declared.event.Event.{Event}
use Rattle.circus_node.specs.declared.event.Event.TheVariants as comes
use Rattle.circus_node.specs.declared.event.Give.{Give}
use Rattle.circus_node.specs.declared.event.Outputs.{Outputs}
use Rattle.circus_node.specs.Booting.{beginning_in, home_in}
use Rattle.circus_node.specs.Making.{Made, happens, refuse, hears, learns_down, is_told_to_join}
use Rattle.circus_node.specs.NodeState.{Acting, member, ringmaster, NodeState}
use Rattle.circus_node.specs.Sending.{Sending, sent, spent, gives_of, all_handed}
use Rattle.circus_node.specs.Step as node_step
use Rattle.circus_node.specs.Trace.{effects_in}
use Rattle.circus_member_theory.specs.Past.{Past}
use Rattle.circus_headline_theory.specs.Owed.Living.{made_in, told_in, made_by, told_by}
use Rattle.circus_world_theory.proofs.Stepping.{same_ended}
use Rattle.circus_world_theory.specs.Happened.{happens_by, with_one}
use Rattle.circus_world_theory.proofs.Timely.Lives.{NodeLives, Lives}
use Rattle.circus_headline_theory.specs.Owed.Makes.{differences_in}

-- ---- what is told is given

module _ {M : Type 0} where
  pub concluded_tells : (n : NodeState M) (gives : List Give) (m : Made M) (ended : NodeState M × Outputs) → node_step.conclude_step n gives m.came ≡ Ok ended
      → ended.1.differences ≡ m.came.differences
  concluded_tells n gives m ended is = by_sending (all_handed (sent n.wire gives) m.came.effects) is
    where
      by_sending : (s : Sending) → node_step.end_step n m.came s ≡ Ok ended → ended.1.differences ≡ m.came.differences
      by_sending (sent w given) ends = subst (λ (e : NodeState M × Outputs). e.1.differences ≡ m.came.differences) (same_ended _ ended ends) refl
      by_sending (spent peer) ends = absurd (let clash : ◌≡◌ {A = node_step.Ended M} (Err peer) (Ok ended) = ends in cc)

module _ {M : Type 0} (declared : M → Signature) (turn : M → List ValueTree → ℕ → List ValueTree → List Outcome → NextTurn) where
  -- ---- what happens makes and tells this

  abbrev effects_of : ℕ → MemberState M → Option Occurrence → List Effect
  effects_of at m None = []
  effects_of at m (Some o) = (member_step.step_member declared turn at o m).effects

  abbrev differences_of : MemberState M → Option Occurrence → List Difference
  differences_of m None = []
  differences_of m (Some o) = option_to_list (member_step.difference o m)

  record Comes (at : ℕ) (m : MemberState M) (o : Option Occurrence) (made : Made M) : Type 0 where
    pub makes : made.came.effects ≡ effects_of at m o
    pub tells : made.came.differences ≡ differences_of m o

  happening : (at : ℕ) (m : MemberState M) (o : Option Occurrence) → Comes at m o (option_map_or (happens declared turn at m) o (refuse (member m)))
  happening at m None = record { makes = refl; tells = refl }
  happening at m (Some o) = record { makes = refl; tells = refl }

  hearing : (at : ℕ) (m : MemberState M) (d : Deployment) (from : ℕ) (h : Heard Purpose)
      → Comes at m (occurrence_of_heard d (declared m.performing.hosted) m from h) (hears declared turn d at from h (member m))
  hearing at m d from Dropped = record { makes = refl; tells = refl }
  hearing at m d from Taken = record { makes = refl; tells = refl }
  hearing at m d from (Called sender message) = happening at m (occurrence_of_heard d (declared m.performing.hosted) m from (Called sender message))
  hearing at m d from (Returned number purpose message) = happening at m (occurrence_of_heard d (declared m.performing.hosted) m from (Returned number purpose message))

  -- ---- a step

  effects_are : (at : ℕ) (event : Event) (n : NodeState M) (m : MemberState M) → n.acting ≡ member m
      → effects_in declared turn at event n ≡ effects_of at m (happens_by declared event n)
  effects_are at event n m is =
      let P : Acting M → Type 0 = λ a. effects_in declared turn at event (record n { acting = a }) ≡ effects_of at m (happens_by declared event (record n { acting = a })) in
      subst P (sym is) (by_event event)
    where
      by_event : (e : Event) → effects_in declared turn at e (record n { acting = member m }) ≡ effects_of at m (happens_by declared e (record n { acting = member m }))
      by_event (comes.Datagram from bytes) = (hearing at m n.deployment from (heard_from n.wire from (reading bytes))).makes
      by_event comes.Tick = refl
      by_event (comes.Down other) = refl
      by_event comes.Join = refl

  told_are : (at : ℕ) (event : Event) (n : NodeState M) (m : MemberState M) → n.acting ≡ member m
      → differences_in declared turn at event n ≡ differences_of m (happens_by declared event n)
  told_are at event n m is =
      let P : Acting M → Type 0 = λ a. differences_in declared turn at event (record n { acting = a }) ≡ differences_of m (happens_by declared event (record n { acting = a })) in
      subst P (sym is) (by_event event)
    where
      by_event : (e : Event) → differences_in declared turn at e (record n { acting = member m }) ≡ differences_of m (happens_by declared e (record n { acting = member m }))
      by_event (comes.Datagram from bytes) = (hearing at m n.deployment from (heard_from n.wire from (reading bytes))).tells
      by_event comes.Tick = refl
      by_event (comes.Down other) = refl
      by_event comes.Join = refl

  -- a step gives the differences that come of its event
  pub step_tells : (at : ℕ) (event : Event) (n : NodeState M) (ended : NodeState M × Outputs) → node_step.step_node declared turn at event n ≡ Ok ended
      → ended.1.differences ≡ differences_in declared turn at event n
  step_tells at (comes.Datagram from bytes) n ended ends =
      let made = hears declared turn n.deployment at from (heard_from n.wire from (reading bytes)) n.acting in
      concluded_tells (record n { wire = after_datagram n.wire from (reading bytes); acting = made.acting }) (gives_of (sent_by_datagram n.wire from (reading bytes))) made ended ends
  step_tells at comes.Tick n ended ends = subst (λ (e : NodeState M × Outputs). e.1.differences ≡ []) (same_ended _ ended ends) refl
  step_tells at (comes.Down other) n ended ends =
      let made = learns_down declared turn at other n.acting in
      concluded_tells (record n { wire = stopped_at n.wire other; acting = made.acting }) [] made ended ends
  step_tells at comes.Join n ended ends =
      let made = is_told_to_join declared turn at n.acting in
      concluded_tells (record n { acting = made.acting }) [] made ended ends

  -- ---- of a member behind a past

  module _ (first : M → List ValueTree) (lawful : (hosted : M) → IsModule (behaviour declared turn first hosted)) (d : Deployment) (node number : ℕ) (troupe : Troupe) (own : M) where
    abbrev pub made : Past → List (ℕ × Effect)
    made p = made_by declared turn first (home_in d node number troupe).place (boot_views d.troupes) (beginning_in troupe node) own p

    abbrev pub told : Past → List (ℕ × Difference)
    told p = told_by declared turn first (home_in d node number troupe).place (boot_views d.troupes) (beginning_in troupe node) own p

    pub record Grows (p : Past) (at : ℕ) (event : Event) (n : NodeState M) : Type 0 where
      pub makes : made p ++ made_in at (effects_in declared turn at event n) ≡ made (with_one p at (happens_by declared event n))
      pub tells : told p ++ told_in at (differences_in declared turn at event n) ≡ told (with_one p at (happens_by declared event n))

    grown : (p : Past) (at : ℕ) (event : Event) (n : NodeState M) (m : MemberState M) → n.acting ≡ member m → Lives declared turn first lawful d node number troupe own p m → Grows p at event n
    grown p at event n m is lives =
        record {
          makes = ap (λ es. made p ++ made_in at es) (effects_are at event n m is) ∙ more_made (happens_by declared event n);
          tells = ap (λ ds. told p ++ told_in at ds) (told_are at event n m is) ∙ more_told (happens_by declared event n);
        }
      where
        more_made : (o : Option Occurrence) → made p ++ made_in at (effects_of at m o) ≡ made (with_one p at o)
        more_made None = append-nil (made p)
        more_made (Some o) = ap (λ (x : MemberState M). made p ++ made_in at (member_step.step_member declared turn at o x).effects) lives.is

        more_told : (o : Option Occurrence) → told p ++ told_in at (differences_of m o) ≡ told (with_one p at o)
        more_told None = append-nil (told p)
        more_told (Some o) = ap (λ (x : MemberState M). told p ++ told_in at (option_to_list (member_step.difference o x))) lives.is

    pub grows : (p : Past) (at : ℕ) (event : Event) (n : NodeState M) → NodeLives declared turn first lawful d node number troupe own p n.acting → Grows p at event n
    grows p at event n lives = by_acting n.acting refl lives
      where
        by_acting : (a : Acting M) → n.acting ≡ a → NodeLives declared turn first lawful d node number troupe own p a → Grows p at event n
        by_acting (member m) is l = grown p at event n m is l
        by_acting (ringmaster kept) is l = absurd l
