-- A node's member lives what happens to it: it is what its past makes of it.
use Rattle.std.proofs.Common.{◌≡◌, ℕ, ◌<◌, List, length, Option, None, Some, refl, sym, ap, subst, ◌∙◌}
use Rattle.std.specs.Option.{option_map_or}
use Rattle.circus_value.specs.ValueTree.{ValueTree}
use Rattle.circus_value.specs.declared.outcome.Outcome.{Outcome}
use Rattle.circus_segment.specs.Segment.{reading}
use Rattle.circus_collate.specs.declared.deployment.Deployment.{Deployment}
use Rattle.circus_collate.specs.declared.deployment.Troupe.{Troupe}
use Rattle.circus_collate.specs.declared.view.View.{View}
use Rattle.circus_ring.specs.RingTable.{boot_views}
use Rattle.circus_ring.proofs.Booting.{length_boot}
use Rattle.circus_model.specs.NextTurn.{NextTurn}
use Rattle.circus_model.specs.Behaviour.{IsModule}
use Rattle.circus_model.specs.declared.signature.Signature.{Signature}
use Rattle.circus_record.specs.declared.record.MemberRecord.{MemberRecord}
use Rattle.circus_performing.specs.Record.{behaviour}
use Rattle.circus_wire.specs.declared.delivery.Heard.{Heard}
use Rattle.circus_wire.specs.declared.delivery.Heard.TheVariants.{Dropped, Taken, Called, Returned}
use Rattle.circus_wire.specs.Wire.{heard_from}
use Rattle.circus_member_rules.specs.declared.place.Place.{Place}
use Rattle.circus_member_rules.specs.declared.place.Beginning.{Beginning}
use Rattle.circus_member_rules.specs.declared.occurrence.Purpose.{Purpose}
use Rattle.circus_member_rules.specs.declared.occurrence.Occurrence.{Occurrence}
use Rattle.circus_member_rules.specs.declared.occurrence.Occurrence.TheVariants as occurs
use Rattle.circus_member_rules.specs.MemberState.{MemberState}
use Rattle.circus_member_rules.specs.Step as member_step
use Rattle.circus_member_rules.specs.Happening.{IsHome, CanHappen}
use Rattle.circus_member_rules.specs.Seen.Sound.{IsRested}
use Rattle.circus_node.specs.Accepting.{IsMemberOf, occurrence_of_heard}
use Rattle.circus_node.specs.declared.event.Event.{Event}
use Rattle.circus_node.specs.declared.event.Event.TheVariants as comes
use Rattle.circus_node.specs.Booting.{home_in, beginning_in}
use Rattle.circus_node.specs.NodeState.{Acting, member, ringmaster, NodeState, member_record}
use Rattle.circus_node.specs.Making.{happens, refuse, hears, learns_down, is_told_to_join}
use Rattle.circus_member_theory.specs.Ranges.{InRange}
use Rattle.circus_member_theory.proofs.Resting.{step_rests, boot_rests}
use Rattle.circus_member_theory.specs.Past.{Past, booted, followed, now}
use Rattle.circus_member_theory.specs.Living.{after, MayLive}
use Rattle.circus_member_theory.proofs.Timely.Lived.{timely}
use Rattle.circus_world_theory.specs.Happened.{happens_by, with_one}
use Rattle.circus_world_theory.specs.InTime.{IsInTime}

-- what happens by an event can happen to a member, and is in range
module _ {M : Type 0} (declared : M → Signature) where
  abbrev pub MayHappenTo : MemberState M → Option Occurrence → Type 0
  MayHappenTo m None = Unit {0}
  MayHappenTo m (Some o) = CanHappen (declared m.performing.hosted) m o × InRange o

  abbrev pub MayHappen : Acting M → Option Occurrence → Type 0
  MayHappen (member m) o = MayHappenTo m o
  MayHappen (ringmaster kept) o = Unit {0}

module _ {M : Type 0} (declared : M → Signature) (turn : M → List ValueTree → ℕ → List ValueTree → List Outcome → NextTurn) where
  -- what a node does behind an event
  abbrev pub acting_by : ℕ → Event → NodeState M → Acting M
  acting_by step (comes.Datagram from bytes) n = (hears declared turn n.deployment step from (heard_from n.wire from (reading bytes)) n.acting).acting
  acting_by step comes.Tick n = n.acting
  acting_by step (comes.Down node) n = (learns_down declared turn step node n.acting).acting
  acting_by step comes.Join n = (is_told_to_join declared turn step n.acting).acting

module _ {M : Type 0} (declared : M → Signature) (turn : M → List ValueTree → ℕ → List ValueTree → List Outcome → NextTurn) (first : M → List ValueTree)
    (lawful : (hosted : M) → IsModule (behaviour declared turn first hosted)) (d : Deployment) (node number : ℕ) (troupe : Troupe) (own : M) where
  abbrev place : Place
  place = (home_in d node number troupe).place

  abbrev views : List View
  views = boot_views d.troupes

  abbrev beginning : Beginning
  beginning = beginning_in troupe node

  -- the member of a troupe behind a past that it may live
  pub record Lives (p : Past) (m : MemberState M) : Type 0 where
    pub is : m ≡ after declared turn first place views beginning own p
    pub may : MayLive declared turn first place views beginning own p
    pub hosts : m.performing.hosted ≡ own
    pub rested : IsRested (behaviour declared turn first m.performing.hosted) m
    pub of : IsMemberOf d m

  abbrev pub NodeLives : Past → Acting M → Type 0
  NodeLives p (member m) = Lives p m
  NodeLives p (ringmaster kept) = ⊥

  -- ---- boot

  pub lives_at_boot : IsHome (declared own) place views → Lives booted (member_step.boot_member declared turn first place views beginning own).member
  lives_at_boot home =
      let b = boot_rests declared turn first lawful place views beginning own home in
      record {
        is = refl;
        may = tt;
        hosts = b.hosted;
        rested = subst (λ (h : M). IsRested (behaviour declared turn first h) (member_step.boot_member declared turn first place views beginning own).member) (sym b.hosted) b.rested;
        of = record { views = ap (λ (vs : List View). length vs) b.views ∙ length_boot d.troupes };
      }

  -- ---- a step

  module _ (p : Past) (step : ℕ) (later : now p < step) where
    lives_on : (o : Occurrence) (m : MemberState M) → Lives p m → CanHappen (declared m.performing.hosted) m o → InRange o
        → Lives (followed p step o) (member_step.step_member declared turn step o m).member
    lives_on o m h can within =
        let s = step_rests declared turn first lawful step o m h.rested can within in
        let n = (member_step.step_member declared turn step o m).member in
        record {
          is = ap (λ (x : MemberState M). (member_step.step_member declared turn step o x).member) h.is;
          may = (
            h.may,
            later,
            subst (λ (x : MemberState M). CanHappen (declared own) x o) h.is (subst (λ (x : M). CanHappen (declared x) m o) h.hosts can),
            within,
          );
          hosts = s.hosted ∙ h.hosts;
          rested = subst (λ (x : M). IsRested (behaviour declared turn first x) n) (sym s.hosted) s.rested;
          of = record { views = s.views ∙ h.of.views };
        }

    happened : (m : MemberState M) → Lives p m → (o : Option Occurrence) → MayHappenTo declared m o
        → NodeLives (with_one p step o) (option_map_or (happens declared turn step m) o (refuse (member m))).acting
    happened m h None may = h
    happened m h (Some o) may = lives_on o m h may.0 may.1

    heard : (from : ℕ) (dep : Deployment) (m : MemberState M) → Lives p m → (x : Heard Purpose) → MayHappenTo declared m (occurrence_of_heard dep (declared m.performing.hosted) m from x)
        → NodeLives (with_one p step (occurrence_of_heard dep (declared m.performing.hosted) m from x)) (hears declared turn dep step from x (member m)).acting
    heard from dep m h Dropped may = h
    heard from dep m h Taken may = h
    heard from dep m h (Called sender message) may = happened m h (occurrence_of_heard dep (declared m.performing.hosted) m from (Called sender message)) may
    heard from dep m h (Returned call purpose message) may = happened m h (occurrence_of_heard dep (declared m.performing.hosted) m from (Returned call purpose message)) may

    pub node_lives_on : (event : Event) (n : NodeState M) → NodeLives p n.acting → MayHappen declared n.acting (happens_by declared event n)
        → NodeLives (with_one p step (happens_by declared event n)) (acting_by declared turn step event n)
    node_lives_on event n h may = by_acting event n.acting refl h may
      where
        by_acting : (e : Event) (a : Acting M) → n.acting ≡ a → NodeLives p a → MayHappen declared a (happens_by declared e (record n { acting = a }))
            → NodeLives (with_one p step (happens_by declared e (record n { acting = a }))) (acting_by declared turn step e (record n { acting = a }))
        by_acting (comes.Datagram from bytes) (member m) is l may_be = heard from n.deployment m l (heard_from n.wire from (reading bytes)) may_be
        by_acting comes.Tick (member m) is l may_be = l
        by_acting (comes.Down other) (member m) is l may_be = lives_on (occurs.Declared other) m l may_be.0 may_be.1
        by_acting comes.Join (member m) is l may_be = lives_on occurs.Joins m l may_be.0 may_be.1
        by_acting e (ringmaster kept) is l may_be = absurd l

  -- ---- the record

  pub lives_in_time : IsHome (declared own) place views → (p : Past) (a : Acting M) (kept : MemberRecord) → NodeLives p a → member_record a ≡ Some kept
      → IsInTime declared turn d node number troupe own kept p
  lives_in_time home p (member m) kept h is =
      let same : (after declared turn first place views beginning own p).performing.kept ≡ kept =
      ap (λ (x : MemberState M). x.performing.kept) (sym h.is) ∙ (let e : m.performing.kept ≡ kept = cc in e) in
      subst (λ (r : MemberRecord). IsInTime declared turn d node number troupe own r p) same
      (timely declared turn first lawful place views own home beginning p h.may)
  lives_in_time home p (ringmaster kept_ring) kept h is = absurd h
