-- All that happened to the member of a node says what may stand in the record of the node.
use Rattle.std.specs.Prelude.{slice_get}
use Rattle.std.proofs.Common.{◌≡◌, ℕ, ◌<◌, ◌≤◌, List, length, Option, None, Some, refl, sym, ap, subst, ◌∙◌, arith}
use Rattle.circus_value.specs.ValueTree.{ValueTree}
use Rattle.circus_value.specs.declared.outcome.Outcome.{Outcome}
use Rattle.circus_segment.specs.Segment.{reading}
use Rattle.circus_collate.specs.Deployment.{IsDeployment}
use Rattle.circus_collate.specs.declared.deployment.Deployment.{Deployment}
use Rattle.circus_collate.specs.declared.deployment.Troupe.{Troupe}
use Rattle.circus_ring.specs.RingTable.{boot_views}
use Rattle.circus_model.specs.Behaviour.{Behaviour, IsModule}
use Rattle.circus_model.specs.NextTurn.{NextTurn}
use Rattle.circus_model.specs.declared.signature.Signature.{Signature}
use Rattle.circus_config.specs.declared.plan.Plan.{Plan}
use Rattle.circus_record.specs.declared.record.MemberRecord.{MemberRecord}
use Rattle.circus_performing.specs.Record.{behaviour}
use Rattle.circus_wire.specs.Wire.{heard_from}
use Rattle.circus_wire.specs.WireActs.{WireActs}
use Rattle.circus_member_rules.specs.Happening.{IsHome}
use Rattle.circus_member_rules.specs.declared.occurrence.Occurrence.{Occurrence}
use Rattle.circus_member_rules.specs.declared.occurrence.Occurrence.TheVariants as occurs
use Rattle.circus_member_rules.specs.declared.occurrence.Purpose.{Purpose}
use Rattle.circus_node.specs.Accepting.{troupe_at}
use Rattle.circus_node.specs.Booting.{home_in}
use Rattle.circus_node.specs.NodeState.{NodeState}
use Rattle.circus_node.specs.Trace as trace
use Rattle.circus_node.specs.Trace.{Trace, StandsFor}
use Rattle.circus_node.specs.declared.event.Event.{Event}
use Rattle.circus_node.specs.declared.event.Event.TheVariants as comes
use Rattle.circus_member_theory.specs.Past.{Past, booted}
use Rattle.circus_member_theory.specs.Past as past
use Rattle.circus_member_theory.proofs.Accepting.Can.{AreHeardOctets}
use Rattle.circus_world_theory.specs.Happened.{with_one}
use Rattle.circus_world_theory.specs.Histories.{beginning_of}
use Rattle.circus_world_theory.specs.NodeLives.{IsOfBytes}
use Rattle.circus_world_theory.proofs.Timely.Lines.{now_one}
use Rattle.circus_world_theory.proofs.Timely.Wires.{heard_octets}
use Rattle.circus_headline_theory.specs.Datagrams.Lives.{IsOfOther, boot_acts}
use Rattle.circus_headline_theory.specs.NodeRun.{happens_by, past_of}
use Rattle.circus_headline_theory.specs.Trace.{now, Rises, ComesFromOthers, acts_of, heard_in}
use Rattle.circus_headline_theory.proofs.Accepting.{heard_as}
use Rattle.circus_headline_theory.proofs.Course.{Follows, follows_on, follows_at_boot}
use Rattle.circus_headline_theory.proofs.Datagrams.AtPairs.{other_by}
use Rattle.circus_headline_theory.proofs.Datagrams.Theorem.{is_read}
use Rattle.circus_verdict.proofs.Possible.Occurring.{IsWell, occurs_well}
use Rattle.circus_verdict.proofs.Possible.Pasts.{Each}

-- ---- what is heard is bytes

abbrev pub HearsOctetsBy : Deployment → ℕ → WireActs Purpose → Event → Type 0
HearsOctetsBy d node acts (comes.Datagram from bytes) = AreHeardOctets (heard_in (beginning_of d node) acts from (reading bytes))
HearsOctetsBy d node acts comes.Tick = Unit {0}
HearsOctetsBy d node acts (comes.Down other) = Unit {0}
HearsOctetsBy d node acts comes.Join = Unit {0}

abbrev pub HearsOctets : Deployment → ℕ → Trace → Type 0
HearsOctets d node (trace.booted made outputs) = Unit {0}
HearsOctets d node (trace.stepped t at event made outputs) = HearsOctets d node t × HearsOctetsBy d node (acts_of (beginning_of d node) t) event

module _ {M : Type 0} (declared : M → Signature) (turn : M → List ValueTree → ℕ → List ValueTree → List Outcome → NextTurn) (first : M → List ValueTree)
    (lawful : (hosted : M) → IsModule (behaviour declared turn first hosted)) (d : Deployment) (good : IsDeployment d) (node number : ℕ) (troupe : Troupe) (own : M)
    (hosts : troupe_at d node ≡ Some number) (there : slice_get d.troupes number ≡ Some troupe) (within : node < length d.nodes)
    (home : IsHome (declared own) (home_in d node number troupe).place (boot_views d.troupes)) where
  abbrev pub FollowsSo : Trace → Past → WireActs Purpose → NodeState M → Type 0
  FollowsSo t p acts n = Follows declared turn first lawful d good node number troupe own hosts home t p acts n

  pub record HasHeard (t : Trace) (n : NodeState M) : Type 0 where
    pub past_is : Past
    pub acts : WireActs Purpose
    pub before : past.now past_is ≤ now t
    pub follows : FollowsSo t past_is acts n
    pub octets : HearsOctets d node t

  heard_by : (t : Trace) (p : Past) (acts : WireActs Purpose) (n : NodeState M) → FollowsSo t p acts n → (event : Event) → IsOfOther d node event → IsOfBytes event
      → HearsOctetsBy d node (acts_of (beginning_of d node) t) event
  heard_by t p acts n f (comes.Datagram from bytes) other octets =
      let same : heard_in (beginning_of d node) (acts_of (beginning_of d node) t) from (reading bytes) ≡ heard_from n.wire from (reading bytes) =
      ap (λ a. heard_in (beginning_of d node) a from (reading bytes)) f.acts_are
      ∙ heard_as (beginning_of d node) acts n.wire from (reading bytes) (other_by (beginning_of d node) acts n.wire from f.goes.stands other) f.goes.stands
      (is_read (comes.Datagram from bytes) octets) in
      subst AreHeardOctets (sym same) (heard_octets n.wire from bytes octets f.gathers)
  heard_by t p acts n f comes.Tick other octets = tt
  heard_by t p acts n f (comes.Down down) other octets = tt
  heard_by t p acts n f comes.Join other octets = tt

  pub has_heard : (t : Trace) (n : NodeState M) → StandsFor declared turn first d (Some own) node t n → Rises t → ComesFromOthers d node t → HasHeard t n
  has_heard (trace.booted made outputs) n stands rises others =
      subst (λ l. HasHeard (trace.booted l outputs) n) (sym stands.1)
      (record {
        past_is = booted;
        acts = boot_acts declared turn first d own node;
        before = omega arith;
        follows = follows_at_boot declared turn first lawful d good node number troupe own hosts home within there n outputs stands.0;
        octets = tt;
      })
  has_heard (trace.stepped t at event made outputs) n stands rises others =
      let h = has_heard t stands.0 stands.1 rises.0 others.0 in
      let before = h.before in
      let later = rises.1 in
      let f = follows_on declared turn first lawful d good node number troupe own hosts home t h.past_is h.acts stands.0 h.follows at event (omega (arith, before, later)) others.2 others.1
      (n, outputs) stands.2 in
      subst (λ l. HasHeard (trace.stepped t at event l outputs) n) (sym stands.3)
      (record {
        past_is = _;
        acts = _;
        before = now_one h.past_is at _ (omega (arith, before, later));
        follows = f;
        octets = (h.octets, heard_by t h.past_is h.acts stands.0 h.follows event others.1 others.2);
      })

-- ---- so all that happened is well

module _ (plan : Plan) (named : length plan.names ≡ length plan.deployment.troupes) (b : Behaviour) (node number : ℕ) (troupe : Troupe) (kept : MemberRecord) where
  abbrev so_far : Trace → Past
  so_far t = past_of plan.deployment b node number troupe kept t

  abbrev Well : Occurrence → Type 0
  Well o = IsWell plan named b.declared node number kept o

  with_well : (p : Past) (at : ℕ) (o : Option Occurrence) → Each Well p → ((x : Occurrence) → o ≡ Some x → Well x) → Each Well (with_one p at o)
  with_well p at None each one = each
  with_well p at (Some o) each one = (each, one o refl)

  event_well : (acts : WireActs Purpose) (event : Event) → IsOfOther plan.deployment node event → HearsOctetsBy plan.deployment node acts event
      → (o : Occurrence) → happens_by plan.deployment b.declared node number kept acts event ≡ Some o → Well o
  event_well acts (comes.Datagram from bytes) other octets o is =
      occurs_well plan named b.declared node number kept from (heard_in (beginning_of plan.deployment node) acts from (reading bytes)) o (other.1, other.0) octets is
  event_well acts comes.Tick other octets o is = absurd (let clash : ◌≡◌ {A = Option Occurrence} None (Some o) = is in cc)
  event_well acts (comes.Down down) other octets o is = (let same : occurs.Declared down ≡ o = cc in subst Well same tt)
  event_well acts comes.Join other octets o is = (let same : occurs.Joins ≡ o = cc in subst Well same tt)

  pub all_well : (t : Trace) → ComesFromOthers plan.deployment node t → HearsOctets plan.deployment node t → Each Well (so_far t)
  all_well (trace.booted made outputs) others octets = tt
  all_well (trace.stepped t at event made outputs) others octets =
      with_well (so_far t) at (happens_by plan.deployment b.declared node number kept (acts_of (beginning_of plan.deployment node) t) event) (all_well t others.0 octets.0)
      (event_well (acts_of (beginning_of plan.deployment node) t) event others.1 octets.1)

  -- and its steps rise with those of the node
  pub record RisesSo (t : Trace) : Type 0 where
    pub rises : past.Rises (so_far t)
    pub before : past.now (so_far t) ≤ now t

  with_rising : (p : Past) (last at : ℕ) (o : Option Occurrence) → past.Rises p → past.now p ≤ last → last < at → past.Rises (with_one p at o) × (past.now (with_one p at o) ≤ at)
  with_rising p last at None rises before later = (rises, omega (arith, before, later))
  with_rising p last at (Some o) rises before later = ((rises, omega (arith, before, later)), omega arith)

  pub rises_so : (t : Trace) → Rises t → RisesSo t
  rises_so (trace.booted made outputs) rises = record { rises = tt; before = omega arith }
  rises_so (trace.stepped t at event made outputs) rises =
      let r = rises_so t rises.0 in
      let both = with_rising (so_far t) (now t) at (happens_by plan.deployment b.declared node number kept (acts_of (beginning_of plan.deployment node) t) event) r.rises r.before rises.1 in
      record { rises = both.0; before = both.1 }
