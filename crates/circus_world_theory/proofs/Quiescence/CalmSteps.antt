-- Deliveries keep the members of a world calm.
use Rattle.std.proofs.Common.{◌≡◌, ◌≢◌, ◌⊎◌, inl, inr, ℕ, ◌+◌, ◌<◌, ◌≤◌, true, List, [], ◌∷◌, ◌++◌, length, map, set, All, Option, None, Some, Result, Ok, refl, sym, ap, subst, ◌∙◌, arith}
use Rattle.std.specs.Prelude.{slice_get, slice_index}
use Rattle.std.specs.Option.{option_map_or}
use Rattle.std.proofs.lemmas.Bool.Decides.{eqb_tells}
use Rattle.std.proofs.lemmas.List.Elements.{All-nil, All-head, All-tail, All-weaker}
use Rattle.std.proofs.lemmas.Option.{same_Some}
use Rattle.circus_value.specs.ValueTree.{ValueTree}
use Rattle.circus_value.specs.declared.caller.Caller.{Caller}
use Rattle.circus_value.specs.declared.outcome.Outcome.{Outcome}
use Rattle.circus_value.specs.Among.{is_among}
use Rattle.circus_header.specs.Reading.{IsOne, calls}
use Rattle.circus_header.specs.declared.call.Call.TheVariants.{Ask as AskOf}
use Rattle.circus_header.specs.declared.call.CallHeader.{CallHeader}
use Rattle.circus_segment.specs.Segment.{Piece, IsSegment, reading}
use Rattle.circus_segment.specs.declared.fault.SegmentFault.{SegmentFault}
use Rattle.circus_collate.specs.Deployment.{IsDeployment}
use Rattle.circus_collate.specs.declared.deployment.Deployment.{Deployment}
use Rattle.circus_collate.specs.declared.deployment.Troupe.{Troupe}
use Rattle.circus_collate.specs.declared.view.View.{View}
use Rattle.circus_ring.specs.RingTable.{boot_views}
use Rattle.circus_model.specs.NextTurn.{NextTurn}
use Rattle.circus_model.specs.Behaviour.{Behaviour, IsModule}
use Rattle.circus_model.specs.Agree.{IsAt, AreModules, Agree}
use Rattle.circus_model.specs.declared.signature.Signature.{Signature}
use Rattle.circus_record.specs.declared.record.MemberRecord.{MemberRecord}
use Rattle.circus_performing.specs.Record.{behaviour}
use Rattle.circus_wire.specs.declared.delivery.Heard.{Heard}
use Rattle.circus_wire.specs.declared.delivery.Heard.TheVariants as heard
use Rattle.circus_wire.specs.Wire.{WireState, heard_from}
use Rattle.circus_wire.specs.WireActs.{WireActs}
use Rattle.circus_wire.specs.WireStanding.{WireStands}
use Rattle.circus_member_rules.specs.Messages.{ask_message}
use Rattle.circus_member_rules.specs.declared.occurrence.Effect.{Effect}
use Rattle.circus_member_rules.specs.declared.occurrence.Effect.TheVariants as made
use Rattle.circus_member_rules.specs.declared.occurrence.Occurrence.{Occurrence}
use Rattle.circus_member_rules.specs.declared.place.Place.{Place}
use Rattle.circus_member_theory.proofs.Resting.{step_rests}
use Rattle.circus_member_rules.specs.declared.occurrence.Purpose.{Purpose}
use Rattle.circus_member_rules.specs.declared.occurrence.Purpose.TheVariants as for
use Rattle.circus_member_rules.specs.MemberState.{MemberState}
use Rattle.circus_member_rules.specs.Step.{step_member}
use Rattle.circus_node.specs.Accepting.{troupe_at, is_root, occurrence_of_heard}
use Rattle.circus_node.specs.Booting.{IsOfTroupe}
use Rattle.circus_node.specs.declared.event.Event.{Event}
use Rattle.circus_node.specs.declared.event.Event.TheVariants as comes
use Rattle.circus_node.specs.NodeState.{Acting, member, ringmaster}
use Rattle.circus_node.specs.Making.{Made, happens, refuse, hears}
use Rattle.circus_schedule.specs.declared.line.Line.{Line}
use Rattle.circus_schedule.specs.declared.line.Line.TheVariants.{Deliver, Tick, Crash, Down, Join}
use Rattle.circus_world.specs.WorldState.{WorldState, Standing}
use Rattle.circus_world.specs.Lines.{Lead}
use Rattle.circus_world.proofs.SlotLemmas.{get_set, get_there, all_at}
use Rattle.circus_world_theory.specs.Histories.{beginning_of, with_line, with_lines, with_others}
use Rattle.circus_world_theory.specs.NodeActs.{with_all, acts_of_datagram, came_by, wire_behind}
use Rattle.circus_node.specs.Trace.{effects_in}
use Rattle.circus_world_theory.proofs.Given.{with_both}
use Rattle.circus_world_theory.proofs.Worlds.{Stands, IsGiven, get_same, came_sent}
use Rattle.circus_member_rules.specs.Proper.{AreProper}
use Rattle.circus_world_theory.proofs.Handing.{IsMade, step_said}
use Rattle.circus_world_theory.proofs.Saying.{AllSaid, IsSaidCall, all_said_weaker, purpose_said}
use Rattle.circus_world_theory.proofs.Stepping.{CalledAt, HeardAt, NodesTrue, ends_true}
use Rattle.circus_world_theory.proofs.True.{CallSo, ReturnSo, IsTrueAt, ActsTrue}
use Rattle.circus_world_theory.specs.Made.{act_of}
use Rattle.circus_world_theory.proofs.Border.Handing.{AreReturns}
use Rattle.circus_world_theory.proofs.Border.Hosting.{IsOtherOf}
use Rattle.circus_world_theory.proofs.Border.Steps.{IsHandedWhole}
use Rattle.circus_world_theory.proofs.Border.Worlds.{HandsLines}
use Rattle.circus_world_theory.specs.Quiet.{IsDelivery}
use Rattle.circus_world_theory.specs.Still.{phase_at}
use Rattle.circus_world_theory.proofs.Quiescence.Booting.{few_runs}
use Rattle.circus_world_theory.proofs.Quiescence.Calm.{IsCalm, Brings, quiet_in_range, calm_still, calm_now, steps}
use Rattle.circus_world_theory.proofs.Quiescence.CalmNodes.{GoesRight, entry_hosts, brings_so}
use Rattle.circus_world_theory.proofs.Quiescence.Founders.{boot_others}
use Rattle.circus_world_theory.proofs.Quiescence.Course.{AllLive, Delivers, line_delivers, line_stands, still_live}
use Rattle.circus_world_theory.proofs.Quiescence.Quietly.{HasCame, MemberQuiet, HappensQuietly, first_views}
use Rattle.circus_world_theory.proofs.Quiescence.QuietNodes.{NodesQuiet, NodeQuiet, happens_so, few_of, becomes, deployed, truly, still_called}
use Rattle.circus_world_theory.proofs.Quiescence.Staying.{EffectSo}

-- a call, of any kind
abbrev pub AnyCall : Purpose → List ℕ → Type 0
AnyCall purpose message = Unit {0}

-- a return to a call of an index that was performed
pub record EarlyReturn (Called : Caller → List ℕ → Type 0) (troupe count : ℕ) (caller : Caller) (message : List ℕ) : Type 0 where
  pub header : CallHeader
  pub body : List ℕ
  pub header_is : IsOne calls (AskOf header)
  pub called : Called caller (ask_message header body)
  pub early : slice_index header.clock troupe < count

pub early_grows : (Called Other : Caller → List ℕ → Type 0) → ((caller : Caller) (message : List ℕ) → Called caller message → Other caller message) → (troupe count more : ℕ) → count ≤ more
    → (caller : Caller) (message : List ℕ) → EarlyReturn Called troupe count caller message → EarlyReturn Other troupe more caller message
early_grows Called Other grows troupe count more le caller message e = record {
  header = e.header;
  body = e.body;
  header_is = e.header_is;
  called = grows caller (ask_message e.header e.body) e.called;
  early = (let less = e.early in omega (arith, less, le));
}

pub made_early : (views : List View) (Called : Caller → List ℕ → Type 0) (troupe : ℕ) (kept : MemberRecord) (e : Effect) → EffectSo views troupe (λ caller header body. IsOne calls (AskOf header) × Called caller (ask_message header body)) kept e
    → IsMade AnyCall (EarlyReturn Called troupe kept.count) e
made_early views Called troupe kept (made.Call to message purpose) so = tt
made_early views Called troupe kept (made.Answer caller message) so = record { header = so.header; body = so.body; header_is = so.is.0; called = so.is.1; early = so.index }

module _ {M : Type 0} (declared : M → Signature) (turn : M → List ValueTree → ℕ → List ValueTree → List Outcome → NextTurn) (first : M → List ValueTree)
    (lawful : (hosted : M) → IsModule (behaviour declared turn first hosted))
    (program : List Behaviour) (agree : Agree program) (are : AreModules program) (proper : AreProper program) (d : Deployment) (good : IsDeployment d)
    (all : length program ≡ length d.troupes) (fits : (number : ℕ) (b : Behaviour) → IsAt program number b → IsOfTroupe d number b.declared) where
  abbrev pub CalmAt : ℕ → WireActs Purpose → MemberState M → Type 0
  CalmAt node a m = IsCalm (beginning_of d node) (boot_views d.troupes) (λ other. IsOtherOf d node other) a m

  -- each member is calm
  pub record NodesCalm (acts : ℕ → WireActs Purpose) (w : WorldState M) : Type 0 where
    pub calm : (node : ℕ) (s : Standing M) (m : MemberState M) → slice_get w.nodes node ≡ Some s → s.node.acting ≡ member m → CalmAt node (acts node) m
    pub early : (node troupe : ℕ) (s : Standing M) (m : MemberState M) → slice_get w.nodes node ≡ Some s → s.node.acting ≡ member m → troupe_at d node ≡ Some troupe
        → AllSaid AnyCall (EarlyReturn (CalledAt d acts node) troupe m.performing.kept.count) (acts node)
    -- a founder of a root has begun
    pub begun : (node troupe : ℕ) (t : Troupe) (s : Standing M) (m : MemberState M) → slice_get w.nodes node ≡ Some s → s.node.acting ≡ member m → troupe_at d node ≡ Some troupe → slice_get d.troupes troupe ≡ Some t
        → is_among t.founders node ≡ true → is_root d troupe ≡ true → 0 < length m.performing.kept.runs
    -- each has the collators of its troupe
    pub placed : (node troupe : ℕ) (t : Troupe) (s : Standing M) (m : MemberState M) → slice_get w.nodes node ≡ Some s → s.node.acting ≡ member m → troupe_at d node ≡ Some troupe → slice_get d.troupes troupe ≡ Some t
        → (m.place.calls ≡ t.calls) × (m.place.replies ≡ t.replies)

  -- ---- a member

  module _ (acts : ℕ → WireActs Purpose) (w : WorldState M) (so_far : NodesTrue declared turn first program d acts w)
      (quiet : NodesQuiet declared turn first lawful program agree are proper d good all acts w) (node from : ℕ) (right : GoesRight declared turn first lawful program agree are proper d good all fits acts from)
      (troupe : ℕ) (m : MemberState M) (hosts : troupe_at d node ≡ Some troupe) (truly : IsTrueAt declared turn first program d (CalledAt d acts node) troupe m)
      (still : MemberQuiet declared turn first lawful program agree are proper d (CalledAt d acts node) (phase_at d node) troupe m)
      (wire : WireState Purpose) (stands : WireStands wire (beginning_of d node) (acts node)) (from_below : from < length d.nodes) (differs : from ≢ node)
      (segment : Result Piece SegmentFault) (read : (s : Piece) → segment ≡ Ok s → IsSegment s) (calm : CalmAt node (acts node) m) where
    abbrev Called : Caller → List ℕ → Type 0
    Called = CalledAt d acts node

    abbrev came : WireActs Purpose
    came = with_all (acts node) (acts_of_datagram from segment)

    abbrev P : Caller → CallHeader → List ℕ → Type 0
    P = HasCame declared turn first lawful program agree are proper d Called

    -- what it has become
    pub record MemberSteps (x : Made M) : Type 0 where
      pub member_ : MemberState M
      pub acting : x.acting ≡ member member_
      pub calm_ : CalmAt node (with_all came (map act_of x.came.effects)) member_
      pub early_ : All (IsMade AnyCall (EarlyReturn Called troupe member_.performing.kept.count)) x.came.effects
      pub counts : m.performing.kept.count ≤ member_.performing.kept.count
      pub longer : length m.performing.kept.runs ≤ length member_.performing.kept.runs
      pub placed_ : member_.place ≡ m.place

    module _ (truly_heard : HeardAt d acts node from (heard_from wire from segment)) where
      brings : Brings (beginning_of d node) (boot_views d.troupes) (λ other. IsOtherOf d node other) troupe (phase_at d node) P declared turn first lawful (first_views 0 d.troupes) (acts node) (acts_of_datagram from segment) m truly.rested still calm
          (occurrence_of_heard d (declared m.performing.hosted) m from (heard_from wire from segment))
      brings = brings_so declared turn first lawful program agree are proper d good all fits acts w so_far quiet node from right troupe m hosts truly wire stands from_below differs segment read truly_heard
          (boot_views d.troupes) troupe (phase_at d node) P (first_views 0 d.troupes) truly.rested still calm

      stays : Brings (beginning_of d node) (boot_views d.troupes) (λ other. IsOtherOf d node other) troupe (phase_at d node) P declared turn first lawful (first_views 0 d.troupes) (acts node) (acts_of_datagram from segment) m truly.rested still calm None
          → (x : Made M) → x.acting ≡ member m → x.came.effects ≡ [] → MemberSteps x
      stays br x same none = record {
        member_ = m;
        acting = same;
        calm_ = subst (λ es. CalmAt node (with_all came (map act_of es)) m) (sym none)
            (calm_still (beginning_of d node) (boot_views d.troupes) (λ other. IsOtherOf d node other) troupe (phase_at d node) P declared turn first lawful (first_views 0 d.troupes) (acts node) (acts_of_datagram from segment) m truly.rested still calm br);
        early_ = subst (λ es. All (IsMade AnyCall (EarlyReturn Called troupe m.performing.kept.count)) es) (sym none) (All-nil (IsMade AnyCall (EarlyReturn Called troupe m.performing.kept.count)));
        counts = omega arith;
        longer = omega arith;
        placed_ = refl;
      }

      by_accepted : (at : ℕ) (h : Heard Purpose) → heard_from wire from segment ≡ h → (o : Option Occurrence) → occurrence_of_heard d (declared m.performing.hosted) m from h ≡ o
          → ActsTrue declared turn first program d Called (Some troupe) (option_map_or (happens declared turn at m) o (refuse (member m))).acting
          → AreReturns (beginning_of d node) came (option_map_or (happens declared turn at m) o (refuse (member m))).came.effects
          → MemberSteps (option_map_or (happens declared turn at m) o (refuse (member m)))
      by_accepted at h h_is None o_is truth returns =
          stays (subst (λ y. Brings (beginning_of d node) (boot_views d.troupes) (λ other. IsOtherOf d node other) troupe (phase_at d node) P declared turn first lawful (first_views 0 d.troupes) (acts node) (acts_of_datagram from segment) m truly.rested still calm y)
          (ap (occurrence_of_heard d (declared m.performing.hosted) m from) h_is ∙ o_is) brings) (refuse (member m)) refl refl
      by_accepted at h h_is (Some x) o_is truth returns =
          let is : occurrence_of_heard d (declared m.performing.hosted) m from (heard_from wire from segment) ≡ Some x = ap (occurrence_of_heard d (declared m.performing.hosted) m from) h_is ∙ o_is in
          let so : HappensQuietly declared turn first lawful program agree are proper d Called (phase_at d node) troupe m truly still x =
          happens_so declared turn first lawful program agree are proper d good all acts w so_far quiet node from troupe m hosts truly still (heard_from wire from segment) truly_heard x is in
          let n = (step_member declared turn at x m).member in
          let few_before = few_runs program agree are troupe (first m.performing.hosted) m.performing.kept truly.rested.sound.kept.inactive truly.is.stands in
          let few = few_of declared turn first lawful program agree are proper d good all acts w so_far quiet node from troupe m hosts truly still at (Some x) truth x refl in
          let br = subst (λ y. Brings (beginning_of d node) (boot_views d.troupes) (λ other. IsOtherOf d node other) troupe (phase_at d node) P declared turn first lawful (first_views 0 d.troupes) (acts node) (acts_of_datagram from segment) m truly.rested still calm y) is brings in
          let s = steps (beginning_of d node) (boot_views d.troupes) (λ other. IsOtherOf d node other) troupe (phase_at d node) P declared turn first lawful (first_views 0 d.troupes) (acts node) (acts_of_datagram from segment) m truly.rested still calm
          at x so.0 so.1 few_before few truth.rested br returns (boot_others d good) in
          record {
            member_ = n;
            acting = refl;
            calm_ = calm_now (beginning_of d node) (boot_views d.troupes) (λ other. IsOtherOf d node other) troupe (phase_at d node) P declared turn first lawful (first_views 0 d.troupes) (acts node) (acts_of_datagram from segment) m truly.rested still calm
                at x so.0 so.1 few_before few truth.rested br returns (boot_others d good);
            early_ = All-weaker (EffectSo (boot_views d.troupes) troupe P n.performing.kept) (IsMade AnyCall (EarlyReturn Called troupe n.performing.kept.count)) (made_early (boot_views d.troupes) Called troupe n.performing.kept)
                (step_member declared turn at x m).effects s.effects;
            counts = s.counts;
            longer = s.longer;
            placed_ = (step_rests declared turn first lawful at x m truly.rested so.0 (quiet_in_range (boot_views d.troupes) troupe (phase_at d node) P x so.1)).place;
          }

      pub member_steps : (at : ℕ) (h : Heard Purpose) → heard_from wire from segment ≡ h → ActsTrue declared turn first program d Called (Some troupe) (hears declared turn d at from h (member m)).acting
          → AreReturns (beginning_of d node) came (hears declared turn d at from h (member m)).came.effects → MemberSteps (hears declared turn d at from h (member m))
      member_steps at heard.Dropped h_is truth returns =
          stays (subst (λ y. Brings (beginning_of d node) (boot_views d.troupes) (λ other. IsOtherOf d node other) troupe (phase_at d node) P declared turn first lawful (first_views 0 d.troupes) (acts node) (acts_of_datagram from segment) m truly.rested still calm y)
          (ap (occurrence_of_heard d (declared m.performing.hosted) m from) h_is) brings) _ refl refl
      member_steps at heard.Taken h_is truth returns =
          stays (subst (λ y. Brings (beginning_of d node) (boot_views d.troupes) (λ other. IsOtherOf d node other) troupe (phase_at d node) P declared turn first lawful (first_views 0 d.troupes) (acts node) (acts_of_datagram from segment) m truly.rested still calm y)
          (ap (occurrence_of_heard d (declared m.performing.hosted) m from) h_is) brings) _ refl refl
      member_steps at (heard.Called sender message) h_is truth returns =
          by_accepted at (heard.Called sender message) h_is (occurrence_of_heard d (declared m.performing.hosted) m from (heard.Called sender message)) refl truth returns
      member_steps at (heard.Returned number purpose message) h_is truth returns =
          by_accepted at (heard.Returned number purpose message) h_is (occurrence_of_heard d (declared m.performing.hosted) m from (heard.Returned number purpose message)) refl truth returns

  -- ---- a delivery

  same_member : (a b : MemberState M) → ◌≡◌ {A = Acting M} (member a) (member b) → a ≡ b
  same_member a b is = cc

  -- calls go where they should
  goes_right : (acts : ℕ → WireActs Purpose) (w : WorldState M) → Stands d acts w → NodesTrue declared turn first program d acts w → NodesCalm acts w → (from : ℕ) (s : Standing M) → slice_get w.nodes from ≡ Some s
      → GoesRight declared turn first lawful program agree are proper d good all fits acts from
  goes_right acts w stands so_far calm from s at node k name server p = by_acting (troupe_at d from) s.node.acting refl (so_far.nodes from s at) said.purpose said.message said.so
    where
      said : IsSaidCall (CallSo program (CalledAt d acts from) (troupe_at d from)) (ReturnSo program (CalledAt d acts from) (troupe_at d from)) (beginning_of d from) (acts from) node k
      said = purpose_said (CallSo program (CalledAt d acts from) (troupe_at d from)) (ReturnSo program (CalledAt d acts from) (troupe_at d from)) (beginning_of d from) (acts from) node k (for.Ask name server) (so_far.said from) p

      by_acting : (own : Option ℕ) (a : Acting M) → s.node.acting ≡ a → ActsTrue declared turn first program d (CalledAt d acts from) own a → (p_ : Purpose) (l : List ℕ) → CallSo program (CalledAt d acts from) own p_ l → troupe_at d node ≡ Some server
      by_acting (Some troupe) (member m) is truth p_ l so = entry_hosts d good server node (((calm.calm from s m at is).named node k name.run name.ask server p).1)
      by_acting (Some troupe) (ringmaster kept) is truth p_ l so = absurd truth
      by_acting None a is truth p_ l so = absurd so

  module _ (number : ℕ) (acts new : ℕ → WireActs Purpose) (w next : WorldState M) (stands : Stands d acts w) (delivers : Delivers declared turn d number acts new w next)
      (so_far : NodesTrue declared turn first program d acts w) (quiet : NodesQuiet declared turn first lawful program agree are proper d good all acts w) (calm : NodesCalm acts w)
      (handed : IsHandedWhole declared turn first lawful d good delivers.sent.to (acts delivers.sent.to) (w.steps + 1) (comes.Datagram delivers.sent.from delivers.sent.bytes) delivers.node.node) where
    abbrev at_node : ℕ
    at_node = delivers.sent.to

    abbrev from : ℕ
    from = delivers.sent.from

    abbrev s : Standing M
    s = delivers.node

    abbrev event : Event
    event = comes.Datagram delivers.sent.from delivers.sent.bytes

    abbrev h : Heard Purpose
    h = heard_from s.node.wire from (reading delivers.sent.bytes)

    abbrev by : Deployment → Acting M → Made M
    by x a = hears declared turn x (w.steps + 1) from h a

    at_deployment : s.node.deployment ≡ d
    at_deployment = deployed declared turn first lawful program agree are proper d good all number acts new w next stands delivers so_far quiet

    is_now : delivers.ended.0.acting ≡ (by s.node.deployment s.node.acting).acting
    is_now = becomes declared turn first lawful program agree are proper d good all number acts new w next stands delivers so_far quiet

    comes_so : HeardAt d acts at_node from h
    comes_so = truly declared turn first lawful program agree are proper d good all number acts new w next stands delivers so_far quiet

    still_there : (x : ℕ) (caller : Caller) (message : List ℕ) → CalledAt d acts x caller message → CalledAt d new x caller message
    still_there = still_called declared turn first lawful program agree are proper d good all number acts new w next stands delivers so_far quiet

    right : GoesRight declared turn first lawful program agree are proper d good all fits acts from
    right =
        let other = get_there w.nodes from (subst (λ k. from < k) (sym stands.all) delivers.from_below) in
        goes_right acts w stands so_far calm from other.0 other.1

    read : (p : Piece) → reading delivers.sent.bytes ≡ Ok p → IsSegment p
    read p is = (came_sent d acts w stands from at_node delivers.sent.bytes p delivers.from_below delivers.to_below delivers.others (all_at (IsGiven d acts) w.sent number delivers.sent stands.sent delivers.there) is).0

    -- what the member there has become
    record Here (m_ : MemberState M) : Type 0 where
      old : MemberState M
      old_is : s.node.acting ≡ member old
      calm_ : CalmAt at_node (new at_node) m_
      early_ : (troupe : ℕ) → troupe_at d at_node ≡ Some troupe → All (IsMade AnyCall (EarlyReturn (CalledAt d acts at_node) troupe m_.performing.kept.count)) (effects_in declared turn (w.steps + 1) event s.node)
      counts : old.performing.kept.count ≤ m_.performing.kept.count
      longer : length old.performing.kept.runs ≤ length m_.performing.kept.runs
      placed_ : m_.place ≡ old.place

    truth : ActsTrue declared turn first program d (CalledAt d acts at_node) (troupe_at d at_node) (by s.node.deployment s.node.acting).acting
    truth = subst (λ a. ActsTrue declared turn first program d (CalledAt d acts at_node) (troupe_at d at_node) a) is_now
        (ends_true declared turn first lawful program agree are proper d good all acts w so_far at_node s delivers.at at_deployment event delivers.ended comes_so delivers.ends).acting

    member_here : (m_ m : MemberState M) (troupe : ℕ) → delivers.ended.0.acting ≡ member m_ → s.node.acting ≡ member m → troupe_at d at_node ≡ Some troupe → ActsTrue declared turn first program d (CalledAt d acts at_node) (Some troupe) (member m) → Here m_
    member_here m_ m troupe is was hosts true_before =
        let same : by s.node.deployment s.node.acting ≡ by d (member m) = ap (λ x. by x s.node.acting) at_deployment ∙ ap (by d) was in
        let truth_now : ActsTrue declared turn first program d (CalledAt d acts at_node) (Some troupe) (by d (member m)).acting =
        subst (λ o. ActsTrue declared turn first program d (CalledAt d acts at_node) o (by d (member m)).acting) hosts
        (subst (λ (x : Made M). ActsTrue declared turn first program d (CalledAt d acts at_node) (troupe_at d at_node) x.acting) same truth) in
        let still : MemberQuiet declared turn first lawful program agree are proper d (CalledAt d acts at_node) (phase_at d at_node) troupe m =
        subst (λ o. NodeQuiet declared turn first lawful program agree are proper d good all (CalledAt d acts at_node) at_node o (member m)) hosts
        (subst (λ a. NodeQuiet declared turn first lawful program agree are proper d good all (CalledAt d acts at_node) at_node (troupe_at d at_node) a) was (quiet.nodes at_node s delivers.at)) in
        let returns = subst (λ (x : Made M). AreReturns (beginning_of d at_node) (with_all (acts at_node) (came_by event)) x.came.effects) same handed.returns in
        let r = member_steps acts w so_far quiet at_node from right troupe m hosts true_before still s.node.wire (stands.stands at_node s delivers.at) delivers.from_below delivers.others (reading delivers.sent.bytes) read
        (calm.calm at_node s m delivers.at was) comes_so (w.steps + 1) h refl truth_now returns in
        let becomes_ : r.member_ ≡ m_ = same_member r.member_ m_ (sym r.acting ∙ sym (ap (λ (x : Made M). x.acting) same) ∙ sym is_now ∙ is) in
        let acts_are : new at_node ≡ with_all (with_all (acts at_node) (came_by event)) (map act_of (by d (member m)).came.effects) =
        delivers.here ∙ ap (λ l. with_all (acts at_node) (came_by event ++ l)) handed.all
        ∙ with_both (acts at_node) (came_by event) (map act_of (effects_in declared turn (w.steps + 1) event s.node))
        ∙ ap (λ (x : Made M). with_all (with_all (acts at_node) (came_by event)) (map act_of x.came.effects)) same in
        record {
          old = m;
          old_is = was;
          calm_ = subst (λ y. CalmAt at_node (new at_node) y) becomes_ (subst (λ a. CalmAt at_node a r.member_) (sym acts_are) r.calm_);
          early_ = λ t at_t.
              let one : troupe ≡ t = same_Some troupe t (sym hosts ∙ at_t) in
              subst (λ k. All (IsMade AnyCall (EarlyReturn (CalledAt d acts at_node) k m_.performing.kept.count)) (effects_in declared turn (w.steps + 1) event s.node)) one
              (subst (λ (y : MemberState M). All (IsMade AnyCall (EarlyReturn (CalledAt d acts at_node) troupe y.performing.kept.count)) (effects_in declared turn (w.steps + 1) event s.node)) becomes_
              (subst (λ (x : Made M). All (IsMade AnyCall (EarlyReturn (CalledAt d acts at_node) troupe r.member_.performing.kept.count)) x.came.effects) (sym same) r.early_));
          counts = subst (λ (y : MemberState M). m.performing.kept.count ≤ y.performing.kept.count) becomes_ r.counts;
          longer = subst (λ (y : MemberState M). length m.performing.kept.runs ≤ length y.performing.kept.runs) becomes_ r.longer;
          placed_ = subst (λ (y : MemberState M). y.place ≡ m.place) becomes_ r.placed_;
        }

    here_by : (m_ : MemberState M) → delivers.ended.0.acting ≡ member m_ → (own : Option ℕ) → troupe_at d at_node ≡ own → (a : Acting M) → s.node.acting ≡ a → ActsTrue declared turn first program d (CalledAt d acts at_node) own a
        → ActsTrue declared turn first program d (CalledAt d acts at_node) own (member m_) → Here m_
    here_by m_ is (Some troupe) hosts (member m) was before after = member_here m_ m troupe is was hosts before
    here_by m_ is (Some troupe) hosts (ringmaster kept) was before after = absurd before
    here_by m_ is None hosts a was before after = absurd after

    here : (m_ : MemberState M) → delivers.ended.0.acting ≡ member m_ → Here m_
    here m_ is =
        here_by m_ is (troupe_at d at_node) refl s.node.acting refl (so_far.nodes at_node s delivers.at)
        (subst (λ a. ActsTrue declared turn first program d (CalledAt d acts at_node) (troupe_at d at_node) a) (sym is_now ∙ is) truth)

    where_is : (x : ℕ) (t : Standing M) → slice_get next.nodes x ≡ Some t → ((x ≡ at_node) × (t ≡ record s { node = delivers.ended.0 })) ⊎ (slice_get w.nodes x ≡ Some t)
    where_is x t found = get_set w.nodes at_node x (record s { node = delivers.ended.0 }) t (ap (λ (v : WorldState M). slice_get v.nodes x) (sym delivers.next_is) ∙ found)

    -- other nodes, whose acts stay
    acts_stay : (x : ℕ) → x ≢ at_node → acts x ≡ new x
    acts_stay x differs = sym (delivers.elsewhere x differs)

    -- where a node is as it was, it may be this one only if nothing changed there
    by_place : (x : ℕ) (t : Standing M) → slice_get next.nodes x ≡ Some t → ((x ≡ at_node) × (t ≡ record s { node = delivers.ended.0 })) ⊎ ((x ≢ at_node) × (slice_get w.nodes x ≡ Some t))
    by_place x t found = elim (eqb_tells x at_node) [
      | inl same ↦ inl (
        same.1,
        elim (where_is x t found) [
          | inl here_ ↦ here_.1
          | inr there ↦ same_Some t (record s { node = delivers.ended.0 }) (sym found ∙ ap (λ (v : WorldState M). slice_get v.nodes x) delivers.next_is ∙ ap (slice_get (set w.nodes at_node (record s { node = delivers.ended.0 }))) same.1
              ∙ get_same w.nodes at_node (record s { node = delivers.ended.0 }) s delivers.at)
        ],
      )
      | inr differ ↦ inr (differ.1, elim (where_is x t found) [ inl here_ ↦ absurd (differ.1 here_.0) | inr there ↦ there ])
    ]

    acting_now : (t : Standing M) (m_ : MemberState M) → t ≡ record s { node = delivers.ended.0 } → t.node.acting ≡ member m_ → delivers.ended.0.acting ≡ member m_
    acting_now t m_ is acting = sym (ap (λ (v : Standing M). v.node.acting) is) ∙ acting

    pub delivered_calm : NodesCalm new next
    delivered_calm = record {
      calm = λ x t m_ found acting. elim (by_place x t found) [
        | inl here_ ↦ subst (λ k. CalmAt k (new k) m_) (sym here_.0) (here m_ (acting_now t m_ here_.1 acting)).calm_
        | inr there ↦ subst (λ a. CalmAt x a m_) (acts_stay x there.0) (calm.calm x t m_ there.1 acting)
      ];
      early = λ x troupe t m_ found acting hosts. elim (by_place x t found) [
        | inl here_ ↦
            let r = here m_ (acting_now t m_ here_.1 acting) in
            let of : troupe_at d at_node ≡ Some troupe = subst (λ k. troupe_at d k ≡ Some troupe) here_.0 hosts in
            let Now = EarlyReturn (CalledAt d new at_node) troupe m_.performing.kept.count in
            let old = all_said_weaker AnyCall AnyCall (EarlyReturn (CalledAt d acts at_node) troupe r.old.performing.kept.count) Now (λ purpose message so. so)
            (early_grows (CalledAt d acts at_node) (CalledAt d new at_node) (still_there at_node) troupe r.old.performing.kept.count m_.performing.kept.count r.counts) (acts at_node) (calm.early at_node troupe s r.old delivers.at r.old_is of) in
            let made_ = All-weaker (IsMade AnyCall (EarlyReturn (CalledAt d acts at_node) troupe m_.performing.kept.count)) (IsMade AnyCall Now) (made_grows troupe m_.performing.kept.count) (effects_in declared turn (w.steps + 1) event s.node) (r.early_ troupe of) in
            subst (λ k. AllSaid AnyCall (EarlyReturn (CalledAt d new k) troupe m_.performing.kept.count) (new k)) (sym here_.0)
            (subst (λ a. AllSaid AnyCall Now a) (sym delivers.here) (step_said AnyCall Now (acts at_node) event (wire_behind event s.node) (effects_in declared turn (w.steps + 1) event s.node) old made_))
        | inr there ↦
            subst (λ a. AllSaid AnyCall (EarlyReturn (CalledAt d new x) troupe m_.performing.kept.count) a) (acts_stay x there.0)
            (all_said_weaker AnyCall AnyCall (EarlyReturn (CalledAt d acts x) troupe m_.performing.kept.count) (EarlyReturn (CalledAt d new x) troupe m_.performing.kept.count) (λ purpose message so. so)
            (early_grows (CalledAt d acts x) (CalledAt d new x) (still_there x) troupe m_.performing.kept.count m_.performing.kept.count (omega arith)) (acts x) (calm.early x troupe t m_ there.1 acting hosts))
      ];
      begun = λ x troupe one t m_ found acting hosts there_one founder root. elim (by_place x t found) [
        | inl here_ ↦
            let r = here m_ (acting_now t m_ here_.1 acting) in
            let before = calm.begun at_node troupe one s r.old delivers.at r.old_is (subst (λ k. troupe_at d k ≡ Some troupe) here_.0 hosts) there_one (subst (λ k. is_among one.founders k ≡ true) here_.0 founder) root in
            let longer = r.longer in
            omega (arith, before, longer)
        | inr there ↦ calm.begun x troupe one t m_ there.1 acting hosts there_one founder root
      ];
      placed = λ x troupe one t m_ found acting hosts there_one. elim (by_place x t found) [
        | inl here_ ↦
            let r = here m_ (acting_now t m_ here_.1 acting) in
            let before = calm.placed at_node troupe one s r.old delivers.at r.old_is (subst (λ k. troupe_at d k ≡ Some troupe) here_.0 hosts) there_one in
            (ap (λ (y : Place). y.calls) r.placed_ ∙ before.0, ap (λ (y : Place). y.replies) r.placed_ ∙ before.1)
        | inr there ↦ calm.placed x troupe one t m_ there.1 acting hosts there_one
      ];
    }
      where
        made_grows : (troupe count : ℕ) (e : Effect) → IsMade AnyCall (EarlyReturn (CalledAt d acts at_node) troupe count) e → IsMade AnyCall (EarlyReturn (CalledAt d new at_node) troupe count) e
        made_grows troupe count (made.Call to message purpose) so = tt
        made_grows troupe count (made.Answer caller message) so = early_grows (CalledAt d acts at_node) (CalledAt d new at_node) (still_there at_node) troupe count count (omega arith) caller message so

  -- ---- deliveries

  module _ (I : (ℕ → WireActs Purpose) → WorldState M → Type 0)
      (kept : (number : ℕ) (acts new : ℕ → WireActs Purpose) (w next : WorldState M) → Stands d acts w → (delivers : Delivers declared turn d number acts new w next)
      → IsHandedWhole declared turn first lawful d good delivers.sent.to (acts delivers.sent.to) (w.steps + 1) (comes.Datagram delivers.sent.from delivers.sent.bytes) delivers.node.node → I acts w → I new next) where
    pub lead_hands : (lines : List Line) (acts : ℕ → WireActs Purpose) (w last : WorldState M) → All IsDelivery lines → Stands d acts w → AllLive w → HandsLines declared turn first lawful d good acts lines w → I acts w
        → Lead declared turn lines w last → I (λ node. with_lines declared turn node (acts node) lines w) last
    lead_hands [] acts w last are_ so_far live hands holds lead = subst (λ (v : WorldState M). I acts v) (sym lead) holds
    lead_hands (Deliver number ∷ lines) acts w last are_ so_far live hands holds lead =
        let next : WorldState M = lead.0 in
        let new : ℕ → WireActs Purpose = λ node. with_line declared turn node (acts node) (Deliver number) w in
        let delivers = line_delivers declared turn d acts w next so_far live number lead.1 in
        let stands = line_stands declared turn d number acts w next so_far lead.1 in
        subst (λ (f : ℕ → WireActs Purpose). I f last)
        (λ i node. with_others (with_lines declared turn node (new node) lines) (acts node) (sym lead.1.stepped_is i))
        (lead_hands lines new next last (All-tail IsDelivery (Deliver number) lines are_) stands (still_live declared turn d number acts new w next delivers live) (hands.1 next lead.1.stepped_is)
        (kept number acts new w next so_far delivers (hands.0 delivers.sent.to (comes.Datagram delivers.sent.from delivers.sent.bytes) delivers.node delivers.comes_it delivers.at) holds) lead.2)
    lead_hands (Tick node ∷ lines) acts w last are_ so_far live hands holds lead = absurd (All-head IsDelivery (Tick node) lines are_)
    lead_hands (Crash node ∷ lines) acts w last are_ so_far live hands holds lead = absurd (All-head IsDelivery (Crash node) lines are_)
    lead_hands (Down node told ∷ lines) acts w last are_ so_far live hands holds lead = absurd (All-head IsDelivery (Down node told) lines are_)
    lead_hands (Join node ∷ lines) acts w last are_ so_far live hands holds lead = absurd (All-head IsDelivery (Join node) lines are_)
