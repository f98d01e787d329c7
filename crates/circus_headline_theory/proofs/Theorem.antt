-- A node by itself is a node run, whatever comes to it.
use Rattle.std.proofs.Common.{◌≡◌, ℕ, ◌<◌, ◌≤◌, List, [], ◌∷◌, ◌++◌, All, None, Some, refl, sym, ap, subst, ◌∙◌, arith, append_assoc, append-nil}
use Rattle.std.specs.Prelude.{slice_get, if◌then◌else◌}
use Rattle.std.proofs.lemmas.List.Elements.{All-head, All-tail}
use Rattle.std.proofs.lemmas.Option.{same_Some}
use Rattle.circus_value.specs.ValueTree.{ValueTree}
use Rattle.circus_value.specs.declared.outcome.Outcome.{Outcome}
use Rattle.circus_collate.specs.Deployment.{IsDeployment}
use Rattle.circus_collate.specs.declared.deployment.Deployment.{Deployment}
use Rattle.circus_collate.specs.declared.deployment.Troupe.{Troupe}
use Rattle.circus_collate.specs.declared.view.View.{View}
use Rattle.circus_ring.specs.RingTable.{boot_views}
use Rattle.circus_transfer.specs.declared.joiner.Joiner.{Joiner}
use Rattle.circus_model.specs.Behaviour.{Behaviour, IsModule}
use Rattle.circus_model.specs.NextTurn.{NextTurn}
use Rattle.circus_model.specs.declared.signature.Signature.{Signature}
use Rattle.circus_record.specs.declared.record.MemberRecord.{MemberRecord}
use Rattle.circus_performing.specs.Performing.{is_active}
use Rattle.circus_performing.specs.Record.{behaviour, IsRecord}
use Rattle.circus_wire.specs.WireActs.{WireActs}
use Rattle.circus_member_rules.specs.declared.place.Beginning.{Beginning}
use Rattle.circus_member_rules.specs.declared.place.Beginning.TheVariants.{Founder, Spare}
use Rattle.circus_member_rules.specs.declared.place.Place.{Place}
use Rattle.circus_member_rules.specs.declared.occurrence.Purpose.{Purpose}
use Rattle.circus_member_rules.specs.Happening.{IsHome}
use Rattle.circus_member_rules.specs.MemberState.{MemberState}
use Rattle.circus_node.specs.Accepting.{troupe_at}
use Rattle.circus_node.specs.Booting.{beginning_in, home_in}
use Rattle.circus_node.specs.NodeState.{member, NodeState, member_record}
use Rattle.circus_node.specs.NodeState as node_state
use Rattle.circus_node.specs.Step as node_step
use Rattle.circus_node.specs.declared.event.Event.{Event}
use Rattle.circus_world_theory.specs.NodeActs.{with_all, acts_in}
use Rattle.circus_node.specs.Trace.{effects_in, effects_at_boot, Trace}
use Rattle.circus_member_theory.specs.Past.{Past, booted, now, snapshot_fetched}
use Rattle.circus_member_theory.specs.First.{first_given}
use Rattle.circus_member_theory.specs.Timely.{IsTimely}
use Rattle.circus_member_theory.specs.Living.{after, MayLive, phase_at_boot}
use Rattle.circus_member_theory.specs.Living as member_living
use Rattle.circus_member_theory.specs.Snapshots.{began}
use Rattle.circus_member_theory.specs.Made.{AreDistinct}
use Rattle.circus_headline_theory.specs.Owed.Living.{made_by}
use Rattle.circus_headline_theory.proofs.Owed.Lives.{IsKnown, known}
use Rattle.circus_world_theory.specs.Happened.{happens_by, with_one}
use Rattle.circus_world_theory.specs.NodeLives.{Events, Rising, Comes, past_behind, IsLife}
use Rattle.circus_world_theory.specs.NodeLives as pasts
use Rattle.circus_world_theory.proofs.Timely.Lines.{now_one}
use Rattle.circus_world_theory.proofs.Timely.Lives.{NodeLives, lives_in_time}
use Rattle.circus_world_theory.proofs.Timely.Nodes.{at_home}
use Rattle.circus_headline_theory.specs.Owed.Owes.{MakesWhatIsOwed}
use Rattle.circus_headline_theory.proofs.Owed.Nodes.{owed_all}
use Rattle.circus_headline_theory.specs.Datagrams.Lives.{IsOfOther, boot_acts}
use Rattle.circus_headline_theory.specs.Datagrams.Lives as at_pairs
use Rattle.circus_headline_theory.specs.Lived.{trace_behind}
use Rattle.circus_headline_theory.specs.Lived as lived
use Rattle.circus_headline_theory.specs.NodeRun.{past_of, state_at_activation, IsNodeRun}
use Rattle.circus_node.specs.Trace as trace
use Rattle.circus_headline_theory.specs.Trace.{events_of, made_of, told_of}
use Rattle.circus_headline_theory.proofs.Course.{Says, is_life, may_live, Leaves, Follows, follows_on, follows_at_boot}
use Rattle.circus_headline_theory.proofs.Growing.{says_same}
use Rattle.circus_headline_theory.proofs.Since.{IsFromFirst, from_first}

-- ---- what stands in the trace

-- it is a node run that ends in a node: the state with which the node's member became active is that of the trace
pub record IsRunOfNode {M : Type 0} (d : Deployment) (b : Behaviour) (node number : ℕ) (troupe : Troupe) (t : Trace) (last : NodeState M) (kept : MemberRecord) : Type 0 where
  pub run : IsNodeRun d b node number troupe t kept
  pub activation : node_state.state_at_activation last.acting ≡ Some (state_at_activation d b node number troupe kept t)

module _ {M : Type 0} (declared : M → Signature) (turn : M → List ValueTree → ℕ → List ValueTree → List Outcome → NextTurn) where
  abbrev grown : Trace → Events → NodeState M → Trace
  grown t events n = lived.with_events declared turn t events n

  abbrev grown_by : Trace → ℕ × Event → Events → NodeState M → node_step.Ended M → Trace
  grown_by t next events n e = lived.then_on (λ (x : Trace) (m : NodeState M). grown x events m) t (trace.stepped t next.0 next.1 (effects_in declared turn next.0 next.1 n)) e

  events_along : (t : Trace) (events : Events) (n last : NodeState M) → Comes declared turn events n last → events_of (grown t events n) ≡ events_of t ++ events
  events_along t [] n last come = sym (append-nil (events_of t))
  events_along t (next ∷ events) n last come =
      (λ j. events_of (grown_by t next events n (come.2 j)))
      ∙ events_along (trace.stepped t next.0 next.1 (effects_in declared turn next.0 next.1 n) come.0.1) events come.0.0 last come.3
      ∙ append_assoc (events_of t) (next ∷ []) events

module _ {M : Type 0} (declared : M → Signature) (turn : M → List ValueTree → ℕ → List ValueTree → List Outcome → NextTurn) (first : M → List ValueTree)
    (lawful : (hosted : M) → IsModule (behaviour declared turn first hosted)) where
  -- ---- all that comes

  module _ (d : Deployment) (good : IsDeployment d) (node number : ℕ) (troupe : Troupe) (own : M) (hosts : troupe_at d node ≡ Some number)
      (home : IsHome (declared own) (home_in d node number troupe).place (boot_views d.troupes)) where
    abbrev FollowsSo : Trace → Past → WireActs Purpose → NodeState M → Type 0
    FollowsSo t p acts n = Follows declared turn first lawful d good node number troupe own hosts home t p acts n

    follows_behind : (t : Trace) (p : Past) (acts : WireActs Purpose) (at : ℕ) (events : Events) (n last : NodeState M) → FollowsSo t p acts n → now p ≤ at → Rising at events
        → All (λ (e : ℕ × Event). IsOfOther d node e.1) events → Comes declared turn events n last
        → FollowsSo (lived.with_events declared turn t events n) (pasts.with_events declared turn p events n) (at_pairs.with_events declared turn acts events n) last
    follows_behind t p acts at [] n last f before rising others come = subst (FollowsSo t p acts) (sym come) f
    follows_behind t p acts at (next ∷ events) n last f before rising others come =
        let later : now p < next.0 = omega (arith, before, rising.0) in
        let o = happens_by declared next.1 n in
        let q = with_one p next.0 o in
        let acts_then = with_all acts (acts_in declared turn next.0 next.1 n) in
        let made = effects_in declared turn next.0 next.1 n in
        let one = follows_on declared turn first lawful d good node number troupe own hosts home t p acts n f next.0 next.1 later come.1 (All-head (λ (e : ℕ × Event). IsOfOther d node e.1) next events others) come.0 come.2 in
        let rest = follows_behind (trace.stepped t next.0 next.1 made come.0.1) q acts_then next.0 events come.0.0 last one (now_one p next.0 o (omega (arith, later))) rising.1
        (All-tail (λ (e : ℕ × Event). IsOfOther d node e.1) next events others) come.3 in
        subst
        (λ (e : node_step.Ended M). FollowsSo (grown_by declared turn t next events n e) (pasts.with_rest declared turn (pasts.with_events declared turn q events) p e)
        (at_pairs.with_rest (at_pairs.with_events declared turn acts_then events) acts e) last) (sym come.2) rest

    -- ---- what it leaves is a run

    abbrev b : Behaviour
    b = behaviour declared turn first own

    abbrev place : Place
    place = (home_in d node number troupe).place

    abbrev views : List View
    views = boot_views d.troupes

    abbrev beginning : Beginning
    beginning = beginning_in troupe node

    abbrev begins : Joiner
    begins = phase_at_boot beginning

    runs_are : (x : Beginning) → member_living.runs_at_boot declared x own ≡ (if is_active (phase_at_boot x) then (if (declared own).root then 1 else 0) else 0)
    runs_are Founder = refl
    runs_are Spare = refl

    pub run_left : (t : Trace) (p : Past) (last : NodeState M) (kept : MemberRecord) → NodeLives declared turn first lawful d node number troupe own p last.acting → AreDistinct p
        → Leaves declared turn first lawful d good node number troupe own hosts home t p → member_record last.acting ≡ Some kept → IsRunOfNode d b node number troupe t last kept
    run_left t p last kept lives distinct l at = record {
      run =
          record {
            timely = subst (λ n. IsTimely place views begins (declared own).procedures n kept (past_of d b node number troupe kept t)) (runs_are beginning)
                (subst (IsTimely place views begins (declared own).procedures (member_living.runs_at_boot declared beginning own) kept) (sym past_so)
                (lives_in_time declared turn first lawful d node number troupe own home p last.acting kept lives at));
            from_first = subst (λ q. first_given (snapshot_fetched begins) q ≡ None → (kept.from ≡ 0) × (kept.active_at ≡ 0)) (sym past_so)
                (λ none. subst IsFromFirst kept_is (from_first declared turn first lawful place views beginning own home p may none));
            follows = subst (λ q. IsRecord b (began begins b.first q) kept) (sym past_so) follows_so;
            makes = subst (λ q. MakesWhatIsOwed d node number troupe b.first kept q (made_of t) (told_of t)) (sym past_so) makes_so;
            ordered = l.ordered kept says;
            sends = l.sends;
          };
      activation = ap node_state.state_at_activation acting_is ∙ ap Some (knows.knows.state_is ∙ ap (began begins b.first) (sym past_so));
    }
      where
        m : MemberState M
        m = after declared turn first place views beginning own p

        may : MayLive declared turn first place views beginning own p
        may = may_live declared turn first lawful d good node number troupe own hosts home p last.acting lives

        acting_is : last.acting ≡ member m
        acting_is = is_life declared turn first lawful d good node number troupe own hosts home p last.acting lives

        kept_is : m.performing.kept ≡ kept
        kept_is = same_Some m.performing.kept kept (sym (ap member_record acting_is) ∙ at)

        says : Says declared turn first lawful d good node number troupe own hosts home p kept
        says = subst (Says declared turn first lawful d good node number troupe own hosts home p) kept_is (says_same place views begins (first own) p m.performing.kept)

        past_so : past_of d b node number troupe kept t ≡ p
        past_so = l.past_is kept says

        knows : IsKnown declared turn first lawful place views beginning own p m
        knows = known declared turn first lawful place views beginning own home p may

        -- the record follows the turns from the state that the member had as it became active
        follows_so : IsRecord b (began begins b.first p) kept
        follows_so =
            let by : IsRecord (behaviour declared turn first m.performing.hosted) m.performing.began m.performing.kept = knows.sound.kept in
            subst (IsRecord b (began begins b.first p)) kept_is
            (subst (λ s. IsRecord b s m.performing.kept) knows.knows.state_is (subst (λ h. IsRecord (behaviour declared turn first h) m.performing.began m.performing.kept) knows.hosts by))

        makes_so : MakesWhatIsOwed d node number troupe b.first kept p (made_of t) (told_of t)
        makes_so =
            subst (λ x. MakesWhatIsOwed d node number troupe b.first kept p x (told_of t)) (sym l.makes)
            (subst (λ x. MakesWhatIsOwed d node number troupe b.first kept p (made_by declared turn first place views beginning own p) x) (sym l.tells)
            (owed_all declared turn first lawful d node number troupe own home p distinct last.acting kept lives at))

  -- ---- the law

  pub is_run_of_node : (d : Deployment) (own : M) (node number : ℕ) (troupe : Troupe) (events : Events) (begun_ last : NodeState M) (kept : MemberRecord) (life : IsLife declared turn first d own node events begun_ last)
      → All (λ (e : ℕ × Event). IsOfOther d node e.1) events → troupe_at d node ≡ Some number → slice_get d.troupes number ≡ Some troupe → member_record last.acting ≡ Some kept
      → IsRunOfNode d (behaviour declared turn first own) node number troupe (trace_behind declared turn first d own node life.outputs events begun_) last kept
  is_run_of_node d own node number troupe events begun_ last kept life others hosts there at =
      let good = life.can.deployment in
      let home = at_home declared turn first lawful d node number troupe own hosts there good (life.can.fits number (declared own) hosts refl) in
      let begun = follows_at_boot declared turn first lawful d good node number troupe own hosts home life.can.within there begun_ life.outputs life.boots in
      let f = follows_behind d good node number troupe own hosts home (trace.booted (effects_at_boot declared turn first d (Some own) node) life.outputs) booted (boot_acts declared turn first d own node) 0 events begun_ last
      begun (omega arith) life.rising others life.comes in
      run_left d good node number troupe own hosts home (trace_behind declared turn first d own node life.outputs events begun_) (past_behind declared turn events begun_) last kept f.goes.lives f.goes.numbers.distinct f.leaves at

  pub node_is_a_node_run : (d : Deployment) (own : M) (node number : ℕ) (troupe : Troupe) (events : Events) (begun_ last : NodeState M) (kept : MemberRecord) (life : IsLife declared turn first d own node events begun_ last)
      → All (λ (e : ℕ × Event). IsOfOther d node e.1) events → troupe_at d node ≡ Some number → slice_get d.troupes number ≡ Some troupe → member_record last.acting ≡ Some kept
      → IsNodeRun d (behaviour declared turn first own) node number troupe (trace_behind declared turn first d own node life.outputs events begun_) kept
  node_is_a_node_run d own node number troupe events begun_ last kept life others hosts there at =
      (is_run_of_node d own node number troupe events begun_ last kept life others hosts there at).run

module _ {M : Type 0} (declared : M → Signature) (turn : M → List ValueTree → ℕ → List ValueTree → List Outcome → NextTurn) (first : M → List ValueTree) where
  pub trace_has_the_events : (d : Deployment) (own : M) (node : ℕ) (events : Events) (begun_ last : NodeState M) (life : IsLife declared turn first d own node events begun_ last)
      → events_of (trace_behind declared turn first d own node life.outputs events begun_) ≡ events
  trace_has_the_events d own node events begun_ last life =
      events_along declared turn (trace.booted (effects_at_boot declared turn first d (Some own) node) life.outputs) events begun_ last life.comes
