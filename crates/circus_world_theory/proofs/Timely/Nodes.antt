-- A node by itself lives all that comes to it.
use Rattle.std.proofs.Common.{◌≡◌, ℕ, ◌<◌, ◌≤◌, true, false, List, [], ◌∷◌, Option, None, Some, Ok, Err, refl, sym, ap, subst, ◌∙◌, arith}
use Rattle.std.specs.Prelude.{slice_get, option_map, option_and_then}
use Rattle.circus_value.specs.Parts.{AreOctets}
use Rattle.circus_value.specs.declared.caller.Caller.{Caller}
use Rattle.circus_value.specs.ValueTree.{ValueTree}
use Rattle.circus_value.specs.declared.outcome.Outcome.{Outcome}
use Rattle.circus_segment.specs.Segment.{reading}
use Rattle.circus_collate.specs.Deployment.{IsDeployment}
use Rattle.circus_collate.specs.declared.deployment.Deployment.{Deployment}
use Rattle.circus_collate.specs.declared.deployment.Troupe.{Troupe}
use Rattle.circus_ring.specs.RingTable.{boot_views}
use Rattle.circus_model.specs.NextTurn.{NextTurn}
use Rattle.circus_model.specs.Behaviour.{IsModule}
use Rattle.circus_model.specs.declared.signature.Signature.{Signature}
use Rattle.circus_performing.specs.Record.{behaviour}
use Rattle.circus_wire.specs.Wire.{heard_from, after_datagram, sent_by_datagram, stopped_at}
use Rattle.circus_member_rules.specs.declared.occurrence.Occurrence.{Occurrence}
use Rattle.circus_member_rules.specs.declared.occurrence.Occurrence.TheVariants as occurs
use Rattle.circus_member_rules.specs.Happening.{IsHome}
use Rattle.circus_member_rules.specs.MemberState.{MemberState}
use Rattle.circus_node.specs.Accepting.{occurrence_of_heard, troupe_at}
use Rattle.circus_node.specs.declared.event.Event.{Event}
use Rattle.circus_node.specs.declared.event.Event.TheVariants as comes
use Rattle.circus_node.specs.declared.event.Give.{Give}
use Rattle.circus_node.specs.declared.event.Outputs.{Outputs}
use Rattle.circus_node.specs.Booting.{IsOfTroupe, home_in, home_of, made_at_boot, member_at_boot, fresh_wire}
use Rattle.circus_node.specs.Booting as booting
use Rattle.circus_node.specs.NodeState.{Acting, member, ringmaster, NodeState}
use Rattle.circus_node.specs.Making.{Made, hears, learns_down, is_told_to_join}
use Rattle.circus_node.specs.Sending.{Sending, sent, spent, gives_of, all_handed}
use Rattle.circus_node.specs.Step as node_step
use Rattle.circus_node.proofs.BootLemmas.{is_home}
use Rattle.circus_member_theory.proofs.Accepting.Can.{accepted_can}
use Rattle.circus_world_theory.specs.NodeActs.{wire_behind}
use Rattle.circus_member_theory.specs.Past.{Past, booted, now}
use Rattle.circus_world_theory.proofs.Stepping.{same_ended}
use Rattle.circus_world_theory.specs.Happened.{happens_by, with_one}
use Rattle.circus_world_theory.specs.InTime.{NodeIsInTime}
use Rattle.circus_world_theory.specs.NodeLives.{Events, Rising, IsOfBytes, Comes, with_rest, with_events, past_behind, IsLife}
use Rattle.circus_world_theory.proofs.Timely.Callers.{has_come, Keeps, ticked_keeps, stopped_keeps, datagram_keeps, all_handed_keeps, datagram_comes, caller_of, heard_of, Numbers, none_numbered, numbers_keep, numbers_more}
use Rattle.circus_world_theory.proofs.Timely.Lives.{MayHappenTo, MayHappen, acting_by, Lives, NodeLives, lives_at_boot, node_lives_on, lives_in_time}
use Rattle.circus_world_theory.proofs.Timely.Ranges.{accepted_range}
use Rattle.circus_world_theory.proofs.Timely.Wires.{AllGather, SendingGathers, fresh_gathers, ticked_gathers, stopped_gathers, datagram_gathers, all_handed_gathers, heard_octets}

-- ---- a node that has ended a step

module _ {M : Type 0} where
  -- it does what was made, is of the same program, and its pairs gather bytes if they did, and have
  -- the calls that have come
  pub record Concludes (n : NodeState M) (ended : NodeState M × Outputs) : Type 0 where
    pub deployment : ended.0.deployment ≡ n.deployment
    pub acting : ended.0.acting ≡ n.acting
    pub gathers : AllGather n.wire → AllGather ended.0.wire
    pub keeps : Keeps n.wire ended.0.wire

  pub concludes : (n : NodeState M) (gives : List Give) (m : Made M) (ended : NodeState M × Outputs) → node_step.conclude_step n gives m.came ≡ Ok ended → Concludes n ended
  concludes n gives m ended is = by_sending (all_handed (sent n.wire gives) m.came.effects) refl is
    where
      by_sending : (s : Sending) → all_handed (sent n.wire gives) m.came.effects ≡ s → node_step.end_step n m.came s ≡ Ok ended → Concludes n ended
      by_sending (sent w given) all ends =
          subst (λ (e : NodeState M × Outputs). Concludes n e) (same_ended _ ended ends)
          (record {
            deployment = refl;
            acting = refl;
            gathers = λ g. subst SendingGathers all (all_handed_gathers (sent n.wire gives) m.came.effects g);
            keeps = all_handed_keeps n.wire gives m.came.effects w given all;
          })
      by_sending (spent peer) all ends = absurd (let clash : ◌≡◌ {A = node_step.Ended M} (Err peer) (Ok ended) = ends in cc)

module _ {M : Type 0} (declared : M → Signature) (turn : M → List ValueTree → ℕ → List ValueTree → List Outcome → NextTurn) where
  -- behind an event it does what comes of that
  pub record EndsBy (step : ℕ) (event : Event) (n : NodeState M) (ended : NodeState M × Outputs) : Type 0 where
    pub deployment : ended.0.deployment ≡ n.deployment
    pub acting : ended.0.acting ≡ acting_by declared turn step event n
    pub gathers : IsOfBytes event → AllGather n.wire → AllGather ended.0.wire
    pub keeps : Keeps (wire_behind event n) ended.0.wire

  pub ends_by : (step : ℕ) (event : Event) (n : NodeState M) (ended : NodeState M × Outputs) → node_step.step_node declared turn step event n ≡ Ok ended → EndsBy step event n ended
  ends_by step (comes.Datagram from bytes) n ended is =
      let m = hears declared turn n.deployment step from (heard_from n.wire from (reading bytes)) n.acting in
      let c = concludes (record n { wire = after_datagram n.wire from (reading bytes); acting = m.acting })
      (gives_of (sent_by_datagram n.wire from (reading bytes))) m ended is in
      record { deployment = c.deployment; acting = c.acting; gathers = λ octets g. c.gathers (datagram_gathers n.wire from bytes octets g); keeps = c.keeps }
  ends_by step comes.Tick n ended is =
      subst (λ (e : NodeState M × Outputs). EndsBy step comes.Tick n e) (same_ended _ ended is)
      (record { deployment = refl; acting = refl; gathers = λ octets g. ticked_gathers n.wire g; keeps = λ caller has. has })
  ends_by step (comes.Down other) n ended is =
      let m = learns_down declared turn step other n.acting in
      let c = concludes (record n { wire = stopped_at n.wire other; acting = m.acting }) [] m ended is in
      record { deployment = c.deployment; acting = c.acting; gathers = λ octets g. c.gathers (stopped_gathers n.wire other g); keeps = c.keeps }
  ends_by step comes.Join n ended is =
      let m = is_told_to_join declared turn step n.acting in
      let c = concludes (record n { acting = m.acting }) [] m ended is in
      record { deployment = c.deployment; acting = c.acting; gathers = λ octets g. c.gathers g; keeps = c.keeps }

  -- ---- calls that come

  behind_keeps : (event : Event) (n : NodeState M) → Keeps n.wire (wire_behind event n)
  behind_keeps (comes.Datagram from bytes) n = datagram_keeps n.wire from bytes
  behind_keeps comes.Tick n = ticked_keeps n.wire
  behind_keeps (comes.Down other) n = stopped_keeps n.wire other
  behind_keeps comes.Join n = λ c has. has

  -- the caller of a call that is accepted has just come
  accepted_comes : (event : Event) (n : NodeState M) (o : Occurrence) (c : Caller) → happens_by declared event n ≡ Some o → caller_of o ≡ Some c
      → (has_come n.wire c ≡ false) × (has_come (wire_behind event n) c ≡ true)
  accepted_comes event n o c happens by = by_acting event n.acting happens
    where
      by_acting : (e : Event) (a : Acting M) → happens_by declared e (record n { acting = a }) ≡ Some o
          → (has_come n.wire c ≡ false) × (has_come (wire_behind e n) c ≡ true)
      by_acting (comes.Datagram from bytes) (member m) is =
          let h = heard_of n.deployment (declared m.performing.hosted) m from c o (heard_from n.wire from (reading bytes)) is by in
          datagram_comes n.wire from bytes c h.0 h.1
      by_acting comes.Tick (member m) is = absurd (let clash : ◌≡◌ {A = Option Occurrence} None (Some o) = is in cc)
      by_acting (comes.Down other) (member m) is =
          let same : occurs.Declared other ≡ o = cc in
          absurd (let clash : ◌≡◌ {A = Option Caller} None (Some c) = ap caller_of same ∙ by in cc)
      by_acting comes.Join (member m) is =
          let same : occurs.Joins ≡ o = cc in
          absurd (let clash : ◌≡◌ {A = Option Caller} None (Some c) = ap caller_of same ∙ by in cc)
      by_acting e (ringmaster kept) is = absurd (let clash : ◌≡◌ {A = Option Occurrence} None (Some o) = is in cc)

  pub numbers_on : (p : Past) (step : ℕ) (event : Event) (n : NodeState M) (ended : NodeState M × Outputs) → EndsBy step event n ended → Numbers n.wire p
      → Numbers ended.0.wire (with_one p step (happens_by declared event n))
  numbers_on p step event n ended e h = by_occurrence (happens_by declared event n) refl
    where
      keeps : Keeps n.wire ended.0.wire
      keeps = λ c has. e.keeps c (behind_keeps event n c has)

      by_occurrence : (o : Option Occurrence) → happens_by declared event n ≡ o → Numbers ended.0.wire (with_one p step o)
      by_occurrence None is = numbers_keep n.wire ended.0.wire p keeps h
      by_occurrence (Some o) is =
          numbers_more n.wire ended.0.wire p step keeps h o
          (λ c by. let just = accepted_comes event n o c is by in (just.0, e.keeps c just.1))

  numbers_behind : (p : Past) (events : Events) (n last : NodeState M) → Numbers n.wire p → Comes declared turn events n last → Numbers last.wire (with_events declared turn p events n)
  numbers_behind p [] n last h come = subst (λ (x : NodeState M). Numbers x.wire p) (sym come) h
  numbers_behind p (next ∷ events) n last h come =
      let q = with_one p next.0 (happens_by declared next.1 n) in
      subst (λ (e : node_step.Ended M). Numbers last.wire (with_rest declared turn (with_events declared turn q events) p e)) (sym come.2)
      (numbers_behind q events come.0.0 last (numbers_on p next.0 next.1 n come.0 (ends_by next.0 next.1 n come.0 come.2) h) come.3)

  -- so it is with all that comes to a node
  pub life_numbers : (first : M → List ValueTree) (d : Deployment) (own : M) (node : ℕ) (events : Events) (begun last : NodeState M)
      → IsLife declared turn first d own node events begun last → Numbers last.wire (past_behind declared turn events begun)
  life_numbers first d own node events begun last life = numbers_behind booted events begun last (none_numbered begun.wire) life.comes

module _ {M : Type 0} (declared : M → Signature) (turn : M → List ValueTree → ℕ → List ValueTree → List Outcome → NextTurn) (first : M → List ValueTree)
    (lawful : (hosted : M) → IsModule (behaviour declared turn first hosted)) (d : Deployment) (node number : ℕ) (troupe : Troupe) (own : M) where
  abbrev IsAlive : Past → Acting M → Type 0
  IsAlive p a = NodeLives declared turn first lawful d node number troupe own p a

  -- ---- boot

  pub at_home : troupe_at d node ≡ Some number → slice_get d.troupes number ≡ Some troupe → IsDeployment d → IsOfTroupe d number (declared own)
      → IsHome (declared own) (home_in d node number troupe).place (boot_views d.troupes)
  at_home hosts there good fits = is_home d node (home_in d node number troupe) (declared own) good (home_is hosts there) fits
    where
      home_is : troupe_at d node ≡ Some number → slice_get d.troupes number ≡ Some troupe → home_of d node ≡ Some (home_in d node number troupe)
      home_is h t = ap (option_and_then (λ n. option_map (home_in d node n) (slice_get d.troupes n))) h ∙ ap (option_map (home_in d node number)) t

  pub record HasBegun (ended : NodeState M × Outputs) : Type 0 where
    pub deployment : ended.0.deployment ≡ d
    pub gathers : AllGather ended.0.wire
    pub lives : IsAlive booted ended.0.acting

  pub has_begun : (ended : NodeState M × Outputs) → troupe_at d node ≡ Some number → slice_get d.troupes number ≡ Some troupe
      → IsHome (declared own) (home_in d node number troupe).place (boot_views d.troupes) → booting.boot_node declared turn first d (Some own) node ≡ Ok ended → HasBegun ended
  has_begun ended hosts there home is =
      let home_is = ap (option_and_then (λ n. option_map (home_in d node n) (slice_get d.troupes n))) hosts ∙ ap (option_map (home_in d node number)) there in
      let m = made_at_boot declared turn first d (home_of d node) (Some own) in
      let c = concludes (record { deployment = d; wire = fresh_wire d node; acting = m.acting; dropped = 0 }) [] m ended is in
      record {
        deployment = c.deployment;
        gathers = c.gathers (fresh_gathers d node);
        lives = subst (IsAlive booted) (sym c.acting)
            (subst (λ h. IsAlive booted (made_at_boot declared turn first d h (Some own)).acting) (sym home_is)
            (lives_at_boot declared turn first lawful d node number troupe own home));
      }

  -- ---- a step

  pub record Goes (p : Past) (n : NodeState M) : Type 0 where
    pub deployment : n.deployment ≡ d
    pub gathers : AllGather n.wire
    pub lives : IsAlive p n.acting

  may_accept : (p : Past) (from : ℕ) (bytes : List ℕ) (n : NodeState M) (m : MemberState M) → AreOctets bytes → n.deployment ≡ d → AllGather n.wire
      → Lives declared turn first lawful d node number troupe own p m
      → MayHappenTo declared m (occurrence_of_heard n.deployment (declared m.performing.hosted) m from (heard_from n.wire from (reading bytes)))
  may_accept p from bytes n m octets same gathers l =
      let h = heard_from n.wire from (reading bytes) in
      subst (λ (x : Deployment). MayHappenTo declared m (occurrence_of_heard x (declared m.performing.hosted) m from h)) (sym same)
      (by_accepted (occurrence_of_heard d (declared m.performing.hosted) m from h) refl)
    where
      by_accepted : (o : Option Occurrence) → occurrence_of_heard d (declared m.performing.hosted) m from (heard_from n.wire from (reading bytes)) ≡ o → MayHappenTo declared m o
      by_accepted None is = tt
      by_accepted (Some o) is =
          let h = heard_from n.wire from (reading bytes) in
          let heard = heard_octets n.wire from bytes octets gathers in
          (accepted_can d (declared m.performing.hosted) m l.of from h o heard is, accepted_range d (declared m.performing.hosted) m from h o heard is)

  pub may_happen : (p : Past) (event : Event) (n : NodeState M) → IsOfBytes event → Goes p n → MayHappen declared n.acting (happens_by declared event n)
  may_happen p event n octets h = by_acting event n.acting octets h.lives
    where
      by_acting : (e : Event) (a : Acting M) → IsOfBytes e → IsAlive p a → MayHappen declared a (happens_by declared e (record n { acting = a }))
      by_acting (comes.Datagram from bytes) (member m) o l = may_accept p from bytes n m o h.deployment h.gathers l
      by_acting comes.Tick (member m) o l = tt
      by_acting (comes.Down other) (member m) o l = (tt, tt)
      by_acting comes.Join (member m) o l = (tt, tt)
      by_acting e (ringmaster kept) o l = absurd l

  pub goes_on : (p : Past) (step : ℕ) (event : Event) (n : NodeState M) (ended : NodeState M × Outputs) → now p < step → IsOfBytes event → Goes p n
      → node_step.step_node declared turn step event n ≡ Ok ended → Goes (with_one p step (happens_by declared event n)) ended.0
  goes_on p step event n ended later octets h is =
      let e = ends_by declared turn step event n ended is in
      record {
        deployment = e.deployment ∙ h.deployment;
        gathers = e.gathers octets h.gathers;
        lives = subst (IsAlive (with_one p step (happens_by declared event n))) (sym e.acting)
            (node_lives_on declared turn first lawful d node number troupe own p step later event n h.lives (may_happen p event n octets h));
      }

  -- ---- all that comes

  pub goes_behind : (p : Past) (at : ℕ) (events : Events) (n last : NodeState M) → now p ≤ at → Rising at events → Goes p n → Comes declared turn events n last
      → Goes (with_events declared turn p events n) last
  goes_behind p at [] n last before rising h come = subst (λ (x : NodeState M). Goes p x) (sym come) h
  goes_behind p at (next ∷ events) n last before rising h come =
      let later : now p < next.0 = omega (arith, before, rising.0) in
      let q = with_one p next.0 (happens_by declared next.1 n) in
      subst (λ (e : node_step.Ended M). Goes (with_rest declared turn (with_events declared turn q events) p e) last) (sym come.2)
      (goes_behind q next.0 events come.0.0 last (no_later (happens_by declared next.1 n) later) rising.1 (goes_on p next.0 next.1 n come.0 later come.1 h come.2) come.3)
    where
      no_later : (o : Option Occurrence) → now p < next.0 → now (with_one p next.0 o) ≤ next.0
      no_later None later = omega (arith, later)
      no_later (Some o) later = omega arith

  -- a node that boots, and to which these events come, goes
  module _ (events : Events) (begun last : NodeState M) (life : IsLife declared turn first d own node events begun last) (hosts : troupe_at d node ≡ Some number)
      (there : slice_get d.troupes number ≡ Some troupe) (home : IsHome (declared own) (home_in d node number troupe).place (boot_views d.troupes)) where
    pub goes_begun : Goes booted begun
    goes_begun =
        let b = has_begun (begun, life.outputs) hosts there home life.boots in
        record { deployment = b.deployment; gathers = b.gathers; lives = b.lives }

    pub life_goes : Goes (past_behind declared turn events begun) last
    life_goes = goes_behind booted 0 events begun last (omega arith) life.rising goes_begun life.comes

module _ {M : Type 0} (declared : M → Signature) (turn : M → List ValueTree → ℕ → List ValueTree → List Outcome → NextTurn) (first : M → List ValueTree)
    (lawful : (hosted : M) → IsModule (behaviour declared turn first hosted)) where
  pub node_records_are_timely : (d : Deployment) (own : M) (node : ℕ) (events : Events) (begun last : NodeState M) → IsLife declared turn first d own node events begun last
      → NodeIsInTime declared turn d own node events begun last
  node_records_are_timely d own node events begun last life number troupe kept hosts there is =
      let home = at_home declared turn first lawful d node number troupe own hosts there life.can.deployment (life.can.fits number (declared own) hosts refl) in
      lives_in_time declared turn first lawful d node number troupe own home (past_behind declared turn events begun) last.acting kept
      (life_goes declared turn first lawful d node number troupe own events begun last life hosts there home).lives is
