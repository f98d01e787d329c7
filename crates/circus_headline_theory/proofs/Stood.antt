-- A node that stands for a trace leaves it, and this is a run; so it is with the step in which no number is left to it.
use Rattle.std.proofs.Common.{◌≡◌, ℕ, ◌<◌, ◌≤◌, List, [], ◌∷◌, ◌++◌, Some, Err, refl, sym, ap, subst, ◌∙◌, arith, append_assoc}
use Rattle.std.specs.Prelude.{slice_get}
use Rattle.circus_value.specs.ValueTree.{ValueTree}
use Rattle.circus_value.specs.declared.outcome.Outcome.{Outcome}
use Rattle.circus_collate.specs.Deployment.{IsDeployment}
use Rattle.circus_collate.specs.declared.deployment.Deployment.{Deployment}
use Rattle.circus_collate.specs.declared.deployment.Troupe.{Troupe}
use Rattle.circus_ring.specs.RingTable.{boot_views}
use Rattle.circus_model.specs.Behaviour.{Behaviour, IsModule}
use Rattle.circus_model.specs.NextTurn.{NextTurn}
use Rattle.circus_model.specs.declared.signature.Signature.{Signature}
use Rattle.circus_record.specs.declared.record.MemberRecord.{MemberRecord}
use Rattle.circus_performing.specs.Record.{behaviour}
use Rattle.circus_wire.specs.WireActs.{WireActs, begun, made_to}
use Rattle.circus_member_rules.specs.declared.occurrence.Effect.{Effect}
use Rattle.circus_member_rules.specs.declared.occurrence.Purpose.{Purpose}
use Rattle.circus_member_rules.specs.Happening.{IsHome}
use Rattle.circus_node.specs.Accepting.{troupe_at}
use Rattle.circus_node.specs.Booting.{CanBoot, home_of, home_in, made_at_boot, fresh_wire}
use Rattle.circus_node.specs.Booting as booting
use Rattle.circus_node.specs.NodeState.{Acting, NodeState, member_record}
use Rattle.circus_node.specs.Step as node_step
use Rattle.circus_node.specs.Trace as trace
use Rattle.circus_node.specs.Trace.{Trace, StandsFor}
use Rattle.circus_node.specs.declared.event.Event.{Event}
use Rattle.circus_node.specs.declared.event.Outputs.{Outputs}
use Rattle.circus_world_theory.specs.Happened.{happens_by, with_one}
use Rattle.circus_world_theory.specs.Histories.{beginning_of}
use Rattle.circus_world_theory.specs.NodeActs.{with_all, came_by, acts_in}
use Rattle.circus_world_theory.specs.NodeLives.{Events, IsOfBytes}
use Rattle.circus_world_theory.proofs.Timely.Lines.{now_one}
use Rattle.circus_world_theory.proofs.Timely.Lives.{NodeLives}
use Rattle.circus_world_theory.proofs.Timely.Nodes.{at_home}
use Rattle.circus_member_theory.specs.Made.{AreDistinct}
use Rattle.circus_member_theory.specs.Past.{Past, booted, now}
use Rattle.circus_headline_theory.specs.Datagrams.Lives.{IsOfOther, boot_acts}
use Rattle.circus_headline_theory.specs.Owed.Makes.{differences_in}
use Rattle.circus_headline_theory.specs.Trace as traces
use Rattle.circus_headline_theory.specs.Trace.{events_of, Rises, ComesFromOthers, acts_in_step, acts_of, gives_for_all, suspects_in}
use Rattle.circus_headline_theory.specs.Numbers.{HasNumbers}
use Rattle.circus_headline_theory.specs.NodeRun.{IsNodeRun}
use Rattle.circus_headline_theory.proofs.Course.{is_life, Leaves, Follows, next_past, next_acting, lives_next, distinct_next, leaves_on, follows_on, spends_on, made_first, lives_first, leaves_first, follows_at_boot, spends_first}
use Rattle.circus_headline_theory.proofs.OneRun.{numbers_before}
use Rattle.circus_headline_theory.proofs.Sends.{numbers_stand}
use Rattle.circus_headline_theory.proofs.Theorem.{IsRunOfNode, run_left}

module _ {M : Type 0} (declared : M → Signature) (turn : M → List ValueTree → ℕ → List ValueTree → List Outcome → NextTurn) (first : M → List ValueTree) (d : Deployment) (own : M) (node : ℕ)
    (lawful : (m : M) → IsModule (behaviour declared turn first m)) (can : CanBoot d node (Some (declared own))) (number : ℕ) (troupe : Troupe)
    (hosts : troupe_at d node ≡ Some number) (there : slice_get d.troupes number ≡ Some troupe) where
  abbrev b : Behaviour
  b = behaviour declared turn first own

  abbrev good : IsDeployment d
  good = can.deployment

  home : IsHome (declared own) (home_in d node number troupe).place (boot_views d.troupes)
  home = at_home declared turn first lawful d node number troupe own hosts there good (can.fits number (declared own) hosts refl)

  abbrev FollowsSo : Trace → Past → WireActs Purpose → NodeState M → Type 0
  FollowsSo t p acts n = Follows declared turn first lawful d good node number troupe own hosts home t p acts n

  -- ---- a node that stands for a trace

  record FollowsIt (t : Trace) (n : NodeState M) : Type 0 where
    past_is : Past
    acts : WireActs Purpose
    before : now past_is ≤ traces.now t
    follows : FollowsSo t past_is acts n

  follows_it : (t : Trace) (n : NodeState M) → StandsFor declared turn first d (Some own) node t n → Rises t → ComesFromOthers d node t → FollowsIt t n
  follows_it (trace.booted made outputs) n stands rises others =
      subst (λ l. FollowsIt (trace.booted l outputs) n) (sym stands.1)
      (record {
        past_is = booted;
        acts = boot_acts declared turn first d own node;
        before = omega arith;
        follows = follows_at_boot declared turn first lawful d good node number troupe own hosts home can.within there n outputs stands.0;
      })
  follows_it (trace.stepped t at event made outputs) n stands rises others =
      let h = follows_it t stands.0 stands.1 rises.0 others.0 in
      let later : now h.past_is < at = (let low = h.before in let rise = rises.1 in omega (arith, low, rise)) in
      subst (λ l. FollowsIt (trace.stepped t at event l outputs) n) (sym stands.3)
      (record {
        past_is = with_one h.past_is at (happens_by declared event stands.0);
        acts = with_all h.acts (acts_in declared turn at event stands.0);
        before = now_one h.past_is at (happens_by declared event stands.0) (omega (arith, later));
        follows = follows_on declared turn first lawful d good node number troupe own hosts home t h.past_is h.acts stands.0 h.follows at event later others.2 others.1 (n, outputs) stands.2;
      })

  -- a core is one behind its trace
  pub is_run_of_core : (t : Trace) (n : NodeState M) (kept : MemberRecord) → StandsFor declared turn first d (Some own) node t n → Rises t → ComesFromOthers d node t
      → member_record n.acting ≡ Some kept → IsRunOfNode d b node number troupe t n kept
  is_run_of_core t n kept stands rises others at =
      let h = follows_it t n stands rises others in
      let f = h.follows in
      run_left declared turn first lawful d good node number troupe own hosts home t h.past_is n kept f.goes.lives f.goes.numbers.distinct f.leaves at

  -- and each of its calls has a number
  pub core_has_numbers : (t : Trace) (n : NodeState M) → StandsFor declared turn first d (Some own) node t n → Rises t → ComesFromOthers d node t → HasNumbers d node t
  core_has_numbers t n stands rises others to =
      let h = follows_it t n stands rises others in
      let f = h.follows in
      let few = numbers_stand (beginning_of d node) h.acts n.wire (omega arith) f.goes.stands f.of_peers to in
      let same = ap (made_to to) f.acts_are in
      omega (arith, few, same)

  -- ---- no number is left: the trace as it would be, were there one, is a run in which one call has none

  -- there is a run with these events in which a call has no number
  record RunsOut (events : Events) : Type 0 where
    lived : Trace
    kept : MemberRecord
    run : IsNodeRun d b node number troupe lived kept
    events_are : events_of lived ≡ events
    out : HasNumbers d node lived → ⊥

  -- so there is no run with them and with others behind them in which each has one
  none_has : (events later : Events) → RunsOut events → (lived : Trace) (kept : MemberRecord) → IsNodeRun d b node number troupe lived kept → Rises lived → events_of lived ≡ events ++ later
      → HasNumbers d node lived → ⊥
  none_has events later r lived kept run rises are numbers =
      r.out (numbers_before d b node number troupe lived r.lived kept r.kept run r.run rises later (are ∙ ap (λ l. l ++ later) (sym r.events_are)) numbers)

  boots_out : (peer : ℕ) → booting.boot_node declared turn first d (Some own) node ≡ Err peer → RunsOut []
  boots_out peer ends = record {
    lived = trace.booted made_so outputs;
    kept = _;
    run = (run_left declared turn first lawful d good node number troupe own hosts home (trace.booted made_so outputs) booted n _ alive tt
        (leaves_first declared turn first lawful d good node number troupe own hosts home can.within there outputs (record { gives = refl; suspects = refl; differences = refl }))
        (ap member_record (is_life declared turn first lawful d good node number troupe own hosts home booted n.acting alive))).run;
    events_are = refl;
    out = spends_first declared turn first lawful d good node number troupe own hosts home can.within there outputs peer ends;
  }
    where
      made_so : List Effect
      made_so = made_first declared turn first lawful d good node number troupe own hosts home can.within there

      outputs : Outputs
      outputs = record { gives = gives_for_all (beginning_of d node) begun (acts_in_step (beginning_of d node) begun [] made_so); suspects = []; differences = [] }

      n : NodeState M
      n = record { deployment = d; wire = fresh_wire d node; acting = (made_at_boot declared turn first d (home_of d node) (Some own)).acting; dropped = 0 }

      alive : NodeLives declared turn first lawful d node number troupe own booted n.acting
      alive = lives_first declared turn first lawful d good node number troupe own hosts home can.within there

  steps_out : (t : Trace) (n : NodeState M) (at : ℕ) (event : Event) (peer : ℕ) → StandsFor declared turn first d (Some own) node t n → Rises t → ComesFromOthers d node t
      → traces.now t < at → IsOfOther d node event → IsOfBytes event → node_step.step_node declared turn at event n ≡ Err peer → RunsOut (events_of t ++ (at, event) ∷ [])
  steps_out t n at event peer stands rises others rise other octets ends = record {
    lived = grown;
    kept = _;
    run = (run_left declared turn first lawful d good node number troupe own hosts home grown p (record n { acting = acting }) _ alive distinct leaves
        (ap member_record (is_life declared turn first lawful d good node number troupe own hosts home p acting alive))).run;
    events_are = refl;
    out = spends_on declared turn first lawful d good node number troupe own hosts home t h.past_is h.acts n f at event later octets other outputs peer ends;
  }
    where
      h : FollowsIt t n
      h = follows_it t n stands rises others

      f : FollowsSo t h.past_is h.acts n
      f = h.follows

      later : now h.past_is < at
      later = (let low = h.before in omega (arith, low, rise))

      made : List Effect
      made = trace.effects_in declared turn at event n

      outputs : Outputs
      outputs = record {
        gives = gives_for_all (beginning_of d node) (acts_of (beginning_of d node) t) (acts_in_step (beginning_of d node) (acts_of (beginning_of d node) t) (came_by event) made);
        suspects = suspects_in (beginning_of d node) (acts_of (beginning_of d node) t) event;
        differences = differences_in declared turn at event n;
      }

      grown : Trace
      grown = trace.stepped t at event made outputs

      p : Past
      p = next_past declared turn first lawful d good node number troupe own hosts home t h.past_is h.acts n f at event later octets other

      acting : Acting M
      acting = next_acting declared turn first lawful d good node number troupe own hosts home t h.past_is h.acts n f at event later octets other

      alive : NodeLives declared turn first lawful d node number troupe own p acting
      alive = lives_next declared turn first lawful d good node number troupe own hosts home t h.past_is h.acts n f at event later octets other

      distinct : AreDistinct p
      distinct = distinct_next declared turn first lawful d good node number troupe own hosts home t h.past_is h.acts n f at event later octets other

      leaves : Leaves declared turn first lawful d good node number troupe own hosts home grown p
      leaves = leaves_on declared turn first lawful d good node number troupe own hosts home t h.past_is h.acts n f at event later octets other outputs (record { gives = refl; suspects = refl; differences = refl })

  pub none_from_boot : (peer : ℕ) → booting.boot_node declared turn first d (Some own) node ≡ Err peer → (lived : Trace) (kept : MemberRecord) → IsNodeRun d b node number troupe lived kept → Rises lived
      → HasNumbers d node lived → ⊥
  none_from_boot peer ends lived kept run rises numbers = none_has [] (events_of lived) (boots_out peer ends) lived kept run rises refl numbers

  pub none_from_step : (t : Trace) (n : NodeState M) (at : ℕ) (event : Event) (peer : ℕ) → StandsFor declared turn first d (Some own) node t n → Rises t → ComesFromOthers d node t
      → traces.now t < at → IsOfOther d node event → IsOfBytes event → node_step.step_node declared turn at event n ≡ Err peer
      → (later : Events) (lived : Trace) (kept : MemberRecord) → IsNodeRun d b node number troupe lived kept → Rises lived → events_of lived ≡ events_of t ++ (at, event) ∷ later
      → HasNumbers d node lived → ⊥
  none_from_step t n at event peer stands rises others rise other octets ends later lived kept run lived_rises are numbers =
      none_has (events_of t ++ (at, event) ∷ []) later (steps_out t n at event peer stands rises others rise other octets ends) lived kept run lived_rises
      (are ∙ sym (append_assoc (events_of t) ((at, event) ∷ []) later)) numbers
