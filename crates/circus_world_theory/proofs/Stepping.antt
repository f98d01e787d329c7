-- What is true of the nodes of a world, and of what they have handed over, stays true where something truly comes to one.
use Rattle.std.proofs.Common.{◌≡◌, ◌≢◌, ℕ, ◌+◌, ◌<◌, ◌≤◌, inl, inr, List, [], ◌++◌, length, map, set, All, Option, None, Some, Ok, Err, refl, sym, ap, subst, ◌∙◌, arith}
use Rattle.std.specs.Prelude.{slice_get, option_and_then}
use Rattle.std.specs.Option.{option_map_or}
use Rattle.std.proofs.lemmas.Bool.Decides.{eqb_tells}
use Rattle.std.proofs.lemmas.List.Elements.{All-nil, All-weaker}
use Rattle.std.proofs.lemmas.Option.{same_Some}
use Rattle.circus_value.specs.ValueTree.{ValueTree}
use Rattle.circus_value.specs.declared.caller.Caller.{Caller}
use Rattle.circus_value.specs.declared.outcome.Outcome.{Outcome}
use Rattle.circus_segment.specs.Segment.{reading}
use Rattle.circus_collate.specs.Deployment.{IsDeployment}
use Rattle.circus_collate.specs.declared.deployment.Deployment.{Deployment}
use Rattle.circus_collate.specs.declared.deployment.Host.{Host}
use Rattle.circus_model.specs.NextTurn.{NextTurn}
use Rattle.circus_model.specs.Behaviour.{Behaviour, IsModule}
use Rattle.circus_model.specs.Agree.{AreModules, Agree}
use Rattle.circus_model.specs.declared.signature.Signature.{Signature}
use Rattle.circus_performing.specs.Record.{behaviour}
use Rattle.circus_exchange.specs.Exchange.{start}
use Rattle.circus_pair.specs.Handed.{call_at, return_at}
use Rattle.circus_wire.specs.declared.delivery.Heard.{Heard}
use Rattle.circus_wire.specs.declared.delivery.Heard.TheVariants as heard
use Rattle.circus_wire.specs.Wire.{heard_from, after_datagram, sent_by_datagram, stopped_at}
use Rattle.circus_wire.specs.WireActs.{WireAct, WireActs, acts_at, purpose_of}
use Rattle.circus_wire.specs.WireStanding.{pair_of}
use Rattle.circus_member_rules.specs.declared.occurrence.Purpose.{Purpose}
use Rattle.circus_member_rules.specs.declared.occurrence.Effect.{Effect}
use Rattle.circus_member_rules.specs.declared.occurrence.Effect.TheVariants as made
use Rattle.circus_node.specs.Accepting.{troupe_at}
use Rattle.circus_node.specs.declared.event.Event.{Event}
use Rattle.circus_node.specs.declared.event.Event.TheVariants as comes
use Rattle.circus_node.specs.declared.event.Give.{Give}
use Rattle.circus_node.specs.declared.event.Outputs.{Outputs}
use Rattle.circus_node.specs.NodeState.{NodeState, Acting}
use Rattle.circus_node.specs.Making.{Made, hears, learns_down, is_told_to_join}
use Rattle.circus_node.specs.Sending.{Sending, sent, spent, gives_of, all_handed}
use Rattle.circus_node.specs.Step as node_step
use Rattle.circus_world.specs.WorldState.{WorldState, Standing}
use Rattle.circus_world.specs.Course.{Stepped, conclude_step, comes_to}
use Rattle.circus_world.specs.Course as course
use Rattle.circus_world.proofs.SlotLemmas.{get_set, get_there}
use Rattle.circus_world_theory.specs.Histories.{beginning_of}
use Rattle.circus_world_theory.specs.NodeActs.{with_all, wire_behind, acts_in}
use Rattle.circus_node.specs.Trace.{effects_in}
use Rattle.circus_world_theory.proofs.Worlds.{at_pair}
use Rattle.circus_member_rules.specs.Proper.{AreProper}
use Rattle.circus_world_theory.proofs.Handing.{IsMade, calls_stay, step_said}
use Rattle.circus_world_theory.proofs.Making.{MayHaveModule, HeardSo, hears_true, learns_true, joins_true}
use Rattle.circus_world_theory.proofs.Saying.{AllSaid, all_said_weaker, call_said, purpose_said, return_said}
use Rattle.circus_world_theory.proofs.True.{CallSo, ReturnSo, EffectSo, ActsTrue, MakesTrue, call_so_grows, return_so_grows, acts_grow}

-- ---- a deployment

-- the troupe of a node has a module, where there is one for each troupe
pub has_module : (program : List Behaviour) (d : Deployment) (node : ℕ) → IsDeployment d → length program ≡ length d.troupes → MayHaveModule program (troupe_at d node)
has_module program d node good all = by_host (slice_get d.nodes node) refl
  where
    by_troupe : (h : Host) (o : Option ℕ) → slice_get d.nodes node ≡ Some h → h.module ≡ o → MayHaveModule program o
    by_troupe h None at is = tt
    by_troupe h (Some troupe) at is =
        let below : troupe < length d.troupes = (good.nodes node h at).hosted troupe is in
        let few : length d.troupes ≤ 32 = good.few_troupes in
        let found = get_there program troupe (omega (arith, below, all)) in
        record { few = omega (arith, below, few); behaves = found.0; there = found.1 }

    by_host : (o : Option Host) → slice_get d.nodes node ≡ o → MayHaveModule program (option_and_then (λ (h : Host). h.module) o)
    by_host None at = tt
    by_host (Some h) at = by_troupe h h.module at refl

-- ---- what has been handed over

-- the call of a caller to a node was this message
abbrev pub CalledAt : Deployment → (ℕ → WireActs Purpose) → ℕ → Caller → List ℕ → Type 0
CalledAt d acts node caller message = call_at 0 (at_pair d acts caller.node node) caller.number ≡ Some message

-- what a node has handed over is true
abbrev pub SaysTrue : List Behaviour → Deployment → (ℕ → WireActs Purpose) → ℕ → Type 0
SaysTrue program d acts node =
    AllSaid (CallSo program (CalledAt d acts node) (troupe_at d node)) (ReturnSo program (CalledAt d acts node) (troupe_at d node)) (acts node)

-- what arrives by a datagram of a node was handed over
abbrev pub HeardAt : Deployment → (ℕ → WireActs Purpose) → ℕ → ℕ → Heard Purpose → Type 0
HeardAt d acts node from heard.Dropped = Unit {0}
HeardAt d acts node from heard.Taken = Unit {0}
HeardAt d acts node from (heard.Called sender message) = (sender.node ≡ from) × (call_at 0 (at_pair d acts from node) sender.number ≡ Some message)
HeardAt d acts node from (heard.Returned number purpose message) =
    (return_at (at_pair d acts from node) number ≡ Some message) × (purpose_of (pair_of (beginning_of d node)) from (acts node) number ≡ Some purpose)

-- so it is true
module _ (program : List Behaviour) (d : Deployment) (acts : ℕ → WireActs Purpose) (said : (node : ℕ) → SaysTrue program d acts node) (node from : ℕ) where
  abbrev OwnCall : Purpose → List ℕ → Type 0
  OwnCall = CallSo program (CalledAt d acts node) (troupe_at d node)

  abbrev OwnReturn : Caller → List ℕ → Type 0
  OwnReturn = ReturnSo program (CalledAt d acts node) (troupe_at d node)

  abbrev TheirCall : Purpose → List ℕ → Type 0
  TheirCall = CallSo program (CalledAt d acts from) (troupe_at d from)

  abbrev TheirReturn : Caller → List ℕ → Type 0
  TheirReturn = ReturnSo program (CalledAt d acts from) (troupe_at d from)

  pub heard_so : (h : Heard Purpose) → HeardAt d acts node from h → HeardSo program (CalledAt d acts node) (CalledAt d acts from) (troupe_at d node) (troupe_at d from) h
  heard_so heard.Dropped at = tt
  heard_so heard.Taken at = tt
  heard_so (heard.Called sender message) at =
      let c = call_said TheirCall TheirReturn (beginning_of d from) (acts from) node sender.number message (said from) at.1 in
      let same : c.message ≡ message = same_Some c.message message (sym c.message_is ∙ at.1) in
      (subst (λ k. call_at 0 (at_pair d acts k node) sender.number ≡ Some message) (sym at.0) at.1, (c.purpose, subst (λ m. TheirCall c.purpose m) same c.so))
  heard_so (heard.Returned number purpose message) at =
      let c = purpose_said OwnCall OwnReturn (beginning_of d node) (acts node) from number purpose (said node) at.1 in
      let same : c.purpose ≡ purpose = same_Some c.purpose purpose (sym c.purpose_is ∙ at.1) in
      let caller : Caller = record { node = node; number = number } in
      let r = return_said TheirCall TheirReturn (beginning_of d from) (acts from) node number message (said from) at.0 in (
        c.message,
        caller,
        subst (λ p. OwnCall p c.message) same c.so,
        return_so_grows program (CalledAt d acts from) (λ _ other. other ≡ c.message) (troupe_at d from) caller message (λ l is. same_Some l c.message (sym is ∙ c.message_is)) r,
      )

-- ---- a world

pub same_ended : {M : Type 0} (a b : NodeState M × Outputs) → ◌≡◌ {A = node_step.Ended M} (Ok a) (Ok b) → a ≡ b
same_ended a b is = cc

pub same_world : {M : Type 0} (a b : WorldState M) → ◌≡◌ {A = Stepped M} (Ok a) (Ok b) → a ≡ b
same_world a b is = cc

-- what comes to a node that stands in a world is a step of this node
pub comes_is : {M : Type 0} (declared : M → Signature) (turn : M → List ValueTree → ℕ → List ValueTree → List Outcome → NextTurn)
    (w : WorldState M) (node : ℕ) (event : Event) (s : Standing M) → slice_get w.nodes node ≡ Some s
    → comes_to declared turn node event w ≡ conclude_step node s w (node_step.step_node declared turn (w.steps + 1) event s.node)
comes_is {M} declared turn w node event s at =
    ap (λ (o : Option (Standing M)). option_map_or (λ (t : Standing M). conclude_step node t w (node_step.step_node declared turn (w.steps + 1) event t.node)) o (Ok w)) at

module _ {M : Type 0} (declared : M → Signature) (turn : M → List ValueTree → ℕ → List ValueTree → List Outcome → NextTurn) (first : M → List ValueTree)
    (program : List Behaviour) (d : Deployment) where
  -- each node is true, and so is what it has handed over
  pub record NodesTrue (acts : ℕ → WireActs Purpose) (w : WorldState M) : Type 0 where
    pub deployment : w.deployment ≡ d
    pub nodes : (node : ℕ) (s : Standing M) → slice_get w.nodes node ≡ Some s → ActsTrue declared turn first program d (CalledAt d acts node) (troupe_at d node) s.node.acting
    pub said : (node : ℕ) → SaysTrue program d acts node

  -- a node that has ended a step is true, what it makes in it is true, and no replies differ
  pub record EndsTrue (Called : Caller → List ℕ → Type 0) (own : Option ℕ) (made : List Effect) (ended : NodeState M × Outputs) : Type 0 where
    pub acting : ActsTrue declared turn first program d Called own ended.0.acting
    pub effects : All (EffectSo program Called own) made
    pub differences : ended.1.differences ≡ []

  module _ (Called : Caller → List ℕ → Type 0) (own : Option ℕ) where
    sent_ends : (n : NodeState M) (m : Made M) (s : Sending) (ended : NodeState M × Outputs) → MakesTrue declared turn first program d Called own m → n.acting ≡ m.acting
        → node_step.end_step n m.came s ≡ Ok ended → EndsTrue Called own m.came.effects ended
    sent_ends n m (sent w gives) ended makes acting is =
        subst (λ (e : NodeState M × Outputs). EndsTrue Called own m.came.effects e) (same_ended _ ended is)
        (record { acting = subst (λ (a : Acting M). ActsTrue declared turn first program d Called own a) (sym acting) makes.acting; effects = makes.effects; differences = makes.differences })
    sent_ends n m (spent node) ended makes acting is = absurd (let clash : ◌≡◌ {A = node_step.Ended M} (Err node) (Ok ended) = is in cc)

    pub concluded_ends : (n : NodeState M) (gives : List Give) (m : Made M) (ended : NodeState M × Outputs) → MakesTrue declared turn first program d Called own m
        → n.acting ≡ m.acting
        → node_step.conclude_step n gives m.came ≡ Ok ended → EndsTrue Called own m.came.effects ended
    concluded_ends n gives m ended makes acting is = sent_ends n m (all_handed (sent n.wire gives) m.came.effects) ended makes acting is

-- what comes to a node truly comes to it
abbrev pub ComesTruly : {M : Type 0} → Deployment → (ℕ → WireActs Purpose) → ℕ → Event → NodeState M → Type 0
ComesTruly d acts node (comes.Datagram from bytes) n = HeardAt d acts node from (heard_from n.wire from (reading bytes))
ComesTruly d acts node comes.Tick n = Unit {0}
ComesTruly d acts node (comes.Down other) n = Unit {0}
ComesTruly d acts node comes.Join n = Unit {0}

-- ---- a step

module _ {M : Type 0} (declared : M → Signature) (turn : M → List ValueTree → ℕ → List ValueTree → List Outcome → NextTurn) (first : M → List ValueTree)
    (lawful : (hosted : M) → IsModule (behaviour declared turn first hosted))
    (program : List Behaviour) (agree : Agree program) (are : AreModules program) (proper : AreProper program) (d : Deployment) (good : IsDeployment d)
    (all : length program ≡ length d.troupes)
    (acts : ℕ → WireActs Purpose) (w : WorldState M) (so_far : NodesTrue declared turn first program d acts w) (node : ℕ) (s : Standing M) (at : slice_get w.nodes node ≡ Some s)
    (deployed : s.node.deployment ≡ d) where
  abbrev Ends : Event → NodeState M × Outputs → Type 0
  Ends event ended = EndsTrue declared turn first program d (CalledAt d acts node) (troupe_at d node) (effects_in declared turn (w.steps + 1) event s.node) ended

  abbrev Makes : Made M → Type 0
  Makes made = MakesTrue declared turn first program d (CalledAt d acts node) (troupe_at d node) made

  here_true : ActsTrue declared turn first program d (CalledAt d acts node) (troupe_at d node) s.node.acting
  here_true = so_far.nodes node s at

  pub ends_true : (event : Event) (ended : NodeState M × Outputs) → ComesTruly d acts node event s.node → node_step.step_node declared turn (w.steps + 1) event s.node ≡ Ok ended
      → Ends event ended
  ends_true (comes.Datagram from bytes) ended truly is =
      let h = heard_from s.node.wire from (reading bytes) in
      let m = hears declared turn s.node.deployment (w.steps + 1) from h s.node.acting in
      let makes : Makes m =
      subst (λ (x : Deployment). Makes (hears declared turn x (w.steps + 1) from h s.node.acting)) (sym deployed)
      (hears_true declared turn first lawful program agree are proper d (CalledAt d acts node) (w.steps + 1) from (troupe_at d node) (troupe_at d from) (CalledAt d acts from) h s.node.acting
      (has_module program d node good all) (has_module program d from good all) (heard_so program d acts so_far.said node from h truly) here_true) in
      concluded_ends declared turn first program d (CalledAt d acts node) (troupe_at d node)
      (record s.node { wire = after_datagram s.node.wire from (reading bytes); acting = m.acting })
      (gives_of (sent_by_datagram s.node.wire from (reading bytes))) m ended makes refl is
  ends_true comes.Tick ended truly is =
      subst (λ (e : NodeState M × Outputs). Ends comes.Tick e) (same_ended _ ended is)
      (record { acting = here_true; effects = All-nil (EffectSo program (CalledAt d acts node) (troupe_at d node)); differences = refl })
  ends_true (comes.Down other) ended truly is =
      let m = learns_down declared turn (w.steps + 1) other s.node.acting in
      concluded_ends declared turn first program d (CalledAt d acts node) (troupe_at d node) (record s.node { wire = stopped_at s.node.wire other; acting = m.acting }) [] m ended
      (learns_true declared turn first lawful program agree are proper d (CalledAt d acts node) (w.steps + 1) other (troupe_at d node) s.node.acting here_true) refl is
  ends_true comes.Join ended truly is =
      let m = is_told_to_join declared turn (w.steps + 1) s.node.acting in
      concluded_ends declared turn first program d (CalledAt d acts node) (troupe_at d node) (record s.node { acting = m.acting }) [] m ended
      (joins_true declared turn first lawful program agree are proper d (CalledAt d acts node) (w.steps + 1) (troupe_at d node) s.node.acting here_true) refl is

  module _ (event : Event) (truly : ComesTruly d acts node event s.node) (new : ℕ → WireActs Purpose)
      (here : new node ≡ with_all (acts node) (acts_in declared turn (w.steps + 1) event s.node)) (elsewhere : (other : ℕ) → other ≢ node → new other ≡ acts other) where
    abbrev later : List (WireAct Purpose)
    later = acts_in declared turn (w.steps + 1) event s.node

    -- calls that were made stay
    still_called : (x : ℕ) (caller : Caller) (message : List ℕ) → CalledAt d acts x caller message → CalledAt d new x caller message
    still_called x caller message called = elim (eqb_tells caller.node node) [
      | inl same ↦
          let called_here : call_at 0 (at_pair d acts node x) caller.number ≡ Some message = subst (λ k. call_at 0 (at_pair d acts k x) caller.number ≡ Some message) same.1 called in
          subst (λ k. call_at 0 (at_pair d new k x) caller.number ≡ Some message) (sym same.1)
          (subst (λ (a : WireActs Purpose). call_at 0 (acts_at (start 0 d.format) x a) caller.number ≡ Some message) (sym here)
          (calls_stay (beginning_of d node) (acts node) later x caller.number message called_here))
      | inr differ ↦ subst (λ (a : WireActs Purpose). call_at 0 (acts_at (start 0 d.format) x a) caller.number ≡ Some message) (sym (elsewhere caller.node differ.1)) called
    ]

    said_on : (x : ℕ) (a : WireActs Purpose) → AllSaid (CallSo program (CalledAt d acts x) (troupe_at d x)) (ReturnSo program (CalledAt d acts x) (troupe_at d x)) a
        → AllSaid (CallSo program (CalledAt d new x) (troupe_at d x)) (ReturnSo program (CalledAt d new x) (troupe_at d x)) a
    said_on x a said =
        all_said_weaker (CallSo program (CalledAt d acts x) (troupe_at d x)) (CallSo program (CalledAt d new x) (troupe_at d x))
        (ReturnSo program (CalledAt d acts x) (troupe_at d x)) (ReturnSo program (CalledAt d new x) (troupe_at d x))
        (call_so_grows program (CalledAt d acts x) (CalledAt d new x) (troupe_at d x))
        (λ caller message. return_so_grows program (CalledAt d acts x) (CalledAt d new x) (troupe_at d x) caller message (λ l. still_called x caller l)) a said

    acting_on : (x : ℕ) (a : Acting M) → ActsTrue declared turn first program d (CalledAt d acts x) (troupe_at d x) a
        → ActsTrue declared turn first program d (CalledAt d new x) (troupe_at d x) a
    acting_on x a is = acts_grow declared turn first program d (CalledAt d acts x) (CalledAt d new x) (still_called x) (troupe_at d x) a is

    effect_made : (e : Effect) → EffectSo program (CalledAt d acts node) (troupe_at d node) e
        → IsMade (CallSo program (CalledAt d acts node) (troupe_at d node)) (ReturnSo program (CalledAt d acts node) (troupe_at d node)) e
    effect_made (made.Call to message purpose) so = so
    effect_made (made.Answer caller message) so = so

    module _ (ended : NodeState M × Outputs) (ends : node_step.step_node declared turn (w.steps + 1) event s.node ≡ Ok ended) where
      abbrev after : WorldState M
      after = record w {
        nodes = set w.nodes node (record s { node = ended.0 });
        sent = w.sent ++ map (course.sent_by (w.steps + 1) node) ended.1.gives;
        steps = w.steps + 1;
      }

      so_ends : Ends event ended
      so_ends = ends_true event ended truly ends

      said_here : SaysTrue program d new node
      said_here =
          let effects = effects_in declared turn (w.steps + 1) event s.node in
          let OfCall = CallSo program (CalledAt d acts node) (troupe_at d node) in
          let OfReturn = ReturnSo program (CalledAt d acts node) (troupe_at d node) in
          subst (λ (a : WireActs Purpose). AllSaid (CallSo program (CalledAt d new node) (troupe_at d node)) (ReturnSo program (CalledAt d new node) (troupe_at d node)) a) (sym here)
          (said_on node (with_all (acts node) later)
          (step_said OfCall OfReturn (acts node) event (wire_behind event s.node) effects (so_far.said node)
          (All-weaker (EffectSo program (CalledAt d acts node) (troupe_at d node)) (IsMade OfCall OfReturn) effect_made effects so_ends.effects)))

      still_said : (x : ℕ) → SaysTrue program d new x
      still_said x = elim (eqb_tells x node) [
        | inl same ↦ subst (λ k. SaysTrue program d new k) (sym same.1) said_here
        | inr differ ↦
            subst (λ (a : WireActs Purpose). AllSaid (CallSo program (CalledAt d new x) (troupe_at d x)) (ReturnSo program (CalledAt d new x) (troupe_at d x)) a) (sym (elsewhere x differ.1))
            (said_on x (acts x) (so_far.said x))
      ]

      still_true : (x : ℕ) (t : Standing M) → slice_get after.nodes x ≡ Some t → ActsTrue declared turn first program d (CalledAt d new x) (troupe_at d x) t.node.acting
      still_true x t found = elim (get_set w.nodes node x (record s { node = ended.0 }) t found) [
        | inl same ↦
            subst (λ k. ActsTrue declared turn first program d (CalledAt d new k) (troupe_at d k) t.node.acting) (sym same.0)
            (subst (λ (v : Standing M). ActsTrue declared turn first program d (CalledAt d new node) (troupe_at d node) v.node.acting) (sym same.1)
            (acting_on node ended.0.acting so_ends.acting))
        | inr there ↦ acting_on x t.node.acting (so_far.nodes x t there)
      ]

      after_true : NodesTrue declared turn first program d new after
      after_true = record { deployment = so_far.deployment; nodes = still_true; said = still_said }

    pub comes_true : (next : WorldState M) → comes_to declared turn node event w ≡ Ok next → NodesTrue declared turn first program d new next
    comes_true next is = by_end (node_step.step_node declared turn (w.steps + 1) event s.node) refl
      where
        by_end : (e : node_step.Ended M) → node_step.step_node declared turn (w.steps + 1) event s.node ≡ e → NodesTrue declared turn first program d new next
        by_end (Ok ended) ends =
            subst (λ (v : WorldState M). NodesTrue declared turn first program d new v)
            (same_world (after ended ends) next (sym (comes_is declared turn w node event s at ∙ ap (conclude_step node s w) ends) ∙ is)) (after_true ended ends)
        by_end (Err peer) ends = absurd (let clash : ◌≡◌ {A = Stepped M} (Err (node, peer)) (Ok next) =
            sym (comes_is declared turn w node event s at ∙ ap (conclude_step node s w) ends) ∙ is in cc)
