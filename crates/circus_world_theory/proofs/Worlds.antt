-- What is true of a world and of what has happened at the pairs of its nodes stays true in each step.
use Rattle.std.proofs.Common.{◌≡◌, ◌≢◌, ℕ, zero, suc, ◌+◌, ◌<◌, ◌⊎◌, inl, inr, List, [], ◌∷◌, ◌++◌, length, map, set, All, Option, Some, Result, Ok, Err, refl, sym, ap, subst, ◌∙◌, arith}
use Rattle.std.specs.Prelude.{slice_get}
use Rattle.std.specs.Option.{option_map_or}
use Rattle.std.proofs.lemmas.Bool.Decides.{eqb_tells}
use Rattle.std.proofs.lemmas.List.{length-set}
use Rattle.std.proofs.lemmas.List.Elements.{All-append, All-map, All-weaker}
use Rattle.std.proofs.lemmas.Option.{none-some, same_Some, slice_get_within}
use Rattle.circus_value.specs.ValueTree.{ValueTree}
use Rattle.circus_value.specs.declared.outcome.Outcome.{Outcome}
use Rattle.circus_segment.specs.Segment.{Piece, IsSegment, reading}
use Rattle.circus_segment.specs.declared.fault.SegmentFault.{SegmentFault}
use Rattle.circus_collate.specs.declared.deployment.Deployment.{Deployment}
use Rattle.circus_model.specs.NextTurn.{NextTurn}
use Rattle.circus_model.specs.declared.signature.Signature.{Signature}
use Rattle.circus_exchange.specs.Exchange.{start}
use Rattle.circus_pair.specs.Acts.{Acts, Came}
use Rattle.circus_pair.specs.Lawful.{AreLawful}
use Rattle.circus_pair.specs.TwoEnds.{WasSent, sent_by}
use Rattle.circus_wire.specs.Wire.{WireState, IsOther}
use Rattle.circus_wire.specs.WireActs.{WireAct, WireActs, acts_at}
use Rattle.circus_wire.specs.WireStanding.{WireStands, pair_of}
use Rattle.circus_wire.proofs.Histories.{knows_lawful, sent_is}
use Rattle.circus_member_rules.specs.declared.occurrence.Purpose.{Purpose}
use Rattle.circus_node.specs.declared.event.Event.{Event}
use Rattle.circus_node.specs.declared.event.Event.TheVariants as comes
use Rattle.circus_node.specs.declared.event.Outputs.{Outputs}
use Rattle.circus_node.specs.NodeState.{NodeState}
use Rattle.circus_node.specs.Step as node_step
use Rattle.circus_world.specs.Sent.{Sent}
use Rattle.circus_world.specs.WorldState.{WorldState, Standing}
use Rattle.circus_world.specs.Course as course
use Rattle.circus_world.specs.Course.{Stepped, note_at, pass_step, crash_node, told_to_join, conclude_step, comes_to, step_line}
use Rattle.circus_world.specs.Seen.Sound.{IsSound}
use Rattle.circus_world.proofs.SlotLemmas.{get_set, get_there}
use Rattle.circus_world.proofs.SoundLemmas.{comes_sound}
use Rattle.circus_world_theory.specs.Histories.{beginning_of}
use Rattle.circus_world_theory.specs.NodeActs.{with_all, acts_of_datagram, came_by, wire_behind, acts_in}
use Rattle.circus_node.specs.Trace.{effects_in}
use Rattle.circus_world_theory.proofs.Given.{HaveGiven, WasGiven, AreGiven, Gives, given_on}
use Rattle.circus_world_theory.proofs.Spelled.{sent_is_read}
use Rattle.circus_world_theory.proofs.Steps.{IsRead, given_brings, step_gives}
use Rattle.circus_world_theory.proofs.Talks.{Talks, talks_back, AllSent, acts_on, both_sent, all_handed_sent}

-- ---- lists

pub get_same : {X : Type 0} (xs : List X) (i : ℕ) (v x : X) → slice_get xs i ≡ Some x → slice_get (set xs i v) i ≡ Some v
get_same [] i v x at = absurd (none-some x at)
get_same (y ∷ xs) zero v x at = refl
get_same (y ∷ xs) (suc i) v x at = get_same xs i v x at

get_other : {X : Type 0} (xs : List X) (i j : ℕ) (v x : X) → j ≢ i → slice_get (set xs i v) j ≡ Some x → slice_get xs j ≡ Some x
get_other xs i j v x differ at = elim (get_set xs i j v x at) [ inl same ↦ absurd (differ same.0) | inr there ↦ there ]

-- ---- the pair of a node with another one

-- what has happened at it
abbrev pub at_pair : Deployment → (ℕ → WireActs Purpose) → ℕ → ℕ → Acts
at_pair d acts node other = acts_at (pair_of (beginning_of d node)) other (acts node)

pub is_other : (d : Deployment) (node other : ℕ) (w : WireState Purpose) (acts : WireActs Purpose) → WireStands w (beginning_of d node) acts
    → other < length d.nodes → other ≢ node → IsOther w other
is_other d node other w acts stands below differs =
    (λ same. differs (same ∙ stands.own), omega (arith, stands.nodes, below))

pub lawful_at : (d : Deployment) (node other : ℕ) (w : WireState Purpose) (acts : WireActs Purpose) → WireStands w (beginning_of d node) acts
    → other < length d.nodes → other ≢ node → AreLawful 0 d.format (acts_at (start 0 d.format) other acts)
lawful_at d node other w acts stands below differs = knows_lawful w (beginning_of d node) acts other stands (is_other d node other w acts stands below differs)

-- ---- a world

-- a datagram was sent by what has happened at the pairs of its node
abbrev pub IsGiven : Deployment → (ℕ → WireActs Purpose) → Sent → Type 0
IsGiven d acts sent = WasGiven (beginning_of d sent.from) (acts sent.from) sent.to sent.bytes

-- pairs stand for what has happened at them, which has sent what was sent, and is a talk of each two nodes
pub record Stands {M : Type 0} (d : Deployment) (acts : ℕ → WireActs Purpose) (w : WorldState M) : Type 0 where
  pub known : (d.format ≡ 1) ⊎ (d.format ≡ 2)
  pub sound : IsSound w
  pub all : length w.nodes ≡ length d.nodes
  pub stands : (node : ℕ) (s : Standing M) → slice_get w.nodes node ≡ Some s → WireStands s.node.wire (beginning_of d node) (acts node)
  pub sent : All (IsGiven d acts) w.sent
  pub talks : (node other : ℕ) → node < length d.nodes → other < length d.nodes → node ≢ other → Talks d.format (at_pair d acts node other) (at_pair d acts other node)

-- what comes to a node names another one, and a datagram of it that was sent
abbrev pub IsReal : Deployment → (ℕ → WireActs Purpose) → ℕ → Event → Type 0
IsReal d acts node (comes.Datagram from bytes) = (from < length d.nodes) × (from ≢ node) × WasGiven (beginning_of d from) (acts from) node bytes
IsReal d acts node comes.Tick = Unit {0}
IsReal d acts node (comes.Down other) = (other < length d.nodes) × (other ≢ node)
IsReal d acts node comes.Join = Unit {0}

module _ {M : Type 0} (d : Deployment) (acts : ℕ → WireActs Purpose) (w : WorldState M) (so_far : Stands d acts w) where
  -- a node is there
  there : (node : ℕ) → node < length d.nodes → (s : Standing M) × (slice_get w.nodes node ≡ Some s)
  there node below = get_there w.nodes node (subst (λ k. node < k) (sym so_far.all) below)

  -- a datagram that comes is a segment that its node has sent, where it is read as one
  pub came_sent : (from node : ℕ) (bytes : List ℕ) (s : Piece) → from < length d.nodes → node < length d.nodes → from ≢ node
      → WasGiven (beginning_of d from) (acts from) node bytes → reading bytes ≡ Ok s
      → IsSegment s × WasSent (sent_by (start 0 d.format) (at_pair d acts from node)) (Came s)
  came_sent from node bytes s from_below below differs given read =
      let t = there from from_below in
      let lawful = lawful_at d from node t.0.node.wire (acts from) (so_far.stands from t.0 t.1) below (λ same. differs (sym same)) in
      let at : slice_get (sent_by (start 0 d.format) (at_pair d acts from node)) given.0 ≡ Some bytes =
      ap (λ l. slice_get l given.0) (sym (sent_is (beginning_of d from) (acts from) node lawful)) ∙ given.1 in
      let is = sent_is_read d.format (at_pair d acts from node) given.0 bytes s so_far.known lawful at read in
      (is.0, (given.0, at ∙ ap (λ (l : List ℕ). Some l) is.1))

  can_come : (node : ℕ) (event : Event) (s : Standing M) → slice_get w.nodes node ≡ Some s → IsReal d acts node event → node_step.CanCome s.node event
  can_come node (comes.Datagram from bytes) s at real = is_other d node from s.node.wire (acts node) (so_far.stands node s at) real.0 real.1
  can_come node comes.Tick s at real = tt
  can_come node (comes.Down other) s at real = is_other d node other s.node.wire (acts node) (so_far.stands node s at) real.0 real.1
  can_come node comes.Join s at real = tt

  pub is_read : (node : ℕ) (event : Event) → node < length d.nodes → IsReal d acts node event → IsRead event
  is_read node (comes.Datagram from bytes) below real = λ s read. (came_sent from node bytes s real.0 below real.1 real.2 read).0
  is_read node comes.Tick below real = tt
  is_read node (comes.Down other) below real = tt
  is_read node comes.Join below real = tt

  -- what comes of a datagram was sent
  datagram_sent : (from node other : ℕ) (bytes : List ℕ) → node < length d.nodes → IsReal d acts node (comes.Datagram from bytes)
      → (segment : Result Piece SegmentFault) → reading bytes ≡ segment → AllSent (sent_by (start 0 d.format) (at_pair d acts other node)) other (acts_of_datagram from segment)
  datagram_sent from node other bytes below real (Ok s) read =
      (λ same. subst (λ k. WasSent (sent_by (start 0 d.format) (at_pair d acts k node)) (Came s)) same (came_sent from node bytes s real.0 below real.1 real.2 read).1, tt)
  datagram_sent from node other bytes below real (Err fault) read = tt

  came_all_sent : (node other : ℕ) (event : Event) → node < length d.nodes → IsReal d acts node event → AllSent (sent_by (start 0 d.format) (at_pair d acts other node)) other (came_by event)
  came_all_sent node other (comes.Datagram from bytes) below real = datagram_sent from node other bytes below real (reading bytes) refl
  came_all_sent node other comes.Tick below real = (tt, tt)
  came_all_sent node other (comes.Down down) below real = (tt, tt)
  came_all_sent node other comes.Join below real = tt

-- ---- a node makes a step

module _ {M : Type 0} (declared : M → Signature) (turn : M → List ValueTree → ℕ → List ValueTree → List Outcome → NextTurn) (d : Deployment) (acts new : ℕ → WireActs Purpose) (w : WorldState M)
    (so_far : Stands d acts w) (node : ℕ) (event : Event) (s : Standing M) (at : slice_get w.nodes node ≡ Some s) (real : IsReal d acts node event)
    (here : new node ≡ with_all (acts node) (acts_in declared turn (w.steps + 1) event s.node)) (elsewhere : (other : ℕ) → other ≢ node → new other ≡ acts other) where
  below : node < length d.nodes
  below = subst (λ k. node < k) so_far.all (slice_get_within w.nodes node s at)

  abbrev later : List (WireAct Purpose)
  later = acts_in declared turn (w.steps + 1) event s.node

  comes_is : comes_to declared turn node event w ≡ conclude_step node s w (node_step.step_node declared turn (w.steps + 1) event s.node)
  comes_is = ap (λ (o : Option (Standing M)). option_map_or (λ (t : Standing M). conclude_step node t w (node_step.step_node declared turn (w.steps + 1) event t.node)) o (Ok w)) at

  module _ (ended : NodeState M × Outputs) (ends : node_step.step_node declared turn (w.steps + 1) event s.node ≡ Ok ended) where
    abbrev after : WorldState M
    after = record w {
      nodes = set w.nodes node (record s { node = ended.0 });
      sent = w.sent ++ map (course.sent_by (w.steps + 1) node) ended.1.gives;
      steps = w.steps + 1;
    }

    gives : Gives (beginning_of d node) (with_all (acts node) later) ended
    gives =
        step_gives declared turn (beginning_of d node) (HaveGiven (beginning_of d node)) (omega arith) (acts node) (w.steps + 1) event s.node ended
        (given_brings (beginning_of d node) (acts node) event) (so_far.stands node s at) (can_come d acts w so_far node event s at real) (is_read d acts w so_far node event below real) ends

    after_is : comes_to declared turn node event w ≡ Ok after
    after_is = comes_is ∙ ap (conclude_step node s w) ends

    still_stands : (x : ℕ) (t : Standing M) → slice_get after.nodes x ≡ Some t → WireStands t.node.wire (beginning_of d x) (new x)
    still_stands x t found = elim (eqb_tells x node) [
      | inl same ↦
          let is : record s { node = ended.0 } ≡ t = same_Some _ t (sym (get_same w.nodes node (record s { node = ended.0 }) s at) ∙ ap (slice_get after.nodes) (sym same.1) ∙ found) in
          subst (λ k. WireStands t.node.wire (beginning_of d k) (new k)) (sym same.1)
          (subst (λ (v : Standing M). WireStands v.node.wire (beginning_of d node) (new node)) is
          (subst (λ a. WireStands ended.0.wire (beginning_of d node) a) (sym here) gives.stands))
      | inr differ ↦
          subst (λ a. WireStands t.node.wire (beginning_of d x) a) (sym (elsewhere x differ.1))
          (so_far.stands x t (get_other w.nodes node x (record s { node = ended.0 }) t differ.1 found))
    ]

    still_given : (x : ℕ) (to : ℕ) (bytes : List ℕ) → WasGiven (beginning_of d x) (acts x) to bytes → WasGiven (beginning_of d x) (new x) to bytes
    still_given x to bytes given = elim (eqb_tells x node) [
      | inl same ↦
          let given_here : WasGiven (beginning_of d node) (acts node) to bytes = subst (λ k. WasGiven (beginning_of d k) (acts k) to bytes) same.1 given in
          subst (λ k. WasGiven (beginning_of d k) (new k) to bytes) (sym same.1)
          (subst (λ a. WasGiven (beginning_of d node) a to bytes) (sym here) (given_on (beginning_of d node) (acts node) later to bytes given_here))
      | inr differ ↦ subst (λ a. WasGiven (beginning_of d x) a to bytes) (sym (elsewhere x differ.1)) given
    ]

    all_given : All (IsGiven d new) after.sent
    all_given =
        All-append (IsGiven d new) w.sent (map (course.sent_by (w.steps + 1) node) ended.1.gives)
        (All-weaker (IsGiven d acts) (IsGiven d new) (λ sent. still_given sent.from sent.to sent.bytes) w.sent so_far.sent)
        (All-map (IsGiven d new) (course.sent_by (w.steps + 1) node) ended.1.gives
        (subst (λ a. AreGiven (beginning_of d node) a ended.1.gives) (sym here) gives.given))

    talks_here : (other : ℕ) → other < length d.nodes → other ≢ node → Talks d.format (at_pair d new node other) (at_pair d new other node)
    talks_here other other_below differs =
        let e = start 0 d.format in
        let sent = both_sent (sent_by e (at_pair d acts other node)) other (came_by event) _ (came_all_sent d acts w so_far node other event below real)
        (all_handed_sent (sent_by e (at_pair d acts other node)) other (wire_behind event s.node) (effects_in declared turn (w.steps + 1) event s.node)) in
        subst (λ a. Talks d.format (acts_at e other a) (at_pair d new other node)) (sym here)
        (subst (λ a. Talks d.format (acts_at e other (with_all (acts node) later)) (acts_at e node a)) (sym (elsewhere other differs))
        (acts_on d.format other (acts node) later (at_pair d acts other node) (lawful_at d node other ended.0.wire (with_all (acts node) later) gives.stands other_below differs) sent
        (so_far.talks node other below other_below (λ same. differs (sym same)))))

    still_talks : (x y : ℕ) → x < length d.nodes → y < length d.nodes → x ≢ y → Talks d.format (at_pair d new x y) (at_pair d new y x)
    still_talks x y x_below y_below differ = elim (eqb_tells x node) [
      | inl same ↦
          subst (λ k. Talks d.format (at_pair d new k y) (at_pair d new y k)) (sym same.1) (talks_here y y_below (λ is. differ (same.1 ∙ sym is)))
      | inr other ↦ elim (eqb_tells y node) [
        | inl same ↦
            subst (λ k. Talks d.format (at_pair d new x k) (at_pair d new k x)) (sym same.1)
            (talks_back d.format (at_pair d new node x) (at_pair d new x node) (talks_here x x_below other.1))
        | inr neither ↦
            subst (λ a. Talks d.format (acts_at (start 0 d.format) y a) (at_pair d new y x)) (sym (elsewhere x other.1))
            (subst (λ a. Talks d.format (at_pair d acts x y) (acts_at (start 0 d.format) x a)) (sym (elsewhere y neither.1)) (so_far.talks x y x_below y_below differ))
      ]
    ]

    after_stands : Stands d new after
    after_stands = record {
      known = so_far.known;
      sound = comes_sound declared turn node event w after so_far.sound after_is;
      all = length-set w.nodes node (record s { node = ended.0 }) ∙ so_far.all;
      stands = still_stands;
      sent = all_given;
      talks = still_talks;
    }

  same_world : (a b : WorldState M) → ◌≡◌ {A = Stepped M} (Ok a) (Ok b) → a ≡ b
  same_world a b is = cc

  pub comes_stand : (next : WorldState M) → comes_to declared turn node event w ≡ Ok next → Stands d new next
  comes_stand next is = by_end (node_step.step_node declared turn (w.steps + 1) event s.node) refl
    where
      by_end : (e : node_step.Ended M) → node_step.step_node declared turn (w.steps + 1) event s.node ≡ e → Stands d new next
      by_end (Ok ended) ends = subst (λ (v : WorldState M). Stands d new v) (same_world (after ended ends) next (sym (after_is ended ends) ∙ is)) (after_stands ended ends)
      by_end (Err peer) ends = absurd (let clash : ◌≡◌ {A = Stepped M} (Err (node, peer)) (Ok next) = sym (comes_is ∙ ap (conclude_step node s w) ends) ∙ is in cc)
