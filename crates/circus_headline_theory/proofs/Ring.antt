-- The Ringmaster's node is a run of it, whatever comes to it.
use Rattle.std.proofs.Common.{◌≡◌, ℕ, ◌<◌, Bool, true, false, List, [], ◌∷◌, ◌++◌, append-nil, map, length, All, Option, None, Some, Result, Ok, Err, refl, sym, ap, subst, ◌∙◌, arith}
use Rattle.std.specs.Prelude.{fold, if◌then◌else◌}
use Rattle.std.specs.List.{flat_map}
use Rattle.std.specs.Option.{option_map_or}
use Rattle.std.proofs.lemmas.List.{map-append}
use Rattle.std.proofs.lemmas.List.Elements.{All-head, All-tail}
use Rattle.std.proofs.lemmas.List.Sums.{fold-append}
use Rattle.circus_value.specs.ValueTree.{ValueTree}
use Rattle.circus_value.specs.declared.caller.Caller.{Caller}
use Rattle.circus_value.specs.declared.outcome.Outcome.{Outcome}
use Rattle.circus_segment.specs.Segment.{Piece, IsSegment, reading}
use Rattle.circus_segment.specs.declared.fault.SegmentFault.{SegmentFault}
use Rattle.circus_header.specs.declared.call.Request.{Request}
use Rattle.circus_collate.specs.declared.deployment.Deployment.{Deployment}
use Rattle.circus_collate.specs.declared.table.Table.{Table}
use Rattle.circus_collate.specs.declared.view.View.{View}
use Rattle.circus_ring.specs.RingTable.{Kept, kept_by, kept_after, table_by}
use Rattle.circus_model.specs.NextTurn.{NextTurn}
use Rattle.circus_model.specs.declared.signature.Signature.{Signature}
use Rattle.circus_wire.specs.Wire as wire
use Rattle.circus_wire.specs.Wire.{WireState, Beginning, heard_from}
use Rattle.circus_wire.specs.WireActs.{WireActs, begun, followed_by, AnswerTo, made_to}
use Rattle.circus_wire.specs.WireStanding.{WireStands}
use Rattle.circus_wire.specs.declared.delivery.Heard.{Heard}
use Rattle.circus_wire.specs.declared.delivery.Heard.TheVariants.{Dropped, Taken, Called, Returned}
use Rattle.circus_wire.proofs.Performing.{came_tells}
use Rattle.circus_member_rules.specs.declared.occurrence.Effect.{Effect}
use Rattle.circus_member_rules.specs.declared.occurrence.Effect.TheVariants as makes
use Rattle.circus_member_rules.specs.declared.occurrence.Purpose.{Purpose}
use Rattle.circus_node.specs.Accepting.{accepted_request}
use Rattle.circus_node.specs.Booting.{home_of, made_at_boot, fresh_wire}
use Rattle.circus_node.specs.Booting as booting
use Rattle.circus_node.specs.Making.{Made, hears, by_ring, performs, a_drop, table_message}
use Rattle.circus_node.specs.NodeState.{Acting, ringmaster, NodeState, ring_views}
use Rattle.circus_node.specs.Sending.{is_sendable}
use Rattle.circus_node.specs.Step as node_step
use Rattle.circus_node.specs.Step.{CanCome}
use Rattle.circus_node.specs.declared.event.Event.{Event}
use Rattle.circus_node.specs.declared.event.Event.TheVariants as comes
use Rattle.circus_node.specs.declared.event.Outputs.{Outputs}
use Rattle.circus_world_theory.specs.Histories.{beginning_of}
use Rattle.circus_world_theory.specs.NodeActs.{with_all, acts_of_datagram, came_by, handed_by, wire_behind, acts_in, acts_at_boot}
use Rattle.circus_node.specs.Trace.{effects_in, Trace}
use Rattle.circus_world_theory.proofs.Given.{with_both}
use Rattle.circus_world_theory.proofs.Steps.{IsRead}
use Rattle.circus_world_theory.specs.NodeLives.{Events, Comes}
use Rattle.circus_world_theory.proofs.Timely.Lives.{acting_by}
use Rattle.circus_world_theory.proofs.Timely.Nodes.{concludes, ends_by}
use Rattle.circus_headline_theory.specs.Datagrams.Lives.{IsOfOther}
use Rattle.circus_headline_theory.specs.Datagrams.Ring.{Requests}
use Rattle.circus_headline_theory.proofs.Datagrams.AtPairs.{other_by}
use Rattle.circus_headline_theory.proofs.Datagrams.Theorem.{is_read}
use Rattle.circus_node.specs.Trace as trace
use Rattle.circus_headline_theory.specs.Trace.{handed_over, acts_of, acts_in_step, gives_for_all, heard_in, SendsWhatIsOwed}
use Rattle.circus_headline_theory.specs.Numbers.{HasNumbers}
use Rattle.circus_headline_theory.specs.Lived.{then_on, with_events}
use Rattle.circus_headline_theory.specs.Peers.{ComeOfPeers}
use Rattle.circus_headline_theory.proofs.Sends.{step_sends, step_spends, boot_sends, boot_spends}
use Rattle.circus_headline_theory.specs.RingRun.{request_heard, answer_to, kept_behind, request_in, requests_of, AnswersRequests, IsRingRun}

abbrev asked : Requests → List Request
asked requests = map (λ (r : Caller × Request). r.1) requests

-- ---- what is answered is handed over

abbrev AreAnswers : List Effect → Type 0
AreAnswers [] = Unit {0}
AreAnswers (makes.Call to message purpose ∷ effects) = ⊥
AreAnswers (makes.Answer caller message ∷ effects) = AreAnswers effects

both_answers : (a b : List Effect) → AreAnswers a → AreAnswers b → AreAnswers (a ++ b)
both_answers [] b first second = second
both_answers (makes.Call to message purpose ∷ a) b first second = absurd first
both_answers (makes.Answer caller message ∷ a) b first second = both_answers a b first second

one_answer : (caller : Caller) (t : Option Table) → AreAnswers (option_map_or (λ (table : Table). makes.Answer caller (table_message table) ∷ []) t [])
one_answer caller None = tt
one_answer caller (Some table) = tt

are_answers : (kept : Kept) (new : Requests) → AreAnswers (flat_map (answer_to kept) new)
are_answers kept [] = tt
are_answers kept (r ∷ new) = both_answers (answer_to kept r) (flat_map (answer_to kept) new) (one_answer r.0 (table_by kept r.1)) (are_answers kept new)

handed_alike : (b : Beginning) (acts : WireActs Purpose) (w : WireState Purpose) (effects : List Effect) → w.format ≡ b.format → AreAnswers effects
    → flat_map (handed_by w) effects ≡ flat_map (handed_over b acts) effects
handed_alike b acts w [] same are = refl
handed_alike b acts w (makes.Call to message purpose ∷ effects) same are = absurd are
handed_alike b acts w (makes.Answer caller message ∷ effects) same are =
    (λ i. (if is_sendable (same i) message then AnswerTo caller message ∷ [] else []) ++ handed_alike b acts w effects same are i)

-- ---- it makes no calls, so each of them has a number

module _ (d : Deployment) (node : ℕ) where
  abbrev pairs : Beginning
  pairs = beginning_of d node

  came_uncalled : (event : Event) (to : ℕ) (acts : WireActs Purpose) → made_to to (with_all acts (came_by event)) ≡ made_to to acts
  unfolding made_to
  came_uncalled (comes.Datagram from bytes) to acts = by_segment (reading bytes)
    where
      by_segment : (r : Result Piece SegmentFault) → made_to to (with_all acts (acts_of_datagram from r)) ≡ made_to to acts
      by_segment (Ok s) = refl
      by_segment (Err fault) = refl
  came_uncalled comes.Tick to acts = refl
  came_uncalled (comes.Down other) to acts = refl
  came_uncalled comes.Join to acts = refl

  answered_uncalled : (behind : WireActs Purpose) (effects : List Effect) (to : ℕ) (acts : WireActs Purpose) → AreAnswers effects
      → made_to to (with_all acts (flat_map (handed_over pairs behind) effects)) ≡ made_to to acts
  unfolding made_to
  answered_uncalled behind [] to acts are = refl
  answered_uncalled behind (makes.Call other message purpose ∷ effects) to acts are = absurd are
  answered_uncalled behind (makes.Answer caller message ∷ effects) to acts are = by_test (is_sendable pairs.format message) (λ x. answered_uncalled behind effects to x are)
    where
      by_test : (t : Bool) → ((x : WireActs Purpose) → made_to to (with_all x (flat_map (handed_over pairs behind) effects)) ≡ made_to to x)
          → made_to to (with_all acts ((if t then AnswerTo caller message ∷ [] else []) ++ flat_map (handed_over pairs behind) effects)) ≡ made_to to acts
      by_test true rest = rest (followed_by acts (AnswerTo caller message))
      by_test false rest = rest acts

  uncalled : (t : Trace) (to : ℕ) → AnswersRequests d node t → made_to to (acts_of pairs t) ≡ 0
  unfolding made_to
  uncalled (trace.booted made outputs) to answers = ap (λ l. made_to to (with_all begun (acts_in_step pairs begun [] l))) answers
  uncalled (trace.stepped t at event made outputs) to answers =
      let acts = acts_of pairs t in
      let are = subst AreAnswers (sym answers.1) (are_answers (kept_behind d node (requests_of d node t)) (request_in d node (requests_of d node t) acts event)) in
      ap (made_to to) (with_both acts (came_by event) (flat_map (handed_over pairs (with_all acts (came_by event))) made))
      ∙ answered_uncalled (with_all acts (came_by event)) made to (with_all acts (came_by event)) are
      ∙ came_uncalled event to acts
      ∙ uncalled t to answers.0

pub ring_has_numbers : (d : Deployment) (node : ℕ) (t : Trace) (views : List View) → IsRingRun d node t views → HasNumbers d node t
ring_has_numbers d node t views run to = (let none = uncalled d node t to run.answers in omega (arith, none))

-- ---- one thing is heard

module _ {M : Type 0} (declared : M → Signature) (turn : M → List ValueTree → ℕ → List ValueTree → List Outcome → NextTurn) where
  record HasMade (m : Made M) (kept : Kept) (new : Requests) : Type 0 where
    acting : m.acting ≡ ringmaster (fold kept_by kept (asked new))
    makes_so : m.came.effects ≡ flat_map (answer_to kept) new

  by_request : (kept : Kept) (sender : Caller) (o : Option Request)
      → HasMade (by_ring (option_map_or (performs kept sender) o (kept, a_drop))) kept (option_map_or (λ request. (sender, request) ∷ []) o [])
  by_request kept sender None = record { acting = refl; makes_so = refl }
  by_request kept sender (Some request) = record { acting = refl; makes_so = sym (append-nil (answer_to kept (sender, request))) }

  by_heard : (d : Deployment) (step from : ℕ) (heard : Heard Purpose) (kept : Kept) → HasMade (hears declared turn d step from heard (ringmaster kept)) kept (request_heard kept heard)
  by_heard d step from Dropped kept = record { acting = refl; makes_so = refl }
  by_heard d step from Taken kept = record { acting = refl; makes_so = refl }
  by_heard d step from (Called sender message) kept = by_request kept sender (accepted_request kept message)
  by_heard d step from (Returned number purpose message) kept = record { acting = refl; makes_so = refl }

  -- ---- a step

  record StepsSo (step : ℕ) (event : Event) (n : NodeState M) (kept : Kept) (new : Requests) : Type 0 where
    acting : acting_by declared turn step event n ≡ ringmaster (fold kept_by kept (asked new))
    makes_so : effects_in declared turn step event n ≡ flat_map (answer_to kept) new

  -- the request that is heard by an event at the pairs
  abbrev request_at : Kept → NodeState M → Event → Requests
  request_at kept n (comes.Datagram from bytes) = request_heard kept (heard_from n.wire from (reading bytes))
  request_at kept n comes.Tick = []
  request_at kept n (comes.Down other) = []
  request_at kept n comes.Join = []

  steps_so : (step : ℕ) (event : Event) (n : NodeState M) (kept : Kept) → n.acting ≡ ringmaster kept → StepsSo step event n kept (request_at kept n event)
  steps_so step event n kept is = subst (λ (a : Acting M). StepsSo step event (record n { acting = a }) kept (request_at kept n event)) (sym is) (by_event event)
    where
      by_event : (ev : Event) → StepsSo step ev (record n { acting = ringmaster kept }) kept (request_at kept n ev)
      by_event (comes.Datagram from bytes) = (let m = by_heard n.deployment step from (heard_from n.wire from (reading bytes)) kept in record { acting = m.acting; makes_so = m.makes_so })
      by_event comes.Tick = record { acting = refl; makes_so = refl }
      by_event (comes.Down other) = record { acting = refl; makes_so = refl }
      by_event comes.Join = record { acting = refl; makes_so = refl }

  module _ (d : Deployment) (node : ℕ) where
    abbrev b : Beginning
    b = beginning_of d node

    abbrev kept_then : Trace → Kept
    kept_then t = kept_behind d node (requests_of d node t)

    kept_more : (requests new : Requests) → fold kept_by (kept_behind d node requests) (asked new) ≡ kept_behind d node (requests ++ new)
    kept_more requests new =
        sym (fold-append kept_by (kept_after d.troupes []) (asked requests) (asked new)) ∙ ap (kept_after d.troupes) (sym (map-append (λ (r : Caller × Request). r.1) requests new))

    -- a node that has gone this far
    pub record Rings (t : Trace) (n : NodeState M) : Type 0 where
      pub acting : n.acting ≡ ringmaster (kept_then t)
      pub stands : WireStands n.wire b (acts_of b t)
      pub of_peers : ComeOfPeers b (acts_of b t)
      pub answers : AnswersRequests d node t
      pub sends : SendsWhatIsOwed (beginning_of d node) t

    -- the pairs keep to their format
    format_behind : (event : Event) (n : NodeState M) → (wire_behind event n).format ≡ n.wire.format
    format_behind (comes.Datagram from bytes) n = by_segment (reading bytes)
      where
        by_segment : (r : Result Piece SegmentFault) → (wire.after_datagram n.wire from r).format ≡ n.wire.format
        by_segment (Ok s) = refl
        by_segment (Err fault) = refl
    format_behind comes.Tick n = refl
    format_behind (comes.Down other) n = refl
    format_behind comes.Join n = refl

    module _ (t : Trace) (n : NodeState M) (rings : Rings t n) (event : Event) (other : IsOfOther d node event) (read : IsRead event) where
      can_come : (ev : Event) → IsOfOther d node ev → CanCome n ev
      can_come (comes.Datagram from bytes) is = other_by b (acts_of b t) n.wire from rings.stands is
      can_come comes.Tick is = tt
      can_come (comes.Down down) is = other_by b (acts_of b t) n.wire down rings.stands is
      can_come comes.Join is = tt

      -- what is heard
      same_request : (ev : Event) → IsOfOther d node ev → IsRead ev → request_at (kept_then t) n ev ≡ request_in d node (requests_of d node t) (acts_of b t) ev
      same_request (comes.Datagram from bytes) is segment = ap (request_heard (kept_then t)) (by_segment (reading bytes) segment)
        where
          by_segment : (r : Result Piece SegmentFault) → ((s : Piece) → r ≡ Ok s → IsSegment s) → heard_from n.wire from r ≡ heard_in b (acts_of b t) from r
          by_segment (Ok s) is_segment = came_tells b (acts_of b t) n.wire from s s (other_by b (acts_of b t) n.wire from rings.stands is) rings.stands refl (is_segment s refl)
          by_segment (Err fault) is_segment = refl
      same_request comes.Tick is segment = refl
      same_request (comes.Down down) is segment = refl
      same_request comes.Join is segment = refl

      module _ (step : ℕ) where
        abbrev new : Requests
        new = request_in d node (requests_of d node t) (acts_of b t) event

        abbrev made : List Effect
        made = effects_in declared turn step event n

        so : StepsSo step event n (kept_then t) new
        so = subst (StepsSo step event n (kept_then t)) (same_request event other read) (steps_so step event n (kept_then t) rings.acting)

        acts_same : acts_in declared turn step event n ≡ acts_in_step b (acts_of b t) (came_by event) made
        acts_same =
            ap (λ l. came_by event ++ l)
            (handed_alike b (with_all (acts_of b t) (came_by event)) (wire_behind event n) made (format_behind event n ∙ rings.stands.format)
            (subst AreAnswers (sym so.makes_so) (are_answers (kept_then t) new)))

        -- there is a number for each call of it, as there is none
        pub rings_spent : (peer : ℕ) → node_step.step_node declared turn step event n ≡ Err peer → ⊥
        rings_spent peer ends =
            let spent = step_spends declared turn b (omega arith) (acts_of b t) step event n peer rings.stands rings.of_peers (can_come event other) read ends in
            let same = ap (λ l. made_to peer (with_all (acts_of b t) l)) acts_same in
            let none = uncalled d node (trace.stepped t step event made (record { gives = []; suspects = []; differences = [] })) peer (rings.answers, so.makes_so) in
            omega (arith, spent, same, none)

        rings_on : (ended : NodeState M × Outputs) → node_step.step_node declared turn step event n ≡ Ok ended → Rings (trace.stepped t step event made ended.1) ended.0
        rings_on ended ends =
            let s = step_sends declared turn b (omega arith) (acts_of b t) step event n ended rings.stands rings.of_peers (can_come event other) read ends in
            record {
              acting = (ends_by declared turn step event n ended ends).acting ∙ so.acting ∙ ap ringmaster (kept_more (requests_of d node t) new);
              stands = subst (λ l. WireStands ended.0.wire b (with_all (acts_of b t) l)) acts_same s.stands;
              of_peers = subst (λ l. ComeOfPeers b (with_all (acts_of b t) l)) acts_same s.of_peers;
              answers = (rings.answers, so.makes_so);
              sends = (rings.sends, s.gives_are ∙ ap (gives_for_all b (acts_of b t)) acts_same, s.suspects_are);
            }

    -- ---- all that comes

    pub rings_with : (t : Trace) (events : Events) (n last : NodeState M) → Rings t n → All (λ (e : ℕ × Event). IsOfOther d node e.1) events → Comes declared turn events n last
        → Rings (with_events declared turn t events n) last
    rings_with t [] n last r others come = subst (λ (x : NodeState M). Rings t x) (sym come) r
    rings_with t (next ∷ events) n last r others come =
        let grown = trace.stepped t next.0 next.1 (effects_in declared turn next.0 next.1 n) in
        let on_ = rings_on t n r next.1 (All-head (λ (e : ℕ × Event). IsOfOther d node e.1) next events others) (is_read next.1 come.1) next.0 come.0 come.2 in
        subst (λ (e : node_step.Ended M). Rings (then_on (λ g a. with_events declared turn g events a) t grown e) last) (sym come.2)
        (rings_with (grown come.0.1) events come.0.0 last on_ (All-tail (λ (e : ℕ × Event). IsOfOther d node e.1) next events others) come.3)

    -- ---- boot

    module _ (first : M → List ValueTree) where
      nothing : acts_at_boot declared turn first d None node ≡ []
      nothing = elim (home_of d node) as (λ h. flat_map (handed_by (fresh_wire d node)) (made_at_boot declared turn first d h None).came.effects ≡ []) [ None ↦ refl | (Some home) ↦ refl ]

      pub boot_rings_spent : (peer : ℕ) → node < length d.nodes → booting.boot_node declared turn first d None node ≡ Err peer → ⊥
      boot_rings_spent peer within ends =
          let spent = boot_spends declared turn first d None node peer within ends in
          let same = ap (λ l. made_to peer (with_all begun l)) nothing in
          let none = uncalled d node (trace.booted [] (record { gives = []; suspects = []; differences = [] })) peer refl in
          omega (arith, spent, same, none)

      pub rings_at_boot : (n : NodeState M) (outputs : Outputs) → node < length d.nodes → booting.boot_node declared turn first d None node ≡ Ok (n, outputs) → Rings (trace.booted [] outputs) n
      rings_at_boot n outputs within is =
          let m = made_at_boot declared turn first d (home_of d node) None in
          let c = concludes (record { deployment = d; wire = fresh_wire d node; acting = m.acting; dropped = 0 }) [] m (n, outputs) is in
          let s = boot_sends declared turn first d None node (n, outputs) within is in
          record {
            acting = c.acting ∙ elim (home_of d node) as (λ h. (made_at_boot declared turn first d h None).acting ≡ ringmaster (kept_after d.troupes [])) [ None ↦ refl | (Some home) ↦ refl ];
            stands = subst (λ l. WireStands n.wire b (with_all begun l)) nothing s.stands;
            of_peers = tt;
            answers = refl;
            sends = (s.gives_are ∙ ap (gives_for_all b begun) nothing, s.suspects_are);
          }

    -- its views
    pub ring_run : (t : Trace) (n : NodeState M) → Rings t n → IsRingRun d node t (option_map_or (λ (views : List View). views) (ring_views n.acting) [])
    ring_run t n r = record {
      views_are = ap (λ (a : Acting M). option_map_or (λ (views : List View). views) (ring_views a) []) r.acting;
      answers = r.answers;
      sends = r.sends;
    }
