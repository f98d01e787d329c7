-- A step of a node at its border: all that it makes is handed to its pairs, each return as one, and the same holds behind that.
use Rattle.std.proofs.Common.{◌≡◌, ℕ, Bool, true, false, ◌&&◌, if◌then◌else◌, List, [], ◌∷◌, ◌++◌, map, ◌⊎◌, Result, Ok, Err, refl, sym, ap, subst, ◌∙◌}
use Rattle.std.specs.Prelude.{◌==◌}
use Rattle.std.specs.List.{flat_map}
use Rattle.circus_value.specs.ValueTree.{ValueTree}
use Rattle.circus_value.specs.declared.caller.Caller.{Caller}
use Rattle.circus_value.specs.declared.outcome.Outcome.{Outcome}
use Rattle.circus_segment.specs.Segment.{Piece, IsSegment, reading}
use Rattle.circus_segment.specs.declared.fault.SegmentFault.{SegmentFault}
use Rattle.circus_limits.specs.Limits.{limit_of}
use Rattle.circus_exchange.specs.Limits.{never_used}
use Rattle.circus_collate.specs.Deployment.{IsDeployment}
use Rattle.circus_collate.specs.declared.deployment.Deployment.{Deployment}
use Rattle.circus_model.specs.declared.signature.Signature.{Signature}
use Rattle.circus_model.specs.NextTurn.{NextTurn}
use Rattle.circus_model.specs.Behaviour.{IsModule}
use Rattle.circus_performing.specs.Record.{behaviour}
use Rattle.circus_wire.specs.declared.delivery.Heard.{Heard}
use Rattle.circus_wire.specs.declared.delivery.Heard.TheVariants.{Dropped, Taken, Called, Returned}
use Rattle.circus_wire.specs.Wire.{WireState, Beginning, IsOther, is_up, next_number, heard_from, after_datagram, all_ticked, stopped_at, called_to, sent_by_call, answer_caller, sent_by_answer}
use Rattle.circus_wire.specs.WireActs.{WireAct, WireActs, followed_by, CameFrom, TickAll, StopOf}
use Rattle.circus_wire.specs.WireStanding.{WireStands}
use Rattle.circus_member_rules.specs.declared.occurrence.Purpose.{Purpose}
use Rattle.circus_member_rules.specs.declared.occurrence.Effect.{Effect}
use Rattle.circus_member_rules.specs.declared.occurrence.Effect.TheVariants as made
use Rattle.circus_node.specs.declared.event.Event.{Event}
use Rattle.circus_node.specs.declared.event.Event.TheVariants.{Datagram, Tick, Down, Join}
use Rattle.circus_node.specs.declared.event.Give.{Give}
use Rattle.circus_node.specs.declared.event.Outputs.{Outputs}
use Rattle.circus_node.specs.NodeState.{NodeState}
use Rattle.circus_node.specs.Making.{Made, hears, learns_down, is_told_to_join}
use Rattle.circus_node.specs.Sending.{Sending, sent, spent, gives_of, is_sendable, hand_over, all_handed}
use Rattle.circus_node.specs.Step.{CanCome, end_step, conclude_step, step_node}
use Rattle.circus_world_theory.specs.NodeActs.{with_all, acts_of_datagram, came_by, wire_behind, acts_in, handed_by}
use Rattle.circus_node.specs.Trace.{effects_in}
use Rattle.circus_world_theory.specs.Histories.{beginning_of}
use Rattle.circus_world_theory.proofs.Given.{with_both}
use Rattle.circus_world_theory.proofs.Steps.{IsRead}
use Rattle.circus_world_theory.proofs.Border.Pairs.{awaits_in, awaits_on, awaits_behind, call_arrives, up_called, up_answered, up_heard, up_ticked, up_stopped}
use Rattle.circus_world_theory.proofs.Border.Sizing.{AllBrief}
use Rattle.circus_world_theory.proofs.Border.Handing.{AreReturns}
use Rattle.circus_world_theory.proofs.Border.Handing as handing
use Rattle.circus_world_theory.proofs.Border.Nodes.{AtBorder, IsMadeAt, TakesRightly, still_at, Comes, hears_made, lost_made, joining_made}
use Rattle.circus_world_theory.specs.Made.{act_of}

-- ---- handing over leaves the same nodes up

abbrev IsUpAs : WireState Purpose → Sending → Type 0
IsUpAs w (sent v gives) = (node : ℕ) → is_up v node ≡ is_up w node
IsUpAs w (spent node) = Unit {0}

one_up : (w v : WireState Purpose) (gives : List Give) (e : Effect) → IsUpAs w (sent v gives) → IsUpAs w (hand_over v gives e)
one_up w v gives (made.Call to message purpose) same = by_test (is_up v to && is_sendable v.format message)
  where
    by_number : (t : Bool) → IsUpAs w (if t then spent to else sent (called_to v to message purpose) (gives ++ gives_of (sent_by_call v to message)))
    by_number true = tt
    by_number false = λ node. up_called v to node message purpose ∙ same node

    by_test : (t : Bool)
        → IsUpAs w (if t then (if next_number v to == never_used then spent to else sent (called_to v to message purpose) (gives ++ gives_of (sent_by_call v to message))) else sent v gives)
    by_test true = by_number (next_number v to == never_used)
    by_test false = same
one_up w v gives (made.Answer caller message) same = by_test (is_sendable v.format message)
  where
    by_test : (t : Bool) → IsUpAs w (if t then sent (answer_caller v caller message) (gives ++ gives_of (sent_by_answer v caller message)) else sent v gives)
    by_test true = λ node. up_answered v caller message node ∙ same node
    by_test false = same

all_up : (w : WireState Purpose) (s : Sending) (effects : List Effect) → IsUpAs w s → IsUpAs w (all_handed s effects)
all_up w s [] same = same
all_up w (sent v gives) (e ∷ es) same = all_up w (hand_over v gives e) es (one_up w v gives e same)
all_up w (spent node) (e ∷ es) same = all_up w (spent node) es tt

module _ {M : Type 0} where
  -- what came of a step was sent
  pub record IsConcluded (n : NodeState M) (r : NodeState M × Outputs) : Type 0 where
    pub up : (node : ℕ) → is_up r.0.wire node ≡ is_up n.wire node
    pub acting : r.0.acting ≡ n.acting
    pub deployment : r.0.deployment ≡ n.deployment

  same_end : (x y : NodeState M × Outputs) → ◌≡◌ {A = Result (NodeState M × Outputs) ℕ} (Ok x) (Ok y) → x ≡ y
  same_end x y is = cc

  ended_is : (n : NodeState M) (m : Made M) (s : Sending) (r : NodeState M × Outputs) → IsUpAs n.wire s → end_step n m.came s ≡ Ok r → IsConcluded n r
  ended_is n m (sent w gives) r up is = subst (IsConcluded n) (same_end _ r is) (record { up = up; acting = refl; deployment = refl })
  ended_is n m (spent node) r up is = absurd (let clash : ◌≡◌ {A = Result (NodeState M × Outputs) ℕ} (Err node) (Ok r) = is in cc)

  pub concluded_is : (n : NodeState M) (gives : List Give) (m : Made M) (r : NodeState M × Outputs) → conclude_step n gives m.came ≡ Ok r → IsConcluded n r
  concluded_is n gives m r is = ended_is n m (all_handed (sent n.wire gives) m.came.effects) r (all_up n.wire (sent n.wire gives) m.came.effects (λ node. refl)) is

  -- the wire is of the same format once something has come
  format_behind : (event : Event) (n : NodeState M) → (wire_behind event n).format ≡ n.wire.format
  format_behind (Datagram from bytes) n = by_segment (reading bytes)
    where
      by_segment : (segment : Result Piece SegmentFault) → (after_datagram n.wire from segment).format ≡ n.wire.format
      by_segment (Ok s) = refl
      by_segment (Err fault) = refl
  format_behind Tick n = refl
  format_behind (Down node) n = refl
  format_behind Join n = refl

module _ {M : Type 0} (declared : M → Signature) (turn : M → List ValueTree → ℕ → List ValueTree → List Outcome → NextTurn) (first : M → List ValueTree)
    (lawful : (hosted : M) → IsModule (behaviour declared turn first hosted)) (d : Deployment) (is : IsDeployment d) (own : ℕ) where
  abbrev begins : Beginning
  begins = beginning_of d own

  -- a node of a program at whose pairs these acts have happened
  pub record IsAtBorder (acts : WireActs Purpose) (n : NodeState M) : Type 0 where
    pub deployment : n.deployment ≡ d
    pub acting : AtBorder declared turn first lawful d is own n.wire acts n.acting

  -- what it accepts of what comes can happen to it
  abbrev pub MayTake : Event → NodeState M → Type 0
  MayTake (Datagram from bytes) n = TakesRightly declared turn first lawful d is own from (heard_from n.wire from (reading bytes)) n.acting
  MayTake Tick n = Unit {0}
  MayTake (Down node) n = Unit {0}
  MayTake Join n = Unit {0}

  -- nothing that a step makes is dropped
  pub record IsHandedWhole (acts : WireActs Purpose) (at : ℕ) (event : Event) (n : NodeState M) : Type 0 where
    -- each call and each return is handed to its pair, in their order
    pub all : flat_map (handed_by (wire_behind event n)) (effects_in declared turn at event n) ≡ map act_of (effects_in declared turn at event n)
    -- and each return answers a call that awaits it
    pub returns : AreReturns begins (with_all acts (came_by event)) (effects_in declared turn at event n)

  pub record StepsAtBorder (acts : WireActs Purpose) (at : ℕ) (event : Event) (n : NodeState M) (r : NodeState M × Outputs) : Type 0 where
    pub handed : IsHandedWhole acts at event n
    pub behind : IsAtBorder (with_all acts (acts_in declared turn at event n)) r.0

  -- from what is made to what is known behind the step
  module _ (acts : WireActs Purpose) (at : ℕ) (event : Event) (n : NodeState M) (r : NodeState M × Outputs) (m : Made M)
      (same : effects_in declared turn at event n ≡ m.came.effects)
      (stands : WireStands n.wire begins acts) (dep : n.deployment ≡ d) (h : IsMadeAt declared turn first lawful d is own (wire_behind event n) (with_all acts (came_by event)) m) where
    format : (wire_behind event n).format ≡ d.format
    format = format_behind event n ∙ stands.format

    whole : IsHandedWhole acts at event n
    whole =
        let w = wire_behind event n in
        let all : flat_map (handed_by w) m.came.effects ≡ map act_of m.came.effects =
        handing.all_handed w (subst (λ f. (f ≡ 1) ⊎ (f ≡ 2)) (sym format) is.format) m.came.effects h.up (subst (λ f. AllBrief (limit_of f) m.came.effects) (sym format) h.brief) in
        record {
          all = subst (λ es. flat_map (handed_by w) es ≡ map act_of es) (sym same) all;
          returns = subst (AreReturns begins (with_all acts (came_by event))) (sym same) h.returns;
        }

    acts_are : with_all (with_all acts (came_by event)) (map act_of m.came.effects) ≡ with_all acts (acts_in declared turn at event n)
    acts_are =
        let w = wire_behind event n in
        ap (λ es. with_all (with_all acts (came_by event)) (map act_of es)) (sym same)
        ∙ ap (λ more. with_all (with_all acts (came_by event)) more) (sym whole.all)
        ∙ sym (with_both acts (came_by event) (flat_map (handed_by w) (effects_in declared turn at event n)))

    step_from_made : (gives : List Give) → conclude_step (record n { wire = wire_behind event n; acting = m.acting }) gives m.came ≡ Ok r → StepsAtBorder acts at event n r
    step_from_made gives ends =
        let w = wire_behind event n in
        let now : NodeState M = record n { wire = w; acting = m.acting } in
        let c = concluded_is now gives m r ends in
        let last = with_all (with_all acts (came_by event)) (map act_of m.came.effects) in
        record {
          handed = whole;
          behind = record {
            deployment = c.deployment ∙ dep;
            acting =
                subst (λ a. AtBorder declared turn first lawful d is own r.0.wire a r.0.acting) acts_are
                (subst (AtBorder declared turn first lawful d is own r.0.wire last) (sym c.acting)
                (still_at declared turn first lawful d is own w r.0.wire last last m.acting (λ node other. c.up node) (λ c_ awaits. awaits) h.acting));
          };
        }

  -- ---- a datagram comes

  module _ (acts : WireActs Purpose) (n : NodeState M) (from : ℕ) (stands : WireStands n.wire begins acts) (other : IsOther n.wire from) where
    segment_still : (segment : Result Piece SegmentFault) → ((s : Piece) → segment ≡ Ok s → IsSegment s) → (c : Caller) → awaits_in begins acts c ≡ true
        → awaits_in begins (with_all acts (acts_of_datagram from segment)) c ≡ true
    segment_still (Ok s) read c awaits = awaits_behind begins acts n.wire from s c other (read s refl) stands awaits
    segment_still (Err fault) read c awaits = awaits

    came_at : (segment : Result Piece SegmentFault) (read : (s : Piece) → segment ≡ Ok s → IsSegment s) (heard : Heard Purpose) → heard_from n.wire from segment ≡ heard
        → Comes declared turn first lawful d is own acts (with_all acts (acts_of_datagram from segment)) (segment_still segment read) heard
    came_at segment read Dropped heard_is = tt
    came_at segment read Taken heard_is = tt
    came_at (Ok s) read (Called sender message) heard_is =
        let arrives = call_arrives begins acts n.wire from s sender message other (read s refl) stands heard_is in (arrives.before, arrives.now)
    came_at (Err fault) read (Called sender message) heard_is = absurd (clash heard_is)
      where
        clash : ◌≡◌ {A = Heard Purpose} Dropped (Called sender message) → ⊥
        clash is_ = cc
    came_at segment read (Returned number purpose message) heard_is = tt

  made_by_datagram : (acts : WireActs Purpose) (at from : ℕ) (segment : Result Piece SegmentFault) (n : NodeState M) → WireStands n.wire begins acts → IsOther n.wire from
      → ((s : Piece) → segment ≡ Ok s → IsSegment s)
      → TakesRightly declared turn first lawful d is own from (heard_from n.wire from segment) n.acting → IsAtBorder acts n
      → IsMadeAt declared turn first lawful d is own (after_datagram n.wire from segment) (with_all acts (acts_of_datagram from segment)) (hears declared turn n.deployment at from (heard_from n.wire from segment) n.acting)
  made_by_datagram acts at from segment n stands other read takes h =
      let w = after_datagram n.wire from segment in
      let now = with_all acts (acts_of_datagram from segment) in
      let heard = heard_from n.wire from segment in
      subst (λ x. IsMadeAt declared turn first lawful d is own w now (hears declared turn x at from heard n.acting)) (sym h.deployment)
      (hears_made declared turn first lawful d is own n.wire w acts now (λ node other_. up_heard n.wire from node segment) (segment_still acts n from stands other segment read)
      at from heard n.acting h.acting takes (came_at acts n from stands other segment read heard refl))

  -- ---- any step

  pub step_at_border : (acts : WireActs Purpose) (at : ℕ) (event : Event) (n : NodeState M) (r : NodeState M × Outputs) → WireStands n.wire begins acts → CanCome n event
      → IsRead event → MayTake event n
      → IsAtBorder acts n → step_node declared turn at event n ≡ Ok r → StepsAtBorder acts at event n r
  step_at_border acts at (Datagram from bytes) n r stands can read takes h ends =
      let heard = heard_from n.wire from (reading bytes) in
      step_from_made acts at (Datagram from bytes) n r (hears declared turn n.deployment at from heard n.acting) refl stands h.deployment
      (made_by_datagram acts at from (reading bytes) n stands can read takes h) _ ends
  step_at_border acts at Tick n r stands can read takes h ends =
      subst (StepsAtBorder acts at Tick n) (same_end _ r ends)
      (record {
        handed = record { all = refl; returns = tt };
        behind = record {
          deployment = h.deployment;
          acting = still_at declared turn first lawful d is own n.wire (all_ticked n.wire) acts (followed_by acts TickAll) n.acting (λ node other. up_ticked n.wire node)
              (λ c. awaits_on begins acts TickAll c (λ from t came. no_tick from t came) tt) h.acting;
        };
      })
    where
      no_tick : (from : ℕ) (t : Piece) → ◌≡◌ {A = WireAct Purpose} TickAll (CameFrom from t) → ⊥
      no_tick from t came = cc
  step_at_border acts at (Down node) n r stands can read takes h ends =
      step_from_made acts at (Down node) n r (learns_down declared turn at node n.acting) refl stands h.deployment
      (lost_made declared turn first lawful d is own acts (followed_by acts (StopOf node)) (λ c. awaits_on begins acts (StopOf node) c (λ from t came. no_stop from t came) tt)
      n.wire (stopped_at n.wire node) at node n.acting h.acting
      (λ x other. up_stopped n.wire node x can.0 (λ same. other.1 (same ∙ stands.own)))) _ ends
    where
      no_stop : (from : ℕ) (t : Piece) → ◌≡◌ {A = WireAct Purpose} (StopOf node) (CameFrom from t) → ⊥
      no_stop from t came = cc
  step_at_border acts at Join n r stands can read takes h ends =
      step_from_made acts at Join n r (is_told_to_join declared turn at n.acting) refl stands h.deployment
      (joining_made declared turn first lawful d is own n.wire n.wire acts acts (λ node other. refl) (λ c awaits. awaits) at n.acting h.acting) _ ends
