-- What a node by itself sends is justified, at boot and in each step.
use Rattle.std.proofs.Common.{◌≡◌, ℕ, ◌<◌, ◌≤◌, false, inl, inr, List, [], ◌∷◌, length, All, Option, None, Some, Result, Ok, Err, refl, sym, ap, subst, ◌∙◌, arith}
use Rattle.std.specs.Prelude.{slice_get, option_map, option_and_then}
use Rattle.std.proofs.lemmas.List.Elements.{All-head, All-tail, All-weaker}
use Rattle.circus_value.specs.Parts.{AreOctets}
use Rattle.circus_value.specs.ValueTree.{ValueTree}
use Rattle.circus_value.specs.declared.outcome.Outcome.{Outcome}
use Rattle.circus_segment.specs.Segment.{Piece, IsSegment, reading, fields_of, header_refusal, field_refusal, or_else, or_refused}
use Rattle.circus_segment.specs.declared.fault.SegmentFault.{SegmentFault}
use Rattle.circus_segment.proofs.Spellings.{spelled}
use Rattle.circus_collate.specs.declared.deployment.Deployment.{Deployment}
use Rattle.circus_collate.specs.declared.deployment.Troupe.{Troupe}
use Rattle.circus_collate.specs.Deployment.{IsDeployment}
use Rattle.circus_ring.specs.RingTable.{boot_views}
use Rattle.circus_model.specs.NextTurn.{NextTurn}
use Rattle.circus_model.specs.Behaviour.{IsModule}
use Rattle.circus_model.specs.declared.signature.Signature.{Signature}
use Rattle.circus_performing.specs.Record.{behaviour}
use Rattle.circus_wire.specs.WireActs.{WireActs, begun}
use Rattle.circus_member_rules.specs.declared.occurrence.Effect.{Effect}
use Rattle.circus_member_rules.specs.declared.occurrence.Purpose.{Purpose}
use Rattle.circus_member_rules.specs.Happening.{IsHome}
use Rattle.circus_node.specs.Accepting.{troupe_at}
use Rattle.circus_node.specs.Booting.{home_of, home_in, made_at_boot, fresh_wire}
use Rattle.circus_node.specs.Booting as booting
use Rattle.circus_node.specs.NodeState.{NodeState}
use Rattle.circus_node.specs.Step as node_step
use Rattle.circus_node.specs.declared.event.Event.{Event}
use Rattle.circus_node.specs.declared.event.Event.TheVariants as comes
use Rattle.circus_node.specs.declared.event.Outputs.{Outputs}
use Rattle.circus_world_theory.specs.Histories.{beginning_of}
use Rattle.circus_world_theory.specs.NodeActs.{with_all, acts_in, acts_at_boot}
use Rattle.circus_world_theory.proofs.Steps.{IsRead, boot_gives}
use Rattle.circus_world_theory.specs.Made.{act_of}
use Rattle.circus_world_theory.proofs.Border.Makers.{IsIn, IsAmong, among_all, in_effects}
use Rattle.circus_member_theory.specs.Past.{Past, booted, now}
use Rattle.circus_world_theory.specs.Happened.{happens_by, with_one}
use Rattle.circus_world_theory.specs.NodeLives.{Events, Rising, IsOfBytes, Comes, past_behind, IsLife}
use Rattle.circus_world_theory.specs.NodeLives as pasts
use Rattle.circus_world_theory.proofs.Timely.Callers.{none_numbered}
use Rattle.circus_world_theory.proofs.Timely.Lines.{now_one}
use Rattle.circus_world_theory.proofs.Timely.Nodes.{at_home, has_begun, ends_by, may_happen}
use Rattle.circus_world_theory.proofs.Timely.Wires.{AllGather}
use Rattle.circus_headline_theory.specs.Datagrams.Lives.{IsOfOther, is_tick, last_step, with_rest, with_events, boot_acts, acts_behind, IsNext, BootIsJustified, StepIsJustified}
use Rattle.circus_headline_theory.proofs.Datagrams.AtPairs.{IsSent, sent_carries}
use Rattle.circus_headline_theory.proofs.Datagrams.Course.{all_made, Goes, gives, goes_on, downs_boot}
use Rattle.circus_headline_theory.proofs.Datagrams.Justifying.{justified}
use Rattle.circus_headline_theory.proofs.Datagrams.Membership.{mapped_in}

-- bytes that are read are a segment
pub read_segment : (bytes : List ℕ) (s : Piece) → AreOctets bytes → reading bytes ≡ Ok s → IsSegment s
read_segment bytes s octets is = by_header (header_refusal bytes) (field_refusal (fields_of bytes)) refl refl is
  where
    by_header : (h f : Option SegmentFault) → header_refusal bytes ≡ h → field_refusal (fields_of bytes) ≡ f → or_refused (or_else h f) (fields_of bytes) ≡ Ok s → IsSegment s
    by_header None None header field e = (let same : fields_of bytes ≡ s = cc in subst IsSegment same (spelled bytes (λ k. octets k) header field).segment)
    by_header None (Some fault) header field e = absurd (let clash : ◌≡◌ {A = Result Piece SegmentFault} (Err fault) (Ok s) = e in cc)
    by_header (Some fault) f header field e = absurd (let clash : ◌≡◌ {A = Result Piece SegmentFault} (Err fault) (Ok s) = e in cc)

pub is_read : (event : Event) → IsOfBytes event → IsRead event
is_read (comes.Datagram from bytes) octets = λ s is. read_segment bytes s octets is
is_read comes.Tick octets = tt
is_read (comes.Down node) octets = tt
is_read comes.Join octets = tt

module _ {M : Type 0} (declared : M → Signature) (turn : M → List ValueTree → ℕ → List ValueTree → List Outcome → NextTurn) (first : M → List ValueTree)
    (lawful : (hosted : M) → IsModule (behaviour declared turn first hosted)) (d : Deployment) (good : IsDeployment d) (node number : ℕ) (troupe : Troupe) (own : M) where
  abbrev GoesSo : Past → WireActs Purpose → NodeState M → Type 0
  GoesSo p acts n = Goes declared turn first lawful d good node number troupe own p acts n

  -- ---- boot

  pub record HasBooted (begun_ : NodeState M) (outputs : Outputs) : Type 0 where
    pub goes : GoesSo booted (boot_acts declared turn first d own node) begun_
    pub gathers : AllGather begun_.wire
    pub given : All (IsSent (beginning_of d node) good.format false (boot_acts declared turn first d own node)) outputs.gives

  pub has_booted : (begun_ : NodeState M) (outputs : Outputs) → node < length d.nodes → troupe_at d node ≡ Some number → slice_get d.troupes number ≡ Some troupe
      → IsHome (declared own) (home_in d node number troupe).place (boot_views d.troupes) → booting.boot_node declared turn first d (Some own) node ≡ Ok (begun_, outputs) → HasBooted begun_ outputs
  has_booted begun_ outputs within hosts there home is =
      let h = has_begun declared turn first lawful d node number troupe own (begun_, outputs) hosts there home is in
      let g = boot_gives declared turn first d (Some own) node (IsSent (beginning_of d node) good.format false) (begun_, outputs) within (sent_carries (beginning_of d node) good.format) is in
      record {
        goes = record {
          deployment = h.deployment;
          lives = h.lives;
          stands = g.stands;
          made = made_then;
          numbers = none_numbered begun_.wire;
          downs = λ y. downs_boot declared turn first lawful d good node number troupe own (fresh_wire d node) (made_at_boot declared turn first d (home_of d node) (Some own)).came.effects y;
        };
        gathers = h.gathers;
        given = g.given;
      }
    where
      home_is : home_of d node ≡ Some (home_in d node number troupe)
      home_is = ap (option_and_then (λ n. option_map (home_in d node n) (slice_get d.troupes n))) hosts ∙ ap (option_map (home_in d node number)) there

      made_then : (e : Effect) → IsAmong (boot_acts declared turn first d own node) (act_of e) → (t : ℕ) × IsIn (all_made declared turn first lawful d good node number troupe own booted) (t, e)
      made_then e among = elim (among_all begun (acts_at_boot declared turn first d (Some own) node) (act_of e) among) [
        | inl none ↦ absurd none
        | inr here ↦
            (let at = in_effects (fresh_wire d node) (made_at_boot declared turn first d (home_of d node) (Some own)).came.effects e here in
            (0, mapped_in (λ (x : Effect). (0, x)) _ e (subst (λ h. IsIn (made_at_boot declared turn first d h (Some own)).came.effects e) home_is at)))
      ]

  -- ---- all that comes

  record GoesFar (at : ℕ) (p : Past) (acts : WireActs Purpose) (last : NodeState M) : Type 0 where
    goes : GoesSo p acts last
    gathers : AllGather last.wire
    before : now p ≤ at

  one_step : (p : Past) (acts : WireActs Purpose) (at step : ℕ) (event : Event) (n : NodeState M) (ended : NodeState M × Outputs) → GoesFar at p acts n → at < step → IsOfBytes event → IsOfOther d node event
      → node_step.step_node declared turn step event n ≡ Ok ended → GoesFar step (with_one p step (happens_by declared event n)) (with_all acts (acts_in declared turn step event n)) ended.0
  one_step p acts at step event n ended far later octets other is =
      let before = far.before in
      let after_ : now p < step = omega (arith, before, later) in
      let goes = far.goes in
      let may = may_happen declared turn first lawful d node number troupe own p event n octets (record { deployment = goes.deployment; gathers = far.gathers; lives = goes.lives }) in
      record {
        goes = goes_on declared turn first lawful d good node number troupe own p acts n step event ended after_ goes other (is_read event octets) may is;
        gathers = (ends_by declared turn step event n ended is).gathers octets far.gathers;
        before = now_one p step (happens_by declared event n) (omega (arith, after_));
      }

  goes_behind : (p : Past) (acts : WireActs Purpose) (at : ℕ) (events : Events) (n last : NodeState M) → GoesFar at p acts n → Rising at events → All (λ (e : ℕ × Event). IsOfOther d node e.1) events
      → Comes declared turn events n last → GoesFar (last_step at events) (pasts.with_events declared turn p events n) (with_events declared turn acts events n) last
  goes_behind p acts at [] n last far rising others come = subst (λ (x : NodeState M). GoesFar at p acts x) (sym come) far
  goes_behind p acts at (next ∷ events) n last far rising others come =
      let q = with_one p next.0 (happens_by declared next.1 n) in
      let acts_then = with_all acts (acts_in declared turn next.0 next.1 n) in
      let one = one_step p acts at next.0 next.1 n come.0 far rising.0 come.1 (All-head (λ (e : ℕ × Event). IsOfOther d node e.1) next events others) come.2 in
      subst
      (λ (e : node_step.Ended M). GoesFar (last_step next.0 events) (pasts.with_rest declared turn (pasts.with_events declared turn q events) p e) (with_rest (with_events declared turn acts_then events) acts e) last)
      (sym come.2)
      (goes_behind q acts_then next.0 events come.0.0 last one rising.1 (All-tail (λ (e : ℕ × Event). IsOfOther d node e.1) next events others) come.3)

module _ {M : Type 0} (declared : M → Signature) (turn : M → List ValueTree → ℕ → List ValueTree → List Outcome → NextTurn) (first : M → List ValueTree)
    (lawful : (hosted : M) → IsModule (behaviour declared turn first hosted)) (d : Deployment) (own : M) (node : ℕ) where
  pub boots_justified : (events : Events) (begun_ last : NodeState M) (life : IsLife declared turn first d own node events begun_ last) → BootIsJustified declared turn first d own node begun_ life.outputs
  boots_justified events begun_ last life kept at number troupe hosts there =
      let good = life.can.deployment in
      let home = at_home declared turn first lawful d node number troupe own hosts there good (life.can.fits number (declared own) hosts refl) in
      let b = has_booted declared turn first lawful d good node number troupe own begun_ life.outputs life.can.within hosts there home life.boots in
      All-weaker (IsSent (beginning_of d node) good.format false (boot_acts declared turn first d own node)) _
      (justified declared turn first lawful d good node number troupe own home booted (boot_acts declared turn first d own node) begun_ kept false b.goes at) life.outputs.gives b.given

  module _ (events : Events) (begun_ last : NodeState M) (life : IsLife declared turn first d own node events begun_ last) (others : All (λ (e : ℕ × Event). IsOfOther d node e.1) events)
      (number : ℕ) (troupe : Troupe) (hosts : troupe_at d node ≡ Some number) (there : slice_get d.troupes number ≡ Some troupe) where
    lives_far : GoesFar declared turn first lawful d life.can.deployment node number troupe own (last_step 0 events) (past_behind declared turn events begun_)
        (acts_behind declared turn first d own node events begun_) last
    lives_far =
        let good = life.can.deployment in
        let home = at_home declared turn first lawful d node number troupe own hosts there good (life.can.fits number (declared own) hosts refl) in
        let b = has_booted declared turn first lawful d good node number troupe own begun_ life.outputs life.can.within hosts there home life.boots in
        goes_behind declared turn first lawful d good node number troupe own booted (boot_acts declared turn first d own node) 0 events begun_ last
        (record { goes = b.goes; gathers = b.gathers; before = omega arith }) life.rising others life.comes

  pub steps_justified : (events : Events) (begun_ before : NodeState M) (step : ℕ) (event : Event) (ended : NodeState M × Outputs) → IsNext declared turn first d own node events begun_ before step event ended
      → StepIsJustified declared turn first d own node events begun_ before step event ended
  steps_justified events begun_ before step event ended next kept at number troupe hosts there =
      let life = next.life in
      let good = life.can.deployment in
      let home = at_home declared turn first lawful d node number troupe own hosts there good (life.can.fits number (declared own) hosts refl) in
      let p = past_behind declared turn events begun_ in
      let acts = acts_behind declared turn first d own node events begun_ in
      let far = lives_far events begun_ before life next.others number troupe hosts there in
      let low = far.before in
      let later_is = next.later in
      let later : now p < step = omega (arith, low, later_is) in
      let one = one_step declared turn first lawful d good node number troupe own p acts (last_step 0 events) step event before ended far next.later next.octets next.other next.ends in
      let goes = far.goes in
      let may = may_happen declared turn first lawful d node number troupe own p event before next.octets (record { deployment = goes.deployment; gathers = far.gathers; lives = goes.lives }) in
      let g = gives declared turn first lawful d good node number troupe own p acts before step event ended later goes next.other (is_read event next.octets) may next.ends in
      All-weaker (IsSent (beginning_of d node) good.format (is_tick event) (with_all acts (acts_in declared turn step event before))) _
      (justified declared turn first lawful d good node number troupe own home (with_one p step (happens_by declared event before)) (with_all acts (acts_in declared turn step event before)) ended.0 kept (is_tick event) one.goes at)
      ended.1.gives g.given
