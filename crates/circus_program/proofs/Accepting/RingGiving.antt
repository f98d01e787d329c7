-- What the Ringmaster's node gives goes to other nodes, and is bytes.
use Rattle.std.specs.List.{AllByRecursion, flat_map}
use Rattle.std.specs.Option.{option_map_or}
use Rattle.std.specs.Prelude.{◌&&◌, slice_get, if◌then◌else◌}
use Rattle.std.proofs.Common.{◌≡◌, ℕ, inl, inr, Bool, true, false, List, [], ◌∷◌, Option, None, Some, Result, Ok, Err, refl, sym, ap, subst, ◌∙◌, arith}
use Rattle.std.proofs.lemmas.List.Elements.{recursion_from_All}
use Rattle.circus_value.specs.Parts.{AreOctets}
use Rattle.circus_value.specs.ValueTree.{ValueTree}
use Rattle.circus_value.specs.declared.caller.Caller.{Caller}
use Rattle.circus_value.specs.declared.outcome.Outcome.{Outcome}
use Rattle.circus_value.proofs.Octets.{both_octets}
use Rattle.circus_segment.specs.Segment.{Piece, reading}
use Rattle.circus_segment.specs.declared.fault.SegmentFault.{SegmentFault}
use Rattle.circus_exchange.specs.Exchange.{start}
use Rattle.circus_header.specs.Field.{bytes_of}
use Rattle.circus_header.specs.ReturnFields.{return_fields}
use Rattle.circus_header.specs.declared.answer.ReturnHeader.TheVariants as says
use Rattle.circus_header.specs.declared.call.Request.{Request}
use Rattle.circus_collate.specs.Deployment.{IsDeployment}
use Rattle.circus_collate.specs.declared.deployment.Deployment.{Deployment}
use Rattle.circus_collate.specs.declared.table.Table.{Table}
use Rattle.circus_ring.specs.RingTable.{Kept, table_by}
use Rattle.circus_ring.specs.TableFields.{table_fields}
use Rattle.circus_model.specs.NextTurn.{NextTurn}
use Rattle.circus_model.specs.declared.signature.Signature.{Signature}
use Rattle.circus_config.specs.declared.plan.Plan.{Plan}
use Rattle.circus_pair.specs.TwoEnds.{sent_by}
use Rattle.circus_pair.proofs.Each.{each_at}
use Rattle.circus_wire.specs.Wire.{IsOther, WireState, is_up, heard_from}
use Rattle.circus_wire.specs.WireActs.{WireAct, WireActs, begun, followed_by, CallTo, AnswerTo, CameFrom, TickAll, StopOf, acts_at}
use Rattle.circus_wire.specs.WireStanding.{pair_of, WireStands}
use Rattle.circus_wire.specs.declared.delivery.Heard.{Heard}
use Rattle.circus_wire.specs.declared.delivery.Heard.TheVariants as heard
use Rattle.circus_wire.proofs.Histories.{sent_is}
use Rattle.circus_member_rules.specs.Rules.{answer}
use Rattle.circus_member_rules.specs.declared.occurrence.Effect.{Effect}
use Rattle.circus_member_rules.specs.declared.occurrence.Effect.TheVariants as makes
use Rattle.circus_member_rules.specs.declared.occurrence.Purpose.{Purpose}
use Rattle.circus_node.specs.Accepting.{accepted_request}
use Rattle.circus_node.specs.Booting.{CanBoot, home_of, made_at_boot, fresh_wire}
use Rattle.circus_node.specs.Making.{hears, by_ring, performs, a_drop, table_message}
use Rattle.circus_node.specs.Node.{IsNodeOf}
use Rattle.circus_node.specs.NodeState.{Acting, ringmaster, NodeState}
use Rattle.circus_node.specs.Sending.{is_sendable}
use Rattle.circus_node.specs.Step.{CanCome}
use Rattle.circus_node.specs.Trace as trace
use Rattle.circus_node.specs.Trace.{Trace, StandsFor, effects_in}
use Rattle.circus_node.specs.declared.event.Event.{Event}
use Rattle.circus_node.specs.declared.event.Event.TheVariants as comes
use Rattle.circus_node.specs.declared.event.Give.{Give}
use Rattle.circus_node.proofs.NodeLemmas.{boot_is_of, boot_goes, step_is_of, step_goes}
use Rattle.circus_member_theory.proofs.Accepting.Octets.{fields_octets}
use Rattle.circus_world_theory.specs.Histories.{beginning_of}
use Rattle.circus_world_theory.specs.NodeActs.{with_all, came_by, acts_of_datagram, handed_by, wire_behind, acts_in, acts_at_boot}
use Rattle.circus_world_theory.proofs.Border.Makers.{IsAmong, was_called, was_answered}
use Rattle.circus_world_theory.proofs.Given.{HaveGiven, peer_by, given_carries}
use Rattle.circus_world_theory.proofs.Steps.{given_brings, step_gives, boot_gives}
use Rattle.circus_headline_theory.specs.Datagrams.Lives.{IsOfOther}
use Rattle.circus_headline_theory.specs.Trace.{ComesFromOthers}
use Rattle.circus_headline_theory.proofs.Datagrams.AtPairs.{other_by, lawful_then}
use Rattle.circus_headline_theory.proofs.Datagrams.Theorem.{is_read}
use Rattle.circus_headline_theory.proofs.Spelled.{sent_octets, message_octets}
use Rattle.circus_audit.specs.Possible.{CanBeGiven}
use Rattle.circus_verdict.proofs.Possible.Differing.{all_both}
use Rattle.circus_verdict.proofs.Possible.Whole.{bytes_of_octets, GivesWell}
use Rattle.circus_program.proofs.Accepting.RingQuiet.{rings_quietly}

-- ---- effects and acts that say bytes

abbrev SaysOctets : Effect → Type 0
SaysOctets (makes.Call to message purpose) = AreOctets message
SaysOctets (makes.Answer caller message) = AreOctets message

abbrev HandsOctets : WireAct Purpose → Type 0
HandsOctets (CallTo to message purpose) = AreOctets message
HandsOctets (AnswerTo caller message) = AreOctets message
HandsOctets (CameFrom from s) = Unit {0}
HandsOctets TickAll = Unit {0}
HandsOctets (StopOf node) = Unit {0}

abbrev AllHandOctets : WireActs Purpose → Type 0
AllHandOctets begun = Unit {0}
AllHandOctets (followed_by acts act) = AllHandOctets acts × HandsOctets act

with_octets : (acts : WireActs Purpose) (more : List (WireAct Purpose)) → AllHandOctets acts → AllByRecursion HandsOctets more → AllHandOctets (with_all acts more)
with_octets acts [] so all = so
with_octets acts (act ∷ more) so all = with_octets (followed_by acts act) more (so, all.0) all.1

came_octets : (event : Event) → AllByRecursion HandsOctets (came_by event)
came_octets (comes.Datagram from bytes) = by_segment (reading bytes)
  where
    by_segment : (r : Result Piece SegmentFault) → AllByRecursion HandsOctets (acts_of_datagram from r)
    by_segment (Ok s) = (tt, tt)
    by_segment (Err fault) = tt
came_octets comes.Tick = (tt, tt)
came_octets (comes.Down node) = (tt, tt)
came_octets comes.Join = tt

one_handed : (w : WireState Purpose) (e : Effect) → SaysOctets e → AllByRecursion HandsOctets (handed_by w e)
one_handed w (makes.Call to message purpose) octets = by_test (is_up w to && is_sendable w.format message)
  where
    by_test : (b : Bool) → AllByRecursion HandsOctets (if b then CallTo to message purpose ∷ [] else [])
    by_test true = (octets, tt)
    by_test false = tt
one_handed w (makes.Answer caller message) octets = by_test (is_sendable w.format message)
  where
    by_test : (b : Bool) → AllByRecursion HandsOctets (if b then AnswerTo caller message ∷ [] else [])
    by_test true = (octets, tt)
    by_test false = tt

handed_octets : (w : WireState Purpose) (effects : List Effect) → AllByRecursion SaysOctets effects → AllByRecursion HandsOctets (flat_map (handed_by w) effects)
handed_octets w [] all = tt
handed_octets w (e ∷ effects) all = all_both HandsOctets (handed_by w e) (flat_map (handed_by w) effects) (one_handed w e all.0) (handed_octets w effects all.1)

among_octets : (acts : WireActs Purpose) (act : WireAct Purpose) → AllHandOctets acts → IsAmong acts act → HandsOctets act
among_octets begun act all at = absurd at
among_octets (followed_by acts other) act all (inl at) = among_octets acts act all.0 at
among_octets (followed_by acts other) act all (inr same) = subst HandsOctets same all.1

-- ---- what the Ringmaster makes

table_octets : (sender : Caller) (t : Option Table) → AllByRecursion SaysOctets (option_map_or (λ (table : Table). answer (table_message table) sender ∷ []) t [])
table_octets sender None = tt
table_octets sender (Some table) =
    (both_octets (bytes_of (return_fields says.Table)) (bytes_of (table_fields table)) (fields_octets (return_fields says.Table)) (fields_octets (table_fields table)), tt)

module _ {M : Type 0} (declared : M → Signature) (turn : M → List ValueTree → ℕ → List ValueTree → List Outcome → NextTurn) where
  ring_octets : (at : ℕ) (event : Event) (n : NodeState M) (kept : Kept) → n.acting ≡ ringmaster kept → AllByRecursion SaysOctets (effects_in declared turn at event n)
  ring_octets at event n kept is = subst (λ (a : Acting M). AllByRecursion SaysOctets (effects_in declared turn at event (record n { acting = a }))) (sym is) (by_event event)
    where
      by_request : (sender : Caller) (o : Option Request) → AllByRecursion SaysOctets (by_ring {M = M} (option_map_or (performs kept sender) o (kept, a_drop))).came.effects
      by_request sender None = tt
      by_request sender (Some request) = table_octets sender (table_by kept request)

      by_heard : (from : ℕ) (h : Heard Purpose) → AllByRecursion SaysOctets (hears declared turn n.deployment at from h (ringmaster kept)).came.effects
      by_heard from heard.Dropped = tt
      by_heard from heard.Taken = tt
      by_heard from (heard.Called sender message) = by_request sender (accepted_request kept message)
      by_heard from (heard.Returned number purpose message) = tt

      by_event : (e : Event) → AllByRecursion SaysOctets (effects_in declared turn at e (record n { acting = ringmaster kept }))
      by_event (comes.Datagram from bytes) = by_heard from (heard_from n.wire from (reading bytes))
      by_event comes.Tick = tt
      by_event (comes.Down other) = tt
      by_event comes.Join = tt

  -- ---- along the trace

  module _ (first : M → List ValueTree) (plan : Plan) (node : ℕ) (can : CanBoot plan.deployment node None) where
    abbrev d : Deployment
    d = plan.deployment

    abbrev good : IsDeployment d
    good = can.deployment

    record SoFar (t : Trace) (n : NodeState M) : Type 0 where
      acts : WireActs Purpose
      stands : WireStands n.wire (beginning_of d node) acts
      hands : AllHandOctets acts
      of : IsNodeOf d node n
      gives : GivesWell plan node t

    given_octets : (acts : WireActs Purpose) (n : NodeState M) → WireStands n.wire (beginning_of d node) acts → AllHandOctets acts → (give : Give) → IsOther n.wire give.to
        → HaveGiven (beginning_of d node) acts give → CanBeGiven plan node give
    given_octets acts n stands hands give other given =
        let here = acts_at (pair_of (beginning_of d node)) give.to acts in
        let far = peer_by (beginning_of d node) acts n.wire give.to stands other in
        let lawful_there = lawful_then (beginning_of d node) acts n.wire give.to stands far in (
          (far.1, far.0),
          bytes_of_octets give.bytes
              (each_at AreOctets (sent_by (start 0 d.format) here) given.0 give.bytes
              (sent_octets d.format here good.format lawful_there
              (message_octets here
              (λ call message at. let was = was_called (beginning_of d node) acts give.to call message at in among_octets acts (CallTo give.to message was.purpose) hands was.among)
              (λ call message at. among_octets acts (AnswerTo (record { node = give.to; number = call }) message) hands (was_answered (beginning_of d node) acts give.to call message at))))
              (ap (λ l. slice_get l given.0) (sym (sent_is (beginning_of d node) acts give.to lawful_there)) ∙ given.1)),
        )

    all_given : (acts : WireActs Purpose) (n : NodeState M) → WireStands n.wire (beginning_of d node) acts → AllHandOctets acts → (gives : List Give)
        → AllByRecursion (λ (give : Give). IsOther n.wire give.to) gives → AllByRecursion (HaveGiven (beginning_of d node) acts) gives → AllByRecursion (CanBeGiven plan node) gives
    all_given acts n stands hands [] other given = tt
    all_given acts n stands hands (give ∷ gives) other given =
        (given_octets acts n stands hands give other.0 given.0, all_given acts n stands hands gives other.1 given.1)

    none_at_boot : acts_at_boot declared turn first d None node ≡ []
    none_at_boot = elim (home_of d node) as (λ h. flat_map (handed_by (fresh_wire d node)) (made_at_boot declared turn first d h None).came.effects ≡ []) [ None ↦ refl | (Some home) ↦ refl ]

    can_come : (acts : WireActs Purpose) (n : NodeState M) → WireStands n.wire (beginning_of d node) acts → (event : Event) → IsOfOther d node event → CanCome n event
    can_come acts n stands (comes.Datagram from bytes) is = other_by (beginning_of d node) acts n.wire from stands is
    can_come acts n stands comes.Tick is = tt
    can_come acts n stands (comes.Down down) is = other_by (beginning_of d node) acts n.wire down stands is
    can_come acts n stands comes.Join is = tt

    so_far : (t : Trace) (n : NodeState M) → StandsFor declared turn first d None node t n → ComesFromOthers d node t → SoFar t n
    so_far (trace.booted made outputs) n stands others =
        let b = beginning_of d node in
        let g = boot_gives declared turn first d None node (HaveGiven b) (n, outputs) can.within (given_carries b) stands.0 in
        let acts = with_all begun (acts_at_boot declared turn first d None node) in
        let hands : AllHandOctets acts = subst (λ l. AllHandOctets (with_all begun l)) (sym none_at_boot) tt in
        record {
          acts = acts;
          stands = g.stands;
          hands = hands;
          of = boot_is_of declared turn first (Ok (n, outputs)) d None node can stands.0;
          gives =
              all_given acts n g.stands hands outputs.gives
              (recursion_from_All (λ (give : Give). IsOther n.wire give.to) outputs.gives (boot_goes declared turn first (Ok (n, outputs)) d None node can stands.0))
              (recursion_from_All (HaveGiven b acts) outputs.gives g.given);
        }
    so_far (trace.stepped t at event made outputs) n stands others =
        let b = beginning_of d node in
        let before = so_far t stands.0 stands.1 others.0 in
        let rings = (rings_quietly declared turn first d node t stands.0 stands.1 others.0 can.within).rings in
        let g = step_gives declared turn b (HaveGiven b) (omega arith) before.acts at event stands.0 (n, outputs) (given_brings b before.acts event) before.stands
        (can_come before.acts stands.0 before.stands event others.1) (is_read event others.2) stands.2 in
        let acts = with_all before.acts (acts_in declared turn at event stands.0) in
        let hands = with_octets before.acts (acts_in declared turn at event stands.0) before.hands
        (all_both HandsOctets (came_by event) (flat_map (handed_by (wire_behind event stands.0)) (effects_in declared turn at event stands.0)) (came_octets event)
        (handed_octets (wire_behind event stands.0) (effects_in declared turn at event stands.0) (ring_octets at event stands.0 _ rings.acting))) in
        record {
          acts = acts;
          stands = g.stands;
          hands = hands;
          of = step_is_of declared turn (Ok (n, outputs)) at event stands.0 stands.2 d node before.of;
          gives = (
            before.gives,
            all_given acts n g.stands hands outputs.gives
                (recursion_from_All (λ (give : Give). IsOther n.wire give.to) outputs.gives (step_goes declared turn (Ok (n, outputs)) at event stands.0 stands.2))
                (recursion_from_All (HaveGiven b acts) outputs.gives g.given),
          );
        }

    pub ring_gives_well : (t : Trace) (n : NodeState M) → StandsFor declared turn first d None node t n → ComesFromOthers d node t → GivesWell plan node t
    ring_gives_well t n stands others = (so_far t n stands others).gives
