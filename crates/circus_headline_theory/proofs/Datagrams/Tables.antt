-- What the Ringmaster's node sends is justified.
use Rattle.std.proofs.Common.{◌≡◌, ℕ, ◌<◌, inl, inr, Bool, false, List, [], ◌∷◌, ◌++◌, append_assoc, map, length, All, Option, None, Some, Ok, refl, sym, ap, subst, ◌∙◌, arith}
use Rattle.std.specs.Prelude.{fold}
use Rattle.std.specs.List.{flat_map}
use Rattle.std.specs.Option.{option_map_or}
use Rattle.std.proofs.lemmas.List.{map-append}
use Rattle.std.proofs.lemmas.List.Elements.{All-head, All-tail, All-weaker}
use Rattle.std.proofs.lemmas.List.Sums.{fold-append}
use Rattle.circus_value.specs.ValueTree.{ValueTree}
use Rattle.circus_value.specs.declared.caller.Caller.{Caller}
use Rattle.circus_value.specs.declared.outcome.Outcome.{Outcome}
use Rattle.circus_segment.specs.Segment.{Piece, reading}
use Rattle.circus_header.specs.declared.call.Request.{Request}
use Rattle.circus_collate.specs.Deployment.{IsDeployment}
use Rattle.circus_collate.specs.declared.deployment.Deployment.{Deployment}
use Rattle.circus_collate.specs.declared.table.Table.{Table}
use Rattle.circus_ring.specs.RingTable.{Kept, kept_by, kept_after, table_by}
use Rattle.circus_model.specs.NextTurn.{NextTurn}
use Rattle.circus_model.specs.declared.signature.Signature.{Signature}
use Rattle.circus_wire.specs.Wire.{Beginning, heard_from}
use Rattle.circus_wire.specs.WireActs.{WireActs, begun, acts_at}
use Rattle.circus_wire.specs.WireStanding.{WireStands, pair_of}
use Rattle.circus_wire.specs.declared.delivery.Heard.{Heard}
use Rattle.circus_wire.specs.declared.delivery.Heard.TheVariants.{Dropped, Taken, Called, Returned}
use Rattle.circus_member_rules.specs.declared.occurrence.Effect.{Effect}
use Rattle.circus_member_rules.specs.declared.occurrence.Effect.TheVariants as made
use Rattle.circus_member_rules.specs.declared.occurrence.Purpose.{Purpose}
use Rattle.circus_node.specs.Accepting.{accepted_request}
use Rattle.circus_member_rules.specs.Rules.{answer}
use Rattle.circus_node.specs.Booting.{home_of, made_at_boot, fresh_wire}
use Rattle.circus_node.specs.Booting as booting
use Rattle.circus_node.specs.Making.{Made, hears, by_ring, performs, a_drop, table_message}
use Rattle.circus_node.specs.NodeState.{Acting, ringmaster, NodeState}
use Rattle.circus_node.specs.Step as node_step
use Rattle.circus_node.specs.Step.{CanCome}
use Rattle.circus_node.specs.declared.event.Event.{Event}
use Rattle.circus_node.specs.declared.event.Event.TheVariants as comes
use Rattle.circus_node.specs.declared.event.Give.{Give}
use Rattle.circus_node.specs.declared.event.Outputs.{Outputs}
use Rattle.circus_world_theory.specs.Histories.{beginning_of}
use Rattle.circus_world_theory.specs.NodeActs.{with_all, came_by, handed_by, wire_behind, acts_in, acts_at_boot}
use Rattle.circus_node.specs.Trace.{effects_in}
use Rattle.circus_world_theory.proofs.Steps.{IsRead, step_gives, boot_gives}
use Rattle.circus_world_theory.specs.Made.{act_of}
use Rattle.circus_world_theory.proofs.Border.Makers.{IsIn, in_both, IsAmong, among_all, no_event, in_effects, was_called, was_answered}
use Rattle.circus_world_theory.specs.NodeLives.{Events, Comes}
use Rattle.circus_world_theory.proofs.Timely.Lives.{acting_by}
use Rattle.circus_world_theory.proofs.Timely.Nodes.{concludes, ends_by}
use Rattle.circus_headline_theory.specs.Datagrams.Lives.{IsOfOther, is_tick, with_rest, with_events}
use Rattle.circus_headline_theory.specs.Datagrams.Ring.{Requests, request_of_heard, requested_by, with_requests, IsTableFor, HasCause, IsJustified, boot_acts, IsNext, StepIsJustified}
use Rattle.circus_headline_theory.specs.Datagrams.Sendings.{IsSaidFor}
use Rattle.circus_headline_theory.proofs.Datagrams.AtPairs.{other_by, IsSent, sent_carries, sent_brings}
use Rattle.circus_headline_theory.proofs.Datagrams.Theorem.{is_read}

-- what it knows behind requests
abbrev asked : Requests → List Request
asked requests = map (λ (r : Caller × Request). r.1) requests

-- ---- one thing is heard

-- an effect is the table for the last request
record IsTable (kept : Kept) (new : Requests) (e : Effect) : Type 0 where
  caller : Caller
  request : Request
  new_is : new ≡ (caller, request) ∷ []
  table : Table
  table_is : table_by kept request ≡ Some table
  effect_is : made.Answer caller (table_message table) ≡ e

table_made : (kept : Kept) (sender : Caller) (request : Request) (t : Option Table) → table_by kept request ≡ t → (e : Effect)
    → IsIn (option_map_or (λ table. answer (table_message table) sender ∷ []) t []) e → IsTable kept ((sender, request) ∷ []) e
table_made kept sender request None is e at = absurd at
table_made kept sender request (Some table) is e (inl same) = record { caller = sender; request = request; new_is = refl; table = table; table_is = is; effect_is = same }
table_made kept sender request (Some table) is e (inr none) = absurd none

module _ {M : Type 0} where
  -- what the Ringmaster becomes by new requests, and what it makes
  record HasMade (m : Made M) (kept : Kept) (new : Requests) : Type 0 where
    acting : m.acting ≡ ringmaster (fold kept_by kept (asked new))
    makes : (e : Effect) → IsIn m.came.effects e → IsTable kept new e

  made_by_request : (kept : Kept) (sender : Caller) (o : Option Request)
      → HasMade (by_ring (option_map_or (performs kept sender) o (kept, a_drop))) kept (option_map_or (λ request. (sender, request) ∷ []) o [])
  made_by_request kept sender None = record { acting = refl; makes = λ e at. absurd at }
  made_by_request kept sender (Some request) = record { acting = refl; makes = table_made kept sender request (table_by kept request) refl }

module _ {M : Type 0} (declared : M → Signature) (turn : M → List ValueTree → ℕ → List ValueTree → List Outcome → NextTurn) where
  made_by_heard : (d : Deployment) (step from : ℕ) (heard : Heard Purpose) (kept : Kept) → HasMade {M = M} (hears declared turn d step from heard (ringmaster kept)) kept (request_of_heard {M = M} (ringmaster kept) heard)
  made_by_heard d step from Dropped kept = record { acting = refl; makes = λ e at. absurd at }
  made_by_heard d step from Taken kept = record { acting = refl; makes = λ e at. absurd at }
  made_by_heard d step from (Called sender message) kept = made_by_request kept sender (accepted_request kept message)
  made_by_heard d step from (Returned number purpose message) kept = record { acting = refl; makes = λ e at. absurd at }

  -- ---- a step

  record StepsSo (step : ℕ) (event : Event) (n : NodeState M) (kept : Kept) : Type 0 where
    acting : acting_by declared turn step event n ≡ ringmaster (fold kept_by kept (asked (requested_by event n)))
    makes : (e : Effect) → IsIn (effects_in declared turn step event n) e → IsTable kept (requested_by event n) e

  steps_so : (step : ℕ) (event : Event) (n : NodeState M) (kept : Kept) → n.acting ≡ ringmaster kept → StepsSo step event n kept
  steps_so step event n kept is = subst (λ (a : Acting M). StepsSo step event (record n { acting = a }) kept) (sym is) (by_event event)
    where
      by_event : (ev : Event) → StepsSo step ev (record n { acting = ringmaster kept }) kept
      by_event (comes.Datagram from bytes) = (let m = made_by_heard n.deployment step from (heard_from n.wire from (reading bytes)) kept in record { acting = m.acting; makes = m.makes })
      by_event comes.Tick = record { acting = refl; makes = λ e at. absurd at }
      by_event (comes.Down other) = record { acting = refl; makes = λ e at. absurd at }
      by_event comes.Join = record { acting = refl; makes = λ e at. absurd at }

module _ {M : Type 0} (declared : M → Signature) (turn : M → List ValueTree → ℕ → List ValueTree → List Outcome → NextTurn) (first : M → List ValueTree)
    (d : Deployment) (good : IsDeployment d) (node : ℕ) where
  abbrev b : Beginning
  b = beginning_of d node

  abbrev IsTableEffect : Requests → Effect → Type 0
  IsTableEffect requests (made.Call to message purpose) = ⊥
  IsTableEffect requests (made.Answer caller message) = IsTableFor d.troupes requests caller message

  more_tables : (requests new : Requests) (e : Effect) → IsTableEffect requests e → IsTableEffect (requests ++ new) e
  more_tables requests new (made.Call to message purpose) is = absurd is
  more_tables requests new (made.Answer caller message) is =
      record {
        before = is.before;
        request = is.request;
        behind = is.behind ++ new;
        requests_are = ap (λ l. l ++ new) is.requests_are ∙ append_assoc is.before ((caller, is.request) ∷ is.behind) new;
        table = is.table;
        table_is = is.table_is;
        message_is = is.message_is;
      }

  new_table : (requests new : Requests) (e : Effect) → IsTable (kept_after d.troupes (asked requests)) new e → IsTableEffect (requests ++ new) e
  new_table requests new e t =
      subst (IsTableEffect (requests ++ new)) t.effect_is
      (record { before = requests; request = t.request; behind = []; requests_are = ap (λ l. requests ++ l) t.new_is; table = t.table; table_is = t.table_is; message_is = refl })

  -- the Ringmaster's node goes on
  record Rings (requests : Requests) (acts : WireActs Purpose) (n : NodeState M) : Type 0 where
    acting : n.acting ≡ ringmaster (kept_after d.troupes (asked requests))
    stands : WireStands n.wire b acts
    made_all : (e : Effect) → IsAmong acts (act_of e) → IsTableEffect requests e

  kept_more : (requests new : Requests) → fold kept_by (kept_after d.troupes (asked requests)) (asked new) ≡ kept_after d.troupes (asked (requests ++ new))
  kept_more requests new =
      sym (fold-append kept_by (kept_after d.troupes []) (asked requests) (asked new)) ∙ ap (kept_after d.troupes) (sym (map-append (λ (r : Caller × Request). r.1) requests new))

  record RingsOn (requests : Requests) (acts : WireActs Purpose) (step : ℕ) (event : Event) (n : NodeState M) (ended : NodeState M × Outputs) : Type 0 where
    rings : Rings (requests ++ requested_by event n) (with_all acts (acts_in declared turn step event n)) ended.0
    given : All (IsSent b good.format (is_tick event) (with_all acts (acts_in declared turn step event n))) ended.1.gives

  rings_on : (requests : Requests) (acts : WireActs Purpose) (step : ℕ) (event : Event) (n : NodeState M) (ended : NodeState M × Outputs) → Rings requests acts n → IsOfOther d node event → IsRead event
      → node_step.step_node declared turn step event n ≡ Ok ended → RingsOn requests acts step event n ended
  rings_on requests acts step event n ended r other read is =
      let e = ends_by declared turn step event n ended is in
      let so = steps_so declared turn step event n (kept_after d.troupes (asked requests)) r.acting in
      let g = step_gives declared turn b (IsSent b good.format (is_tick event)) (omega arith) acts step event n ended (sent_brings b good.format acts event) r.stands (can_come event other) read is in
      record {
        rings = record {
          acting = e.acting ∙ so.acting ∙ ap ringmaster (kept_more requests (requested_by event n));
          stands = g.stands;
          made_all = λ x among. elim (among_all acts (acts_in declared turn step event n) (act_of x) among) [
            | inl before ↦ more_tables requests (requested_by event n) x (r.made_all x before)
            | inr behind ↦ elim (in_both (came_by event) (flat_map (handed_by (wire_behind event n)) (effects_in declared turn step event n)) (act_of x) behind) [
              | inl came ↦ absurd (no_event event x came)
              | inr handed ↦ new_table requests (requested_by event n) x (so.makes x (in_effects (wire_behind event n) (effects_in declared turn step event n) x handed))
            ]
          ];
        };
        given = g.given;
      }
    where
      can_come : (ev : Event) → IsOfOther d node ev → CanCome n ev
      can_come (comes.Datagram from bytes) is = other_by b acts n.wire from r.stands is
      can_come comes.Tick is = tt
      can_come (comes.Down down) is = other_by b acts n.wire down r.stands is
      can_come comes.Join is = tt

  -- ---- boot

  rings_at_boot : (begun_ : NodeState M) (outputs : Outputs) → node < length d.nodes → booting.boot_node declared turn first d None node ≡ Ok (begun_, outputs) → Rings [] (boot_acts declared turn first d node) begun_
  rings_at_boot begun_ outputs within is =
      let m = made_at_boot declared turn first d (home_of d node) None in
      let c = concludes (record { deployment = d; wire = fresh_wire d node; acting = m.acting; dropped = 0 }) [] m (begun_, outputs) is in
      let g = boot_gives declared turn first d None node (IsSent b good.format false) (begun_, outputs) within (sent_carries b good.format) is in
      record {
        acting = c.acting ∙ elim (home_of d node) as (λ h. (made_at_boot declared turn first d h None).acting ≡ ringmaster (kept_after d.troupes [])) [ None ↦ refl | (Some home) ↦ refl ];
        stands = g.stands;
        made_all = λ x among. elim (among_all begun (acts_at_boot declared turn first d None node) (act_of x) among) [
          | inl none ↦ absurd none
          | inr here ↦ absurd (none_made x (in_effects (fresh_wire d node) (made_at_boot declared turn first d (home_of d node) None).came.effects x here))
        ];
      }
    where
      none_made : (x : Effect) → IsIn (made_at_boot declared turn first d (home_of d node) None).came.effects x → ⊥
      none_made x = elim (home_of d node) as (λ h. IsIn (made_at_boot declared turn first d h None).came.effects x → ⊥) [ None ↦ λ at. at | (Some home) ↦ λ at. at ]

  -- ---- all that comes

  rings_behind : (requests : Requests) (acts : WireActs Purpose) (events : Events) (n last : NodeState M) → Rings requests acts n → All (λ (e : ℕ × Event). IsOfOther d node e.1) events
      → Comes declared turn events n last → Rings (with_requests declared turn requests events n) (with_events declared turn acts events n) last
  rings_behind requests acts [] n last r others come = subst (λ (x : NodeState M). Rings requests acts x) (sym come) r
  rings_behind requests acts (next ∷ events) n last r others come =
      let more = requests ++ requested_by next.1 n in
      let acts_then = with_all acts (acts_in declared turn next.0 next.1 n) in
      let on_ = rings_on requests acts next.0 next.1 n come.0 r (All-head (λ (e : ℕ × Event). IsOfOther d node e.1) next events others) (is_read next.1 come.1) come.2 in
      subst
      (λ (e : node_step.Ended M). Rings (with_rest (with_requests declared turn more events) requests e) (with_rest (with_events declared turn acts_then events) acts e) last)
      (sym come.2)
      (rings_behind more acts_then events come.0.0 last on_.rings (All-tail (λ (e : ℕ × Event). IsOfOther d node e.1) next events others) come.3)

  -- ---- what is sent

  justified : (requests : Requests) (acts : WireActs Purpose) (n : NodeState M) (ticks : Bool) → Rings requests acts n → (give : Give) → IsSent b good.format ticks acts give
      → IsJustified d.troupes requests b acts ticks give
  justified requests acts n ticks r give is = record { sent = is.1; cause = by_cause is.1.segment is.1.cause }
    where
      by_cause : (s : Piece) (c : IsSaidFor b.first b.format ticks (acts_at (pair_of b) give.to acts) s) → HasCause d.troupes requests b acts ticks give.to s c
      by_cause s (inl call) = (let was = was_called b acts give.to s.call call.message call.handed in r.made_all (made.Call give.to call.message was.purpose) was.among)
      by_cause s (inr (inl return_)) = r.made_all (made.Answer (record { node = give.to; number = s.call }) return_.message) (was_answered b acts give.to s.call return_.message return_.handed)
      by_cause s (inr (inr other)) = tt

module _ {M : Type 0} (declared : M → Signature) (turn : M → List ValueTree → ℕ → List ValueTree → List Outcome → NextTurn) (first : M → List ValueTree) (d : Deployment) (node : ℕ) where
  pub steps_justified : (events : Events) (begun_ before : NodeState M) (step : ℕ) (event : Event) (ended : NodeState M × Outputs) → IsNext declared turn first d node events begun_ before step event ended
      → StepIsJustified declared turn first d node events begun_ before step event ended
  steps_justified events begun_ before step event ended next =
      let good = next.can.deployment in
      let r = rings_behind declared turn first d good node [] (boot_acts declared turn first d node) events begun_ before
      (rings_at_boot declared turn first d good node begun_ next.outputs next.can.within next.boots) next.others next.comes in
      let requests = with_requests declared turn [] events begun_ in
      let acts = with_events declared turn (boot_acts declared turn first d node) events begun_ in
      let on_ = rings_on declared turn first d good node requests acts step event before ended r next.other (is_read event next.octets) next.ends in
      All-weaker (IsSent (beginning_of d node) good.format (is_tick event) (with_all acts (acts_in declared turn step event before))) _
      (justified declared turn first d good node (requests ++ requested_by event before) (with_all acts (acts_in declared turn step event before)) ended.0 (is_tick event) on_.rings) ended.1.gives on_.given
