-- There is one node run for the events that come to a node.
use Rattle.std.proofs.Common.{◌≡◌, ℕ, ◌<◌, ◌≤◌, ◌⊎◌, inl, inr, Bool, true, false, cond, not, ◌&&◌, if◌then◌else◌, List, [], ◌∷◌, ◌++◌, length, map, filter, All, Option, None, Some, Result, Ok, Err, refl, sym, ap, subst, ◌∙◌, arith, append_assoc, append-nil}
use Rattle.std.specs.Prelude.{◌==◌, Contains, nat_eq, option_map, option_and_then}
use Rattle.std.specs.List.{flat_map}
use Rattle.std.proofs.lemmas.Bool.{eqb-true, eq-eqb, true≢false}
use Rattle.std.proofs.lemmas.List.{same_from_push, append_cancel_right}
use Rattle.std.proofs.lemmas.List.Elements.{All-nil, All-push, filter-append}
use Rattle.circus_value.specs.declared.caller.Caller.{Caller}
use Rattle.circus_segment.specs.Segment.{Piece, reading}
use Rattle.circus_segment.specs.declared.fault.SegmentFault.{SegmentFault}
use Rattle.circus_exchange.specs.declared.taken.Arrived.{Arrived}
use Rattle.circus_exchange.specs.declared.taken.Arrived.TheVariants.{Nothing, ArrivedCall, ArrivedReturn}
use Rattle.circus_header.specs.declared.answer.Reply.{Reply}
use Rattle.circus_header.specs.declared.answer.ReturnHeader.{ReturnHeader}
use Rattle.circus_header.specs.declared.answer.ReturnHeader.TheVariants as says
use Rattle.circus_collate.specs.declared.deployment.Deployment.{Deployment}
use Rattle.circus_collate.specs.declared.deployment.Troupe.{Troupe}
use Rattle.circus_collate.specs.declared.view.View.{View}
use Rattle.circus_transfer.specs.declared.joiner.Joiner.{Joiner}
use Rattle.circus_ring.specs.RingTable.{boot_views}
use Rattle.circus_model.specs.Behaviour.{Behaviour}
use Rattle.circus_model.specs.declared.signature.Signature.{Signature}
use Rattle.circus_limits.specs.Limits.{limit_of}
use Rattle.circus_record.specs.declared.record.MemberRecord.{MemberRecord}
use Rattle.circus_gather.specs.declared.held.HeldCall.{HeldCall}
use Rattle.circus_performing.specs.Performing.{is_active}
use Rattle.circus_pair.specs.Sending.{takes_after}
use Rattle.circus_pair.specs.Standing.{arrival_after}
use Rattle.circus_wire.specs.Wire.{Beginning, hear_arrival, told_return}
use Rattle.circus_wire.specs.WireActs.{WireAct, WireActs, begun, CallTo, AnswerTo, CameFrom, TickAll, StopOf, acts_at, made_to, purpose_of}
use Rattle.circus_wire.specs.WireStanding.{pair_of}
use Rattle.circus_wire.specs.declared.delivery.Heard.{Heard}
use Rattle.circus_wire.specs.declared.delivery.Heard.TheVariants.{Dropped, Taken, Called, Returned}
use Rattle.circus_pair.specs.Lawful.{is_stopped_after}
use Rattle.circus_member_rules.specs.declared.place.Place.{Place}
use Rattle.circus_member_rules.specs.declared.occurrence.AskName.{AskName}
use Rattle.circus_member_rules.specs.declared.occurrence.Difference.{Difference}
use Rattle.circus_member_rules.specs.declared.occurrence.Effect.{Effect}
use Rattle.circus_member_rules.specs.declared.occurrence.Effect.TheVariants as effects
use Rattle.circus_member_rules.specs.declared.occurrence.Occurrence.{Occurrence}
use Rattle.circus_member_rules.specs.declared.occurrence.Occurrence.TheVariants as occurs
use Rattle.circus_member_rules.specs.declared.occurrence.Purpose.{Purpose}
use Rattle.circus_member_rules.specs.declared.occurrence.Purpose.TheVariants as for
use Rattle.circus_node.specs.Accepting.{imported_procedure, recorded_ask, said_by}
use Rattle.circus_node.specs.Bodies.{outcome_at}
use Rattle.circus_node.specs.Headers.{return_in}
use Rattle.circus_world_theory.proofs.Border.Makers.{IsIn, IsAmong, among_all, in_both, in_flat_map}
use Rattle.circus_world_theory.specs.Histories.{beginning_of}
use Rattle.circus_world_theory.specs.NodeActs.{with_all, came_by, acts_of_datagram}
use Rattle.circus_node.specs.Booting.{beginning_in, home_in}
use Rattle.circus_node.specs.Sending.{is_sendable}
use Rattle.circus_node.specs.Trace.{Trace, booted, stepped}
use Rattle.circus_node.specs.declared.event.Event.{Event}
use Rattle.circus_node.specs.declared.event.Event.TheVariants as comes
use Rattle.circus_node.specs.declared.event.Outputs.{Outputs}
use Rattle.circus_member_theory.specs.Past as past
use Rattle.circus_member_theory.specs.Past.{Past}
use Rattle.circus_member_theory.specs.Living.{phase_at_boot}
use Rattle.circus_member_theory.specs.Asks.{is_of_ask, knows, first_calls, calls_behind, open_asks, new_asks, calls_owed}
use Rattle.circus_member_theory.specs.Differences.{differences}
use Rattle.circus_member_theory.specs.Made.{asks, requests}
use Rattle.circus_member_theory.specs.Requests.{is_no_ask, is_request, for_what_came, lookups, requests_owed}
use Rattle.circus_headline_theory.specs.Owed.Living.{made_in, told_in}
use Rattle.circus_world_theory.specs.Happened.{with_one}
use Rattle.circus_world_theory.specs.NodeLives.{Events}
use Rattle.circus_headline_theory.specs.Datagrams.Due.{WasSo, IsForAsk}
use Rattle.circus_headline_theory.proofs.Datagrams.Asked.{call_was_due}
use Rattle.circus_headline_theory.proofs.Datagrams.Membership.{in_first, in_second, in_map, mapped_in, filtered_in}
use Rattle.circus_headline_theory.proofs.Datagrams.Requested.{WasDue}
use Rattle.circus_headline_theory.proofs.Datagrams.Returning.{is_so, return_was_due}
use Rattle.circus_headline_theory.specs.NodeRun.{occurrence_by_record, accepted_return, happens_by, past_of, runs_at_boot, IsOrderedFor, IsOrdered, IsNodeRun}
use Rattle.circus_headline_theory.specs.Trace.{events_of, made_of, told_of, now, Rises, handed_over, acts_in_step, acts_of, gives_for_all, suspects_in, heard_in, SendsWhatIsOwed}
use Rattle.circus_headline_theory.specs.Numbers.{HasNumbers}
use Rattle.circus_headline_theory.specs.Owed.OrderedMakes.{made_at_boot, BeginsRight}
use Rattle.circus_headline_theory.proofs.Accepting.{purposed}
use Rattle.circus_headline_theory.proofs.Asks.{callee_of, recorded, imported_recorded}
use Rattle.circus_headline_theory.proofs.Agree.{Agree, was_below, was_booted, IsSince, agree_since}
use Rattle.circus_headline_theory.proofs.Alike.{calls_same, news_same, step_same}
use Rattle.circus_headline_theory.proofs.One.{no_more, there_is_one_record}
use Rattle.circus_headline_theory.proofs.Sends.{made_behind}

-- ---- a trace as it was

-- this is a trace as it was at the end of one of its steps
abbrev WasTrace : Trace → Trace → Type 0
WasTrace (booted made outputs) u = u ≡ booted made outputs
WasTrace (stepped t at event made outputs) u = (u ≡ stepped t at event made outputs) ⊎ WasTrace t u

abbrev IsBoot : Trace → Type 0
IsBoot (booted made outputs) = Unit {0}
IsBoot (stepped t at event made outputs) = ⊥

-- without its last step, if it has one
abbrev before_of : Trace → Trace
before_of (booted made outputs) = booted made outputs
before_of (stepped t at event made outputs) = t

trace_self : (t : Trace) → WasTrace t t
trace_self (booted made outputs) = refl
trace_self (stepped t at event made outputs) = inl refl

was_before : (t u : Trace) (at : ℕ) (event : Event) (made : List Effect) (outputs : Outputs) → WasTrace t (stepped u at event made outputs) → WasTrace t u
was_before (booted m o) u at event made outputs same = absurd (subst IsBoot (sym same) tt)
was_before (stepped t n e m o) u at event made outputs (inl same) = inr (subst (λ x. WasTrace t x) (sym (ap before_of same)) (trace_self t))
was_before (stepped t n e m o) u at event made outputs (inr was) = inr (was_before t u at event made outputs was)

was_early : (t u : Trace) → Rises t → WasTrace t u → now u ≤ now t
was_early (booted m o) u rises same = (let n = ap now same in omega (arith, n))
was_early (stepped t at event m o) u rises (inl same) = (let n = ap now same in omega (arith, n))
was_early (stepped t at event m o) u rises (inr was) = (let low = was_early t u rises.0 was in let later = rises.1 in omega (arith, low, later))

was_rising : (t u : Trace) → Rises t → WasTrace t u → Rises u
was_rising (booted m o) u rises same = subst Rises (sym same) tt
was_rising (stepped t at event m o) u rises (inl same) = subst Rises (sym same) rises
was_rising (stepped t at event m o) u rises (inr was) = was_rising t u rises.0 was

first_was : (t u : Trace) → WasTrace t u → made_at_boot u ≡ made_at_boot t
first_was (booted m o) u same = ap made_at_boot same
first_was (stepped t at event m o) u (inl same) = ap made_at_boot same
first_was (stepped t at event m o) u (inr was) = first_was t u was

-- ---- two traces with the same events

no_push : {X : Type 0} (xs : List X) (x : X) → [] ≡ xs ++ x ∷ [] → ⊥
no_push [] x is = no_more x [] (sym is)
no_push (y ∷ xs) x is = no_more y (xs ++ x ∷ []) (sym is)

rise_alike : (t u : Trace) → events_of t ≡ events_of u → Rises t → (now u ≡ now t) × Rises u
rise_alike (booted made outputs) (booted others sent) same rises = (refl, tt)
rise_alike (booted made outputs) (stepped u n e others sent) same rises = absurd (no_push (events_of u) (n, e) same)
rise_alike (stepped t at event made outputs) (booted others sent) same rises = absurd (no_push (events_of t) (at, event) (sym same))
rise_alike (stepped t at event made outputs) (stepped u n e others sent) same rises =
    let both = same_from_push (events_of t) (events_of u) (at, event) (n, e) same in
    let before = rise_alike t u both.0 rises.0 in
    let step : at ≡ n = ap (λ (x : ℕ × Event). x.0) both.1 in
    let early = before.0 in
    let later = rises.1 in
    (sym step, (before.1, omega (arith, early, later, step)))

-- ---- what was made, by its steps

made_early : (t : Trace) → Rises t → (step : ℕ) (e : Effect) → IsIn (made_of t) (step, e) → step ≤ now t
made_early (booted made outputs) rises step e at = (let m = in_map (λ (x : Effect). (0, x)) made (step, e) at in let same = ap (λ (x : ℕ × Effect). x.0) m.2 in omega (arith, same))
made_early (stepped t n event made outputs) rises step e at = elim (in_both (made_of t) (made_in n made) (step, e) at) [
  | inl before ↦ (let low = made_early t rises.0 step e before in let later = rises.1 in omega (arith, low, later))
  | inr here ↦ (let m = in_map (λ (x : Effect). (n, x)) made (step, e) here in let same = ap (λ (x : ℕ × Effect). x.0) m.2 in omega (arith, same))
]

made_first : (t : Trace) (e : Effect) → IsIn (made_at_boot t) e → IsIn (made_of t) (0, e)
made_first (booted made outputs) e at = mapped_in (λ (x : Effect). (0, x)) made e at
made_first (stepped t n event made outputs) e at = in_first (made_of t) (made_in n made) (0, e) (made_first t e at)

made_since : (t u : Trace) → WasTrace t u → (x : ℕ × Effect) → IsIn (made_of u) x → IsIn (made_of t) x
made_since (booted made outputs) u same x at = subst (λ v. IsIn (made_of v) x) same at
made_since (stepped t n event made outputs) u (inl same) x at = subst (λ v. IsIn (made_of v) x) same at
made_since (stepped t n event made outputs) u (inr was) x at = in_first (made_of t) (made_in n made) x (made_since t u was x at)

-- ---- what was handed over was made

abbrev as_call : Effect → WireAct Purpose → Effect
as_call e (CallTo to message purpose) = effects.Call to message purpose
as_call e (AnswerTo caller message) = e
as_call e (CameFrom from s) = e
as_call e TickAll = e
as_call e (StopOf node) = e

abbrev is_call : WireAct Purpose → Bool
is_call (CallTo to message purpose) = true
is_call (AnswerTo caller message) = false
is_call (CameFrom from s) = false
is_call TickAll = false
is_call (StopOf node) = false

no_call : (act : WireAct Purpose) (to : ℕ) (message : List ℕ) (purpose : Purpose) → is_call act ≡ false → act ≡ CallTo to message purpose → ⊥
no_call act to message purpose none same = true≢false (sym (ap is_call same) ∙ none)

module _ (b : Beginning) where
  handed_call : (acts : WireActs Purpose) (e : Effect) (to : ℕ) (message : List ℕ) (purpose : Purpose) → IsIn (handed_over b acts e) (CallTo to message purpose) → e ≡ effects.Call to message purpose
  handed_call acts (effects.Call other m p) to message purpose at = by_test (not (is_stopped_after (acts_at (pair_of b) other acts)) && is_sendable b.format m) at
    where
      by_test : (t : Bool) → IsIn (if t then CallTo other m p ∷ [] else []) (CallTo to message purpose) → effects.Call other m p ≡ effects.Call to message purpose
      by_test true (inl same) = ap (as_call (effects.Call other m p)) same
      by_test true (inr none) = absurd none
      by_test false none = absurd none
  handed_call acts (effects.Answer caller m) to message purpose at = by_test (is_sendable b.format m) at
    where
      by_test : (t : Bool) → IsIn (if t then AnswerTo caller m ∷ [] else []) (CallTo to message purpose) → effects.Answer caller m ≡ effects.Call to message purpose
      by_test true (inl same) = absurd (no_call (AnswerTo caller m) to message purpose refl same)
      by_test true (inr none) = absurd none
      by_test false none = absurd none

  all_handed : (acts : WireActs Purpose) (made : List Effect) (to : ℕ) (message : List ℕ) (purpose : Purpose) → IsIn (flat_map (handed_over b acts) made) (CallTo to message purpose) → IsIn made (effects.Call to message purpose)
  all_handed acts made to message purpose at =
      let found = in_flat_map (handed_over b acts) made (CallTo to message purpose) at in
      subst (IsIn made) (handed_call acts found.0 to message purpose found.2) found.1

  came_no_call : (event : Event) (to : ℕ) (message : List ℕ) (purpose : Purpose) → IsIn (came_by event) (CallTo to message purpose) → ⊥
  came_no_call (comes.Datagram from bytes) to message purpose at = by_reading (reading bytes) at
    where
      by_reading : (r : Result Piece SegmentFault) → IsIn (acts_of_datagram from r) (CallTo to message purpose) → ⊥
      by_reading (Ok s) (inl same) = no_call (CameFrom from s) to message purpose refl same
      by_reading (Ok s) (inr none) = none
      by_reading (Err fault) none = none
  came_no_call comes.Tick to message purpose (inl same) = no_call TickAll to message purpose refl same
  came_no_call comes.Tick to message purpose (inr none) = none
  came_no_call (comes.Down node) to message purpose (inl same) = no_call (StopOf node) to message purpose refl same
  came_no_call (comes.Down node) to message purpose (inr none) = none
  came_no_call comes.Join to message purpose none = none

  -- a call that was handed over
  call_was_made : (t : Trace) (to : ℕ) (message : List ℕ) (purpose : Purpose) → IsAmong (acts_of b t) (CallTo to message purpose) → (step : ℕ) × IsIn (made_of t) (step, effects.Call to message purpose)
  call_was_made (booted made outputs) to message purpose at = elim (among_all begun (acts_in_step b begun [] made) (CallTo to message purpose) at) [
    | inl none ↦ absurd none
    | inr here ↦ (0, mapped_in (λ (x : Effect). (0, x)) made (effects.Call to message purpose) (all_handed (with_all begun []) made to message purpose here))
  ]
  call_was_made (stepped t n event made outputs) to message purpose at = elim (among_all (acts_of b t) (acts_in_step b (acts_of b t) (came_by event) made) (CallTo to message purpose) at) [
    | inl before ↦ (let found = call_was_made t to message purpose before in (found.0, in_first (made_of t) (made_in n made) (found.0, effects.Call to message purpose) found.1))
    | inr here ↦ elim (in_both (came_by event) (flat_map (handed_over b (with_all (acts_of b t) (came_by event))) made) (CallTo to message purpose) here) [
      | inl came ↦ absurd (came_no_call event to message purpose came)
      | inr handed ↦ (
        n,
        in_second (made_of t) (made_in n made) (n, effects.Call to message purpose)
            (mapped_in (λ (x : Effect). (n, x)) made (effects.Call to message purpose) (all_handed (with_all (acts_of b t) (came_by event)) made to message purpose handed)),
      )
    ]
  ]

-- ---- what is accepted, by either record

module _ (d : Deployment) (declared : Signature) (own : ℕ) (one other : MemberRecord) (from : ℕ) where
  -- the two say the same of what a return answers
  abbrev SaysSame : Purpose → Type 0
  SaysSame (for.Ask name server) = option_and_then (imported_procedure declared) (recorded_ask one name) ≡ option_and_then (imported_procedure declared) (recorded_ask other name)
  SaysSame (for.Ring request) = Unit {0}
  SaysSame for.Fetch = Unit {0}

  abbrev AnswersSame : Heard Purpose → Type 0
  AnswersSame Dropped = Unit {0}
  AnswersSame Taken = Unit {0}
  AnswersSame (Called sender message) = Unit {0}
  AnswersSame (Returned number purpose message) = SaysSame purpose

  heard_same : (b : Beginning) (acts : WireActs Purpose) → ((purpose : Purpose) (message : List ℕ) → IsAmong acts (CallTo from message purpose) → SaysSame purpose)
      → (r : Result Piece SegmentFault) → AnswersSame (heard_in b acts from r)
  heard_same b acts each (Err fault) = tt
  heard_same b acts each (Ok s) = by_test (takes_after (pair_of b) (acts_at (pair_of b) from acts) s)
    where
      by_purpose : (number : ℕ) (message : List ℕ) (o : Option Purpose) → purpose_of (pair_of b) from acts number ≡ o → AnswersSame (told_return number message o)
      by_purpose number message None is = tt
      by_purpose number message (Some purpose) is = (let p = purposed b from acts number purpose is in each purpose p.0 p.1)

      by_arrived : (x : Arrived) → AnswersSame (hear_arrival (purpose_of (pair_of b) from acts) from x)
      by_arrived Nothing = tt
      by_arrived (ArrivedCall number message) = tt
      by_arrived (ArrivedReturn number message) = by_purpose number message (purpose_of (pair_of b) from acts number) refl

      by_test : (t : Bool) → AnswersSame (if t then hear_arrival (purpose_of (pair_of b) from acts) from (arrival_after (pair_of b) (acts_at (pair_of b) from acts) s) else Dropped)
      by_test true = by_arrived (arrival_after (pair_of b) (acts_at (pair_of b) from acts) s)
      by_test false = tt

  answer_same : (name : AskName) (server : ℕ) (message : List ℕ) → SaysSame (for.Ask name server) → (o : Option (ReturnHeader × ℕ))
      → option_and_then (λ (read : ReturnHeader × ℕ). said_by d declared (recorded_ask one name) name server from read.0 read.1 message) o
      ≡ option_and_then (λ (read : ReturnHeader × ℕ). said_by d declared (recorded_ask other name) name server from read.0 read.1 message) o
  answer_same name server message same None = refl
  answer_same name server message same (Some (says.Reply clock, at)) =
      λ j. option_map (occurs.Replied name from)
      (if length clock == length d.troupes
      then option_map (λ outcome. let r : Reply = record { clock = clock; outcome = outcome } in r)
      (option_and_then (λ p. outcome_at p (limit_of d.format) at message) (same j))
      else None)
  answer_same name server message same (Some (says.Stale incarnation, at)) = refl
  answer_same name server message same (Some (says.Before first, at)) = refl
  answer_same name server message same (Some (says.Snapshot count, at)) = refl
  answer_same name server message same (Some (says.Table, at)) = refl

  return_same : (purpose : Purpose) (message : List ℕ) → SaysSame purpose → accepted_return d declared one from purpose message ≡ accepted_return d declared other from purpose message
  return_same (for.Ask name server) message same = answer_same name server message same (return_in message)
  return_same (for.Ring request) message same = refl
  return_same for.Fetch message same = refl

  accepted_same : (h : Heard Purpose) → AnswersSame h → occurrence_by_record d declared own one from h ≡ occurrence_by_record d declared own other from h
  accepted_same Dropped same = refl
  accepted_same Taken same = refl
  accepted_same (Called sender message) same = refl
  accepted_same (Returned number purpose message) same = return_same purpose message same

-- ---- the same but for the differences

module _ (b : Beginning) where
  abbrev SameSent : List Effect → Outputs → List Effect → Outputs → Type 0
  SameSent made outputs others sent = (made ≡ others) × (outputs.gives ≡ sent.gives) × (outputs.suspects ≡ sent.suspects)

  abbrev SameBut : Trace → Trace → Type 0
  SameBut (booted made outputs) (booted others sent) = SameSent made outputs others sent
  SameBut (booted made outputs) (stepped u n e others sent) = ⊥
  SameBut (stepped t at event made outputs) (booted others sent) = ⊥
  SameBut (stepped t at event made outputs) (stepped u n e others sent) = SameBut t u × (at ≡ n) × (event ≡ e) × SameSent made outputs others sent

  same_acts : (t u : Trace) → SameBut t u → acts_of b t ≡ acts_of b u
  same_acts (booted made outputs) (booted others sent) same = ap (λ m. with_all begun (acts_in_step b begun [] m)) same.0
  same_acts (booted made outputs) (stepped u n e others sent) same = absurd same
  same_acts (stepped t at event made outputs) (booted others sent) same = absurd same
  same_acts (stepped t at event made outputs) (stepped u n e others sent) same =
      let before = same_acts t u same.0 in
      λ j. with_all (before j) (acts_in_step b (before j) (came_by (same.2 j)) (same.3.0 j))

  sends_then : (t u : Trace) → WasTrace t u → SendsWhatIsOwed b t → SendsWhatIsOwed b u
  sends_then (booted made outputs) u same is = subst (SendsWhatIsOwed b) (sym same) is
  sends_then (stepped t at event made outputs) u (inl same) is = subst (SendsWhatIsOwed b) (sym same) is
  sends_then (stepped t at event made outputs) u (inr was) is = sends_then t u was is.0

-- ---- differences, by their steps

of_step : {X : Type 0} → ℕ → List (ℕ × X) → List X
of_step step [] = []
of_step step (x ∷ xs) = cond (nat_eq x.0 step) (x.1 ∷ of_step step xs) (of_step step xs)

not_step : (step n : ℕ) → (n ≡ step → ⊥) → nat_eq n step ≡ false
not_step step n other = by_test (nat_eq n step) refl
  where
    by_test : (t : Bool) → nat_eq n step ≡ t → nat_eq n step ≡ false
    by_test true is = absurd (other (eqb-true n step is))
    by_test false is = is

module _ {X : Type 0} (step : ℕ) where
  of_step-append : (xs ys : List (ℕ × X)) → of_step step (xs ++ ys) ≡ of_step step xs ++ of_step step ys
  unfolding of_step
  of_step-append [] ys = refl
  of_step-append (x ∷ xs) ys = by_test (nat_eq x.0 step) (of_step-append xs ys)
    where
      by_test : (t : Bool) → of_step step (xs ++ ys) ≡ of_step step xs ++ of_step step ys
          → cond t (x.1 ∷ of_step step (xs ++ ys)) (of_step step (xs ++ ys)) ≡ cond t (x.1 ∷ of_step step xs) (of_step step xs) ++ of_step step ys
      by_test true rest = ap (λ l. x.1 ∷ l) rest
      by_test false rest = rest

  of_own : (xs : List X) → of_step step (map (λ (x : X). (step, x)) xs) ≡ xs
  unfolding of_step
  of_own [] = refl
  of_own (x ∷ xs) = ap (λ t. cond t (x ∷ of_step step (map (λ (y : X). (step, y)) xs)) (of_step step (map (λ (y : X). (step, y)) xs))) (eq-eqb step step refl) ∙ ap (λ l. x ∷ l) (of_own xs)

  of_other : (n : ℕ) → (n ≡ step → ⊥) → (xs : List X) → of_step step (map (λ (x : X). (n, x)) xs) ≡ []
  unfolding of_step
  of_other n other [] = refl
  of_other n other (x ∷ xs) = ap (λ t. cond t (x ∷ of_step step (map (λ (y : X). (n, y)) xs)) (of_step step (map (λ (y : X). (n, y)) xs))) (not_step step n other) ∙ of_other n other xs

none_told : (t : Trace) (step : ℕ) → Rises t → now t < step → of_step step (told_of t) ≡ []
none_told (booted made outputs) step rises later = of_other step 0 (λ same. omega (arith, same, later)) outputs.differences
none_told (stepped t at event made outputs) step rises later =
    of_step-append step (told_of t) (told_in at outputs.differences)
    ∙ ap (λ l. l ++ of_step step (told_in at outputs.differences)) (none_told t step rises.0 (let before = rises.1 in omega (arith, before, later)))
    ∙ of_other step at (λ same. omega (arith, same, later)) outputs.differences

outputs_same : (one other : Outputs) → one.gives ≡ other.gives → one.suspects ≡ other.suspects → one.differences ≡ other.differences → one ≡ other
outputs_same one other gives suspects differences = λ j. record { gives = gives j; suspects = suspects j; differences = differences j }

module _ (b : Beginning) where
  traces_same : (t u : Trace) → Rises t → Rises u → SameBut b t u → told_of t ≡ told_of u → t ≡ u
  traces_same (booted made outputs) (booted others sent) t_rises u_rises same hear_arrival =
      let differences = sym (of_own 0 outputs.differences) ∙ ap (of_step 0) hear_arrival ∙ of_own 0 sent.differences in
      λ j. booted (same.0 j) (outputs_same outputs sent same.1 same.2 differences j)
  traces_same (booted made outputs) (stepped u n e others sent) t_rises u_rises same hear_arrival = absurd same
  traces_same (stepped t at event made outputs) (booted others sent) t_rises u_rises same hear_arrival = absurd same
  traces_same (stepped t at event made outputs) (stepped u n e others sent) t_rises u_rises same hear_arrival =
      let before = traces_same t u t_rises.0 u_rises.0 same.0 earlier in
      λ j. stepped (before j) (same.1 j) (same.2 j) (same.3.0 j) (outputs_same outputs sent same.3.1 same.3.2 differences j)
    where
      last_of : (x : Trace) (xs : List Difference) → Rises x → now x < at → of_step at (told_of x ++ told_in at xs) ≡ xs
      last_of x xs rise later =
          of_step-append at (told_of x) (told_in at xs) ∙ ap (λ l. l ++ of_step at (told_in at xs)) (none_told x at rise later) ∙ of_own at xs

      told_so : told_of t ++ told_in at outputs.differences ≡ told_of u ++ told_in at sent.differences
      told_so = hear_arrival ∙ ap (λ k. told_of u ++ told_in k sent.differences) (sym same.1)

      differences : outputs.differences ≡ sent.differences
      differences =
          sym (last_of t outputs.differences t_rises.0 t_rises.1) ∙ ap (of_step at) told_so
          ∙ last_of u sent.differences u_rises.0 (let later = u_rises.1 in let is = same.1 in omega (arith, later, is))

      earlier : told_of t ≡ told_of u
      earlier = append_cancel_right (told_of t) (told_of u) (told_in at sent.differences) (ap (λ l. told_of t ++ told_in at l) (sym differences) ∙ told_so)

-- ---- of a member of a troupe at a node of a program

module _ (d : Deployment) (b : Behaviour) (node number : ℕ) (troupe : Troupe) where
  abbrev place : Place
  place = (home_in d node number troupe).place

  abbrev boot : List View
  boot = boot_views d.troupes

  abbrev begins : Joiner
  begins = phase_at_boot (beginning_in troupe node)

  abbrev at_boot : ℕ
  at_boot = runs_at_boot d b node number troupe

  abbrev pairs : Beginning
  pairs = beginning_of d node

  abbrev lived : MemberRecord → Trace → Past
  lived kept t = past_of d b node number troupe kept t

  abbrev happens : MemberRecord → Trace → Event → Option Occurrence
  happens kept t event = happens_by d b.declared node number kept (acts_of pairs t) event

  -- ---- what happened to it

  lived_early : (kept : MemberRecord) (t : Trace) → Rises t → past.now (lived kept t) ≤ now t
  lived_early kept (booted made outputs) rises = omega arith
  lived_early kept (stepped t at event made outputs) rises = by_one (lived_early kept t rises.0) (happens kept t event)
    where
      by_one : past.now (lived kept t) ≤ now t → (o : Option Occurrence) → past.now (with_one (lived kept t) at o) ≤ at
      by_one low None = (let later = rises.1 in omega (arith, low, later))
      by_one low (Some o) = omega arith

  pub lived_rises : (kept : MemberRecord) (t : Trace) → Rises t → past.Rises (lived kept t)
  lived_rises kept (booted made outputs) rises = tt
  lived_rises kept (stepped t at event made outputs) rises = by_one (lived_rises kept t rises.0) (happens kept t event)
    where
      by_one : past.Rises (lived kept t) → (o : Option Occurrence) → past.Rises (with_one (lived kept t) at o)
      by_one before None = before
      by_one before (Some o) = (before, (let low = lived_early kept t rises.0 in let later = rises.1 in omega (arith, low, later)))

  was_more : (p q : Past) (at : ℕ) (o : Option Occurrence) → WasSo p q → WasSo (with_one p at o) q
  was_more p q at None was = was
  was_more p q at (Some o) was = inr was

  lived_was : (kept : MemberRecord) (t u : Trace) → WasTrace t u → WasSo (lived kept t) (lived kept u)
  lived_was kept (booted made outputs) u same = subst (λ x. WasSo past.booted (lived kept x)) (sym same) refl
  lived_was kept (stepped t at event made outputs) u (inl same) =
      subst (λ x. WasSo (lived kept (stepped t at event made outputs)) (lived kept x)) (sym same) (is_so (lived kept (stepped t at event made outputs)))
  lived_was kept (stepped t at event made outputs) u (inr was) = was_more (lived kept t) (lived kept u) at (happens kept t event) (lived_was kept t u was)

  -- what it was by then, it was before
  lived_then : (kept : MemberRecord) (t u : Trace) → Rises t → WasTrace t u → (q : Past) → WasSo (lived kept t) q → past.now q ≤ now u → WasSo (lived kept u) q
  lived_then kept (booted made outputs) u rises same q was low = subst (λ x. WasSo (lived kept x) q) (sym same) was
  lived_then kept (stepped t at event made outputs) u rises (inl same) q was low = subst (λ x. WasSo (lived kept x) q) (sym same) was
  lived_then kept (stepped t at event made outputs) u rises (inr before) q was low =
      by_one (lived_then kept t u rises.0 before q) (happens kept t event) was
    where
      by_one : (WasSo (lived kept t) q → past.now q ≤ now u → WasSo (lived kept u) q) → (o : Option Occurrence) → WasSo (with_one (lived kept t) at o) q → WasSo (lived kept u) q
      by_one rest None w = rest w low
      by_one rest (Some o) (inl same) = (let early = was_early t u rises.0 before in let later = rises.1 in let n = ap past.now same in absurd (omega (arith, early, later, n, low)))
      by_one rest (Some o) (inr w) = rest w low

  -- ---- at boot calls of asks are made alone

  abbrev asked : ℕ × Effect → Bool
  asked e = is_of_ask e.1

  asked_in : (step : ℕ) (made : List Effect) → filter asked (made_in step made) ≡ made_in step (filter is_of_ask made)
  asked_in step [] = refl
  asked_in step (e ∷ made) = by_test (is_of_ask e) (asked_in step made)
    where
      by_test : (t : Bool) → filter asked (made_in step made) ≡ made_in step (filter is_of_ask made)
          → cond t ((step, e) ∷ filter asked (made_in step made)) (filter asked (made_in step made)) ≡ made_in step (cond t (e ∷ filter is_of_ask made) (filter is_of_ask made))
      by_test true rest = ap (λ l. (step, e) ∷ l) rest
      by_test false rest = rest

  asked_first : (t : Trace) → Rises t → of_step 0 (filter asked (made_of t)) ≡ filter is_of_ask (made_at_boot t)
  asked_first (booted made outputs) rises = ap (of_step 0) (asked_in 0 made) ∙ of_own 0 (filter is_of_ask made)
  asked_first (stepped t at event made outputs) rises =
      let rest = asked_first t rises.0 in
      let none = ap (of_step 0) (asked_in at made) ∙ of_other 0 at (λ same. (let later = rises.1 in omega (arith, same, later))) (filter is_of_ask made) in
      ap (of_step 0) (filter-append asked (made_of t) (made_in at made))
      ∙ of_step-append 0 (filter asked (made_of t)) (filter asked (made_in at made))
      ∙ (λ j. rest j ++ none j)
      ∙ append-nil (filter is_of_ask (made_at_boot t))

  calls_first : (kept : MemberRecord) (p : Past) → past.Rises p → of_step 0 (calls_owed place boot kept p) ≡ flat_map (first_calls place boot (knows place boot past.booted)) (new_asks place boot kept past.booted)
  calls_first kept past.booted rises = of_own 0 (flat_map (first_calls place boot (knows place boot past.booted)) (new_asks place boot kept past.booted))
  calls_first kept (past.followed p step o) rises =
      let rest = calls_first kept p rises.0 in
      let owed : List Effect =
      calls_behind place boot (past.followed p step o) (open_asks place boot kept p) ++ flat_map (first_calls place boot (knows place boot (past.followed p step o))) (new_asks place boot kept (past.followed p step o)) in
      let none = of_other 0 step (λ same. (let later = rises.1 in omega (arith, same, later))) owed in
      of_step-append 0 (calls_owed place boot kept p) (map (λ (e : Effect). (step, e)) owed)
      ∙ (λ j. rest j ++ none j)
      ∙ append-nil (flat_map (first_calls place boot (knows place boot past.booted)) (new_asks place boot kept past.booted))

  none_requested : (kept : MemberRecord) (p : Past) → past.Rises p → (e : Effect) → IsIn (requests_owed place boot begins kept p) (0, e) → ⊥
  none_requested kept past.booted rises e at = at
  none_requested kept (past.followed p step o) rises e at =
      let owed : List Effect = for_what_came place boot begins (past.followed p step o) ++ lookups place boot begins kept (past.followed p step o) in
      elim (in_both (requests_owed place boot begins kept p) (map (λ (x : Effect). (step, x)) owed) (0, e) at) [
        | inl before ↦ none_requested kept p rises.0 e before
        | inr here ↦
            (let m = in_map (λ (x : Effect). (step, x)) owed (0, e) here in
            let same = ap (λ (x : ℕ × Effect). x.0) m.2 in
            let later = rises.1 in
            absurd (omega (arith, same, later)))
      ]

  abbrev Later : {X : Type 0} → List (ℕ × X) → Type 0
  Later {X} xs = All (λ (e : ℕ × X). 0 < e.0) xs

  asks_later : (p : Past) → past.Rises p → Later (asks p)
  asks_later past.booted rises = All-nil (λ (e : ℕ × HeldCall). 0 < e.0)
  asks_later (past.followed p step (occurs.Asked header body sender)) rises =
      let call : HeldCall = record { header = header; body = body; sender = sender } in
      All-push (λ (e : ℕ × HeldCall). 0 < e.0) (asks p) (step, call) (asks_later p rises.0) (let later = rises.1 in omega (arith, later))
  asks_later (past.followed p step (occurs.Fetched incarnation sender)) rises = asks_later p rises.0
  asks_later (past.followed p step (occurs.Replied name from reply)) rises = asks_later p rises.0
  asks_later (past.followed p step (occurs.IsStale name server from incarnation)) rises = asks_later p rises.0
  asks_later (past.followed p step (occurs.IsBefore name from)) rises = asks_later p rises.0
  asks_later (past.followed p step (occurs.Told request table)) rises = asks_later p rises.0
  asks_later (past.followed p step (occurs.Restored state count)) rises = asks_later p rises.0
  asks_later (past.followed p step (occurs.Declared other)) rises = asks_later p rises.0
  asks_later (past.followed p step occurs.Joins) rises = asks_later p rises.0

  requests_later : (p : Past) → past.Rises p → Later (requests p)
  requests_later past.booted rises = All-nil (λ (e : ℕ × Caller). 0 < e.0)
  requests_later (past.followed p step (occurs.Fetched incarnation sender)) rises =
      All-push (λ (e : ℕ × Caller). 0 < e.0) (requests p) (step, sender) (requests_later p rises.0) (let later = rises.1 in omega (arith, later))
  requests_later (past.followed p step (occurs.Asked header body sender)) rises = requests_later p rises.0
  requests_later (past.followed p step (occurs.Replied name from reply)) rises = requests_later p rises.0
  requests_later (past.followed p step (occurs.IsStale name server from incarnation)) rises = requests_later p rises.0
  requests_later (past.followed p step (occurs.IsBefore name from)) rises = requests_later p rises.0
  requests_later (past.followed p step (occurs.Told request table)) rises = requests_later p rises.0
  requests_later (past.followed p step (occurs.Restored state count)) rises = requests_later p rises.0
  requests_later (past.followed p step (occurs.Declared other)) rises = requests_later p rises.0
  requests_later (past.followed p step occurs.Joins) rises = requests_later p rises.0

  -- what is contained in a list whose elements are later
  later_one : {X : Type 0} (xs : List (ℕ × X)) (x : ℕ × X) → Later xs → Contains xs x → 0 < x.0
  later_one {X} xs x all at = subst (λ (e : ℕ × X). 0 < e.0) at.2 (all at.0 x at.1)

  all_pass : (made : List Effect) → ((e : Effect) → IsIn made e → is_of_ask e ≡ true) → filter is_of_ask made ≡ made
  all_pass [] each = refl
  all_pass (e ∷ made) each =
      ap (λ t. cond t (e ∷ filter is_of_ask made) (filter is_of_ask made)) (each e (inl refl)) ∙ ap (λ l. e ∷ l) (all_pass made (λ x at. each x (inr at)))

  pub first_owed : (t : Trace) (kept : MemberRecord) → IsNodeRun d b node number troupe t kept → Rises t → BeginsRight place boot kept (made_at_boot t)
  first_owed t kept h rises =
      sym (all_pass (made_at_boot t) of_ask) ∙ sym (asked_first t rises) ∙ ap (of_step 0) h.makes.asked.calls ∙ calls_first kept (lived kept t) (lived_rises kept t rises)
    where
      no_request : (to : ℕ) (message : List ℕ) (purpose : Purpose) → is_no_ask purpose ≡ true → IsIn (made_at_boot t) (effects.Call to message purpose) → ⊥
      no_request to message purpose is at =
          none_requested kept (lived kept t) (lived_rises kept t rises) (effects.Call to message purpose)
          (subst (λ l. IsIn l (0, effects.Call to message purpose)) h.makes.requested.requests
          (filtered_in (λ (e : ℕ × Effect). is_request e.1) (made_of t) (0, effects.Call to message purpose) (made_first t (effects.Call to message purpose) at) is))

      no_return : (caller : Caller) (message : List ℕ) → IsIn (made_at_boot t) (effects.Answer caller message) → ⊥
      no_return caller message at =
          let w = return_was_due place boot begins b.first kept (lived kept t) (made_of t) 0 caller message h.makes.returned (made_first t (effects.Answer caller message) at) in
          let now_is = w.now_is in
          elim w.due [
            | inl call ↦ (let later = later_one (asks (lived kept t)) (call.step, call.call) (asks_later (lived kept t) (lived_rises kept t rises)) call.came in let low = call.by_then in absurd (omega (arith, later, low, now_is)))
            | inr request ↦
                (let later = later_one (requests (lived kept t)) (request.step, caller) (requests_later (lived kept t) (lived_rises kept t rises)) request.came in let low = request.by_then in absurd (omega (arith, later, low, now_is)))
          ]

      of_ask : (e : Effect) → IsIn (made_at_boot t) e → is_of_ask e ≡ true
      of_ask (effects.Call to message (for.Ask name server)) at = refl
      of_ask (effects.Call to message (for.Ring request)) at = absurd (no_request to message (for.Ring request) refl at)
      of_ask (effects.Call to message for.Fetch) at = absurd (no_request to message for.Fetch refl at)
      of_ask (effects.Answer caller message) at = absurd (no_return caller message at)

  -- ---- at an earlier step

  ordered_then : (kept : MemberRecord) (t u : Trace) → WasTrace t u → IsOrdered d b node number troupe kept t → IsOrdered d b node number troupe kept u
  ordered_then kept (booted made outputs) u same is = subst (IsOrdered d b node number troupe kept) (sym same) is
  ordered_then kept (stepped t at event made outputs) u (inl same) is = subst (IsOrdered d b node number troupe kept) (sym same) is
  ordered_then kept (stepped t at event made outputs) u (inr was) is = ordered_then kept t u was is.0

  -- ---- two node runs

  pub few : at_boot ≤ 1
  few = by_phase (is_active begins) b.declared.root
    where
      by_phase : (t root : Bool) → (if t then (if root then 1 else 0) else 0) ≤ 1
      by_phase true true = omega arith
      by_phase true false = omega arith
      by_phase false root = omega arith

  pub none_at_boot : is_active begins ≡ false → at_boot ≡ 0
  none_at_boot inactive = ap (λ t. if t then (if b.declared.root then 1 else 0) else 0) inactive

  abbrev Since : Past → Past → MemberRecord → Type 0
  Since q p kept = IsSince place boot begins b.declared.procedures at_boot b few none_at_boot b.first q p kept

  since : (t : Trace) (kept : MemberRecord) → IsNodeRun d b node number troupe t kept → Rises t → (q : Past) → WasSo (lived kept t) q → Since q (lived kept t) kept
  since t kept h rises q was = record { is = record { timely = h.timely; from_first = h.from_first; follows = h.follows }; rises = lived_rises kept t rises; was = was }

  module _ (T U : Trace) (kept last : MemberRecord) (h : IsNodeRun d b node number troupe T kept) (k : IsNodeRun d b node number troupe U last) (t_rises : Rises T) (u_rises : Rises U) where
    agree : (q : Past) → WasSo (lived kept T) q → WasSo (lived last U) q → Agree (past.now q) kept last
    agree q one other =
        agree_since place boot begins b.declared.procedures at_boot b few none_at_boot b.first q (lived kept T) (lived last U) kept last
        (since T kept h t_rises q one) (since U last k u_rises q other)

    -- ---- what it was told answers what it asked

    says_same : (t : Trace) → WasTrace T t → WasSo (lived last U) (lived kept t) → (from : ℕ) (purpose : Purpose) (message : List ℕ) → IsAmong (acts_of pairs t) (CallTo from message purpose)
        → SaysSame d b.declared number kept last from purpose
    says_same t was other from (for.Ring request) message at = tt
    says_same t was other from for.Fetch message at = tt
    says_same t was other from (for.Ask name server) message at =
        imported_recorded b.declared kept name (callee_of due.ask) same.0 ∙ sym (imported_recorded b.declared last name (callee_of due.ask) same.1)
      where
        e : Effect
        e = effects.Call from message (for.Ask name server)

        made : (step : ℕ) × IsIn (made_of t) (step, e)
        made = call_was_made pairs t from message (for.Ask name server) at

        owed : IsIn (calls_owed place boot kept (lived kept T)) (made.0, e)
        owed = subst (λ l. IsIn l (made.0, e)) h.makes.asked.calls
            (filtered_in (λ (x : ℕ × Effect). is_of_ask x.1) (made_of T) (made.0, e) (made_since T t was (made.0, e) made.1) refl)

        w : WasDue place boot begins b.first kept (lived kept T) made.0 e
        w = call_was_due place boot begins b.first kept (lived kept T) (lived_rises kept T t_rises) made.0 e owed

        due : IsForAsk place boot begins b.first kept w.q from message name server
        due = w.due_then

        early : WasSo (lived kept t) w.q
        early = lived_then kept T t t_rises was w.q w.was (let low = made_early t (was_rising T t t_rises was) made.0 e made.1 in let at_step = w.now_is in omega (arith, low, at_step))

        same : (recorded kept name ≡ Some (callee_of due.ask)) × (recorded last name ≡ Some (callee_of due.ask))
        same =
            calls_same (past.now (lived kept t)) kept last (agree (lived kept t) (lived_was kept T t was) other) name due.number due.run due.ask due.index due.run_is due.ask_is
            (let asked = due.made_by_then in let then_low = was_below (lived kept t) w.q (lived_rises kept t (was_rising T t t_rises was)) early in omega (arith, asked, then_low))

    happens_same : (t : Trace) → WasTrace T t → WasSo (lived last U) (lived kept t) → (event : Event)
        → happens_by d b.declared node number kept (acts_of pairs t) event ≡ happens_by d b.declared node number last (acts_of pairs t) event
    happens_same t was other (comes.Datagram from bytes) =
        accepted_same d b.declared number kept last from (heard_in pairs (acts_of pairs t) from (reading bytes))
        (heard_same d b.declared number kept last from pairs (acts_of pairs t) (says_same t was other from) (reading bytes))
    happens_same t was other comes.Tick = refl
    happens_same t was other (comes.Down node) = refl
    happens_same t was other comes.Join = refl

    -- ---- what is made in a step

    made_same : (p : Past) (at : ℕ) (made others : List Effect) → past.Rises p → past.now p < at → (o : Option Occurrence) → WasSo (lived kept T) (with_one p at o) → WasSo (lived last U) (with_one p at o)
        → IsOrderedFor d b node number troupe kept p at made o → IsOrderedFor d b node number troupe last p at others o → made ≡ others
    made_same p at made others rises later None one other none nothing = none ∙ sym nothing
    made_same p at made others rises later (Some o) one other so same =
        so
        ∙ step_same at kept last (agree (past.followed p at o) one other) place boot begins b.first p (past.followed p at o) rises (omega (arith, later)) (rises, later) (omega arith)
        ∙ sym same

    -- ---- at boot

    boot_same : made_at_boot T ≡ made_at_boot U
    boot_same =
        first_owed T kept h t_rises
        ∙ ap (flat_map (first_calls place boot (knows place boot past.booted)))
        (news_same 0 kept last (agree past.booted (was_booted (lived kept T)) (was_booted (lived last U))) place boot past.booted (omega arith))
        ∙ sym (first_owed U last k u_rises)

    -- ---- step by step

    record SoFar (t u : Trace) : Type 0 where
      past_is : lived kept t ≡ lived last u
      same : SameBut pairs t u

    so_far : (t u : Trace) → WasTrace T t → WasTrace U u → events_of t ≡ events_of u → SoFar t u
    so_far (booted made outputs) (booted others sent) one other events =
        let made_is = first_was T (booted made outputs) one ∙ boot_same ∙ sym (first_was U (booted others sent) other) in
        let gives = sends_then pairs T (booted made outputs) one h.sends in
        let gave = sends_then pairs U (booted others sent) other k.sends in
        record {
          past_is = refl;
          same = (made_is, gives.0 ∙ ap (λ m. gives_for_all pairs begun (acts_in_step pairs begun [] m)) made_is ∙ sym gave.0, gives.1 ∙ sym gave.1);
        }
    so_far (booted made outputs) (stepped u n e others sent) one other events = absurd (no_push (events_of u) (n, e) events)
    so_far (stepped t at event made outputs) (booted others sent) one other events = absurd (no_push (events_of t) (at, event) (sym events))
    so_far (stepped t at event made outputs) (stepped u n e others sent) one other events =
        behind (so_far t u one_before other_before both.0)
      where
        one_before : WasTrace T t
        one_before = was_before T t at event made outputs one

        other_before : WasTrace U u
        other_before = was_before U u n e others sent other

        both : (events_of t ≡ events_of u) × ◌≡◌ {A = ℕ × Event} (at, event) (n, e)
        both = same_from_push (events_of t) (events_of u) (at, event) (n, e) events

        at_is : at ≡ n
        at_is = ap (λ (x : ℕ × Event). x.0) both.1

        event_is : event ≡ e
        event_is = ap (λ (x : ℕ × Event). x.1) both.1

        rises : Rises (stepped t at event made outputs)
        rises = was_rising T (stepped t at event made outputs) t_rises one

        behind : SoFar t u → SoFar (stepped t at event made outputs) (stepped u n e others sent)
        behind f = record {
          past_is = past_is;
          same = (
            f.same,
            at_is,
            event_is,
            (
              made_is,
              gives.1 ∙ (λ j. gives_for_all pairs (acts_are j) (acts_in_step pairs (acts_are j) (came_by (event_is j)) (made_is j))) ∙ sym gave.1,
              gives.2 ∙ (λ j. suspects_in pairs (acts_are j) (event_is j)) ∙ sym gave.2,
            ),
          );
        }
          where
            acts_are : acts_of pairs t ≡ acts_of pairs u
            acts_are = same_acts pairs t u f.same

            happened : happens kept t event ≡ happens last u e
            happened =
                happens_same t one_before (subst (WasSo (lived last U)) (sym f.past_is) (lived_was last U u other_before)) event
                ∙ (λ j. happens_by d b.declared node number last (acts_are j) (event_is j))

            past_is : with_one (lived kept t) at (happens kept t event) ≡ with_one (lived last u) n (happens last u e)
            past_is = λ j. with_one (f.past_is j) (at_is j) (happened j)

            all_is : ◌≡◌ {A = Past × ℕ × Option Occurrence} (lived kept t, at, happens kept t event) (lived last u, n, happens last u e)
            all_is = λ j. (f.past_is j, at_is j, happened j)

            made_is : made ≡ others
            made_is =
                made_same (lived kept t) at made others (lived_rises kept t rises.0) (let low = lived_early kept t rises.0 in let later = rises.1 in omega (arith, low, later))
                (happens kept t event)
                (lived_was kept T (stepped t at event made outputs) one)
                (subst (WasSo (lived last U)) (sym past_is) (lived_was last U (stepped u n e others sent) other))
                (ordered_then kept T (stepped t at event made outputs) one h.ordered).1
                (subst (λ (x : Past × ℕ × Option Occurrence). IsOrderedFor d b node number troupe last x.0 x.1 others x.2) (sym all_is) (ordered_then last U (stepped u n e others sent) other k.ordered).1)

            gives : SendsWhatIsOwed pairs (stepped t at event made outputs)
            gives = sends_then pairs T (stepped t at event made outputs) one h.sends

            gave : SendsWhatIsOwed pairs (stepped u n e others sent)
            gave = sends_then pairs U (stepped u n e others sent) other k.sends

pub there_is_one_run : (d : Deployment) (b : Behaviour) (node number : ℕ) (troupe : Troupe) (one other : Trace) (kept last : MemberRecord) → IsNodeRun d b node number troupe one kept
    → IsNodeRun d b node number troupe other last → Rises one → events_of one ≡ events_of other → (kept ≡ last) × (one ≡ other)
there_is_one_run d b node number troupe one other kept last h k rises events = (kept_is, traces_same (pairs d b node number troupe) one other rises other_rises f.same hear_arrival)
  where
    other_rises : Rises other
    other_rises = (rise_alike one other events rises).1

    f : SoFar d b node number troupe one other kept last h k rises other_rises one other
    f = so_far d b node number troupe one other kept last h k rises other_rises one other (trace_self one) (trace_self other) events

    kept_is : kept ≡ last
    kept_is = there_is_one_record d b node number troupe one other kept last h k f.past_is

    hear_arrival : told_of one ≡ told_of other
    hear_arrival =
        h.makes.differed
        ∙ (λ j. differences (home_in d node number troupe).place (boot_views d.troupes) (kept_is j) (f.past_is j))
        ∙ sym k.makes.differed

-- ---- a trace as it was, by its events

pub last_split : {X : Type 0} (xs : List X) → (xs ≡ []) ⊎ ((front : List X) × (x : X) × (xs ≡ front ++ x ∷ []))
last_split [] = inl refl
last_split (x ∷ xs) = elim (last_split xs) [
  | inl none ↦ inr ([], x, ap (λ l. x ∷ l) none)
  | inr some ↦ inr (x ∷ some.0, some.1, ap (λ l. x ∷ l) some.2)
]

was_behind : (t : Trace) (before later : Events) → events_of t ≡ before ++ later → (u : Trace) × WasTrace t u × (events_of u ≡ before)
was_behind (booted made outputs) [] later is = (booted made outputs, refl, refl)
was_behind (booted made outputs) (e ∷ before) later is = absurd (no_more e (before ++ later) (sym is))
was_behind (stepped t at event made outputs) before later is = by_last (λ front are. was_behind t before front are) (last_split later)
  where
    this : Trace
    this = stepped t at event made outputs

    by_last : ((front : Events) → events_of t ≡ before ++ front → (u : Trace) × WasTrace t u × (events_of u ≡ before))
        → (later ≡ []) ⊎ ((front : Events) × (e : ℕ × Event) × (later ≡ front ++ e ∷ [])) → (u : Trace) × WasTrace this u × (events_of u ≡ before)
    by_last rest (inl none) = (this, inl refl, is ∙ ap (λ l. before ++ l) none ∙ append-nil before)
    by_last rest (inr last) =
        let both = same_from_push (events_of t) (before ++ last.0) (at, event) last.1 (is ∙ ap (λ l. before ++ l) last.2 ∙ sym (append_assoc before last.0 (last.1 ∷ []))) in
        let u = rest last.0 both.0 in
        (u.0, inr u.1, u.2)

was_made : (b : Beginning) (t u : Trace) → WasTrace t u → (node : ℕ) → made_to node (acts_of b u) ≤ made_to node (acts_of b t)
was_made b (booted made outputs) u same node = (let is = ap (λ x. made_to node (acts_of b x)) same in omega (arith, is))
was_made b (stepped t at event made outputs) u (inl same) node = (let is = ap (λ x. made_to node (acts_of b x)) same in omega (arith, is))
was_made b (stepped t at event made outputs) u (inr was) node =
    (let low = was_made b t u was node in let more = made_behind node (acts_of b t) (acts_in_step b (acts_of b t) (came_by event) made) in omega (arith, low, more))

-- a run with the first events of another one has a number for each call where that has
pub numbers_before : (d : Deployment) (b : Behaviour) (node number : ℕ) (troupe : Troupe) (one other : Trace) (kept last : MemberRecord) → IsNodeRun d b node number troupe one kept
    → IsNodeRun d b node number troupe other last → Rises one → (later : Events) → events_of one ≡ events_of other ++ later → HasNumbers d node one → HasNumbers d node other
numbers_before d b node number troupe one other kept last h k rises later are numbers to =
    let few = numbers to in
    let less = was_made (beginning_of d node) one was.0 was.1 to in
    let same = ap (made_to to) (same_acts (beginning_of d node) was.0 other f.same) in
    omega (arith, few, less, same)
  where
    was : (t : Trace) × WasTrace one t × (events_of t ≡ events_of other)
    was = was_behind one (events_of other) later are

    other_rises : Rises other
    other_rises = (rise_alike was.0 other was.2 (was_rising one was.0 rises was.1)).1

    f : SoFar d b node number troupe one other kept last h k rises other_rises was.0 other
    f = so_far d b node number troupe one other kept last h k rises other_rises was.0 other was.1 (trace_self other) was.2
