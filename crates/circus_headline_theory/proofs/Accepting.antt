-- What is accepted by the record in the end is what the member accepted then.
use Rattle.std.proofs.Common.{◌≡◌, ℕ, ◌+◌, Bool, true, false, inl, inr, cond, if◌then◌else◌, ◌&&◌, eqb, List, length, Option, None, Some, Result, Ok, Err, refl, sym, ap, subst, ◌∙◌, arith}
use Rattle.std.specs.Prelude.{option_map, option_and_then, ◌==◌}
use Rattle.std.specs.Option.{option_map_or}
use Rattle.std.proofs.lemmas.Bool.{and_parts, eqb-true}
use Rattle.std.proofs.lemmas.Option.{same_Some}
use Rattle.circus_value.specs.ValueTree.{ValueTree}
use Rattle.circus_value.specs.declared.outcome.Outcome.{Outcome}
use Rattle.circus_segment.specs.Segment.{Piece, IsSegment}
use Rattle.circus_segment.specs.declared.fault.SegmentFault.{SegmentFault}
use Rattle.circus_exchange.specs.declared.taken.Arrived.{Arrived}
use Rattle.circus_exchange.specs.declared.taken.Arrived.TheVariants.{Nothing, ArrivedCall, ArrivedReturn}
use Rattle.circus_header.specs.declared.answer.Reply.{Reply}
use Rattle.circus_header.specs.declared.answer.ReturnHeader.{ReturnHeader}
use Rattle.circus_header.specs.declared.answer.ReturnHeader.TheVariants as says
use Rattle.circus_header.specs.declared.call.CallHeader.{CallHeader}
use Rattle.circus_collate.specs.declared.deployment.Deployment.{Deployment}
use Rattle.circus_collate.specs.declared.view.View.{View}
use Rattle.circus_transfer.specs.declared.joiner.Joiner.{Joiner}
use Rattle.circus_model.specs.Behaviour.{IsModule}
use Rattle.circus_model.specs.NextTurn.{NextTurn}
use Rattle.circus_model.specs.declared.signature.Signature.{Signature}
use Rattle.circus_record.specs.declared.record.MemberRecord.{MemberRecord}
use Rattle.circus_performing.specs.Record.{behaviour}
use Rattle.circus_pair.specs.Handed.{calls_made}
use Rattle.circus_pair.specs.Sending.{takes_after}
use Rattle.circus_pair.specs.Standing.{arrival_after}
use Rattle.circus_fanout.specs.Asking.{Asking}
use Rattle.circus_wire.specs.Wire.{WireState, Beginning, IsOther, heard_from, hear_arrival, told_return}
use Rattle.circus_wire.specs.WireActs.{WireActs, begun, followed_by, CallTo, AnswerTo, CameFrom, TickAll, StopOf, acts_at, purpose_of}
use Rattle.circus_wire.specs.WireStanding.{WireStands, pair_of}
use Rattle.circus_wire.specs.declared.delivery.Heard.{Heard}
use Rattle.circus_wire.specs.declared.delivery.Heard.TheVariants.{Dropped, Taken, Called, Returned}
use Rattle.circus_wire.proofs.Performing.{came_tells}
use Rattle.circus_member_rules.specs.declared.place.Beginning as beginnings
use Rattle.circus_member_rules.specs.declared.place.Place.{Place}
use Rattle.circus_member_rules.specs.declared.occurrence.AskName.{AskName}
use Rattle.circus_member_rules.specs.declared.occurrence.Effect.{Effect}
use Rattle.circus_member_rules.specs.declared.occurrence.Effect.TheVariants as effects
use Rattle.circus_member_rules.specs.declared.occurrence.Occurrence.TheVariants as comes
use Rattle.circus_member_rules.specs.declared.occurrence.Purpose.{Purpose}
use Rattle.circus_member_rules.specs.declared.occurrence.Purpose.TheVariants as for
use Rattle.circus_member_rules.specs.OpenAsks.{asking_of}
use Rattle.circus_member_rules.specs.Happening.{IsHome}
use Rattle.circus_member_rules.specs.MemberState.{MemberState}
use Rattle.circus_node.specs.Accepting as accepting
use Rattle.circus_node.specs.Accepting.{accepted_call, accepted_table, accepted_state, imported_procedure, recorded_ask, called_by}
use Rattle.circus_node.specs.Bodies.{outcome_at}
use Rattle.circus_node.specs.Headers.{return_in}
use Rattle.circus_member_theory.proofs.Accepting.Taken.{imported_as, called_open}
use Rattle.circus_limits.specs.Limits.{limit_of}
use Rattle.circus_world_theory.proofs.Border.Makers.{IsIn, IsAmong}
use Rattle.circus_member_theory.specs.Past.{Past, now}
use Rattle.circus_member_theory.specs.Living.{MayLive, after, kept_after, phase_at_boot}
use Rattle.circus_member_theory.specs.Asks.{is_of_ask, open_asks}
use Rattle.circus_headline_theory.specs.Owed.Living.{made_by}
use Rattle.circus_headline_theory.proofs.Owed.Calling.{AreCalled, called_all}
use Rattle.circus_headline_theory.proofs.Owed.Lives.{rises}
use Rattle.circus_headline_theory.proofs.Datagrams.Asked.{found_there, IsEntry, open_all, call_was_due}
use Rattle.circus_headline_theory.proofs.Datagrams.Membership.{all_in, filtered_in}
use Rattle.circus_headline_theory.specs.Trace.{heard_in}
use Rattle.circus_headline_theory.specs.NodeRun.{occurrence_by_record}
use Rattle.circus_headline_theory.proofs.Asks.{Callee, callee_of, recorded, recorded_at, imported_recorded}

-- ---- what is heard

-- by the acts at the pairs it is what the pairs hear
pub heard_as : (b : Beginning) (acts : WireActs Purpose) (w : WireState Purpose) (from : ℕ) (r : Result Piece SegmentFault) → IsOther w from → WireStands w b acts → ((s : Piece) → r ≡ Ok s → IsSegment s)
    → heard_in b acts from r ≡ heard_from w from r
heard_as b acts w from (Ok s) other stands is = sym (came_tells b acts w from s s other stands refl (is s refl))
heard_as b acts w from (Err fault) other stands is = refl

-- what a call was made for was handed over with it
pub purposed : (b : Beginning) (node : ℕ) (acts : WireActs Purpose) (number : ℕ) (purpose : Purpose) → purpose_of (pair_of b) node acts number ≡ Some purpose
    → (message : List ℕ) × IsAmong acts (CallTo node message purpose)
purposed b node begun number purpose is = absurd (let clash : ◌≡◌ {A = Option Purpose} None (Some purpose) = is in cc)
purposed b node (followed_by acts (CallTo to message other)) number purpose is =
    by_test (λ rest. let p = purposed b node acts number purpose rest in (p.0, inl p.1)) (eqb to node && eqb number ((pair_of b).next + calls_made (acts_at (pair_of b) node acts))) refl is
  where
    by_test : (purpose_of (pair_of b) node acts number ≡ Some purpose → (m : List ℕ) × IsAmong (followed_by acts (CallTo to message other)) (CallTo node m purpose))
        → (t : Bool) → (eqb to node && eqb number ((pair_of b).next + calls_made (acts_at (pair_of b) node acts))) ≡ t → cond t (Some other) (purpose_of (pair_of b) node acts number) ≡ Some purpose
        → (m : List ℕ) × IsAmong (followed_by acts (CallTo to message other)) (CallTo node m purpose)
    by_test rest true test found =
        let same : to ≡ node = eqb-true to node (and_parts (eqb to node) (eqb number ((pair_of b).next + calls_made (acts_at (pair_of b) node acts))) test).0 in
        let says : other ≡ purpose = same_Some other purpose found in
        (message, inr (λ i. CallTo (same i) message (says i)))
    by_test rest false test found = rest found
purposed b node (followed_by acts (AnswerTo caller message)) number purpose is = (let p = purposed b node acts number purpose is in (p.0, inl p.1))
purposed b node (followed_by acts (CameFrom from s)) number purpose is = (let p = purposed b node acts number purpose is in (p.0, inl p.1))
purposed b node (followed_by acts TickAll) number purpose is = (let p = purposed b node acts number purpose is in (p.0, inl p.1))
purposed b node (followed_by acts (StopOf down)) number purpose is = (let p = purposed b node acts number purpose is in (p.0, inl p.1))

-- ---- it answers an ask of the record

abbrev pub IsRecorded : MemberRecord → AskName → Type 0
IsRecorded kept name = (c : Callee) × (recorded kept name ≡ Some c)

abbrev pub IsOfRecord : MemberRecord → Purpose → Type 0
IsOfRecord kept (for.Ask name server) = IsRecorded kept name
IsOfRecord kept (for.Ring request) = Unit {0}
IsOfRecord kept for.Fetch = Unit {0}

abbrev pub AnswersRecord : MemberRecord → Heard Purpose → Type 0
AnswersRecord kept Dropped = Unit {0}
AnswersRecord kept Taken = Unit {0}
AnswersRecord kept (Called sender message) = Unit {0}
AnswersRecord kept (Returned number purpose message) = IsOfRecord kept purpose

pub answers_record : (kept : MemberRecord) (b : Beginning) (acts : WireActs Purpose) (from : ℕ)
    → ((purpose : Purpose) (message : List ℕ) → IsAmong acts (CallTo from message purpose) → IsOfRecord kept purpose)
    → (r : Result Piece SegmentFault) → AnswersRecord kept (heard_in b acts from r)
answers_record kept b acts from each (Err fault) = tt
answers_record kept b acts from each (Ok s) = by_test (takes_after (pair_of b) (acts_at (pair_of b) from acts) s)
  where
    by_purpose : (number : ℕ) (message : List ℕ) (o : Option Purpose) → purpose_of (pair_of b) from acts number ≡ o → AnswersRecord kept (told_return number message o)
    by_purpose number message None is = tt
    by_purpose number message (Some purpose) is = (let p = purposed b from acts number purpose is in each purpose p.0 p.1)

    by_arrived : (a : Arrived) → AnswersRecord kept (hear_arrival (purpose_of (pair_of b) from acts) from a)
    by_arrived Nothing = tt
    by_arrived (ArrivedCall number message) = tt
    by_arrived (ArrivedReturn number message) = by_purpose number message (purpose_of (pair_of b) from acts number) refl

    by_test : (t : Bool) → AnswersRecord kept (if t then hear_arrival (purpose_of (pair_of b) from acts) from (arrival_after (pair_of b) (acts_at (pair_of b) from acts) s) else Dropped)
    by_test true = by_arrived (arrival_after (pair_of b) (acts_at (pair_of b) from acts) s)
    by_test false = tt

-- ---- what is accepted

-- by a record that has what was asked then, and says the same of it
module _ {M : Type 0} (d : Deployment) (declared : Signature) (m : MemberState M) (own : ℕ) (earlier kept : MemberRecord) (hosts : m.place.troupe ≡ own) (from : ℕ) where
  -- the two say the same of the procedure that an ask calls
  abbrev pub SaysSame : AskName → Type 0
  SaysSame name = option_and_then (imported_procedure declared) (called_by m name) ≡ option_and_then (imported_procedure declared) (recorded_ask kept name)

  answer_as : (name : AskName) (server : ℕ) (message : List ℕ) → SaysSame name → (o : Option (ReturnHeader × ℕ))
      → option_and_then (λ (read : ReturnHeader × ℕ). accepting.taken_answer d declared m name server from read.0 read.1 message) o
      ≡ option_and_then (λ (read : ReturnHeader × ℕ). accepting.said_by d declared (recorded_ask kept name) name server from read.0 read.1 message) o
  answer_as name server message same None = refl
  answer_as name server message same (Some (says.Reply clock, at)) =
      λ j. option_map (comes.Replied name from)
      (if length clock == length d.troupes
      then option_map (λ outcome. let r : Reply = record { clock = clock; outcome = outcome } in r)
      (option_and_then (λ p. outcome_at p (limit_of d.format) at message) (same j))
      else None)
  answer_as name server message same (Some (says.Stale incarnation, at)) = refl
  answer_as name server message same (Some (says.Before first, at)) = refl
  answer_as name server message same (Some (says.Snapshot count, at)) = refl
  answer_as name server message same (Some (says.Table, at)) = refl

  return_as : (purpose : Purpose) (message : List ℕ) → ((name : AskName) → IsRecorded earlier name → SaysSame name) → IsOfRecord earlier purpose → (number : ℕ)
      → accepting.occurrence_of_heard d declared m from (Returned number purpose message) ≡ occurrence_by_record d declared own kept from (Returned number purpose message)
  return_as (for.Ask name server) message each is number = answer_as name server message (each name is) (return_in message)
  return_as (for.Ring request) message each is number = refl
  return_as for.Fetch message each is number = refl

  pub accepted_as : ((name : AskName) → IsRecorded earlier name → SaysSame name) → (h : Heard Purpose) → AnswersRecord earlier h
      → accepting.occurrence_of_heard d declared m from h ≡ occurrence_by_record d declared own kept from h
  accepted_as each Dropped is = refl
  accepted_as each Taken is = refl
  accepted_as each (Called sender message) is = ap (λ n. accepted_call d declared n sender message) hosts
  accepted_as each (Returned number purpose message) is = return_as purpose message each is number

-- ---- the asks that a member calls

module _ {M : Type 0} (declared : M → Signature) (turn : M → List ValueTree → ℕ → List ValueTree → List Outcome → NextTurn) (first : M → List ValueTree) (lawful : (hosted : M) → IsModule (behaviour declared turn first hosted))
    (place : Place) (views : List View) (beginning : beginnings.Beginning) (hosted : M) (home : IsHome (declared hosted) place views) (p : Past) (may : MayLive declared turn first place views beginning hosted p) where
  abbrev life : MemberState M
  life = after declared turn first place views beginning hosted p

  abbrev kept : MemberRecord
  kept = kept_after declared turn first place views beginning hosted p

  abbrev begins : Joiner
  begins = phase_at_boot beginning

  c : AreCalled declared turn first lawful place views beginning hosted p
  c = called_all declared turn first lawful place views beginning hosted home p may

  -- an open ask calls what the record says
  pub called_is : (s : Signature) (name : AskName) (x : Callee) → recorded kept name ≡ Some x → option_and_then (imported_procedure s) (called_by life name) ≡ imported_as s x.0 x.1
  called_is s name x there = by_ask (asking_of life.asks name) refl
    where
      by_ask : (o : Option Asking) → asking_of life.asks name ≡ o → option_and_then (imported_procedure s) (called_by life name) ≡ imported_as s x.0 x.1
      by_ask None is = closed is ∙ imported_recorded s kept name x there
        where
          closed : asking_of life.asks name ≡ None → option_and_then (imported_procedure s) (called_by life name) ≡ option_and_then (imported_procedure s) (recorded_ask kept name)
          closed none = ap (λ o. option_and_then (imported_procedure s) (option_map_or (λ (a : Asking). Some (record { troupe = a.header.server; procedure = a.header.procedure })) o (recorded_ask kept name))) none
      by_ask (Some a) is =
          let asks = open_asks place views kept p in
          let t = found_there asks name a (ap (λ l. asking_of l name) (sym c.asks_are) ∙ is) in
          let o = all_in (IsEntry place views begins (first hosted) kept (now p)) asks (t.own, a) (open_all place views begins (first hosted) kept p (rises declared turn first lawful place views beginning hosted p may)) t.there in
          let index = o.index in
          let at = recorded_at kept t.own o.run o.ask o.number (omega (arith, index)) o.run_is o.ask_is in
          let same : callee_of o.ask ≡ x = same_Some (callee_of o.ask) x (sym at ∙ ap (recorded kept) (sym t.is) ∙ there) in
          let server : a.header.server ≡ o.ask.callee = ap (λ (h : CallHeader). h.server) o.header_is in
          let procedure : a.header.procedure ≡ o.ask.procedure = ap (λ (h : CallHeader). h.procedure) o.header_is in
          called_open s life name a is ∙ (λ j. imported_as s (server j) (procedure j)) ∙ ap (λ (y : Callee). imported_as s y.0 y.1) same

  -- a call that was made is for an ask of the record, or for no ask
  pub made_is_recorded : (to : ℕ) (message : List ℕ) (purpose : Purpose) (step : ℕ) → IsIn (made_by declared turn first place views beginning hosted p) (step, effects.Call to message purpose) → IsOfRecord kept purpose
  made_is_recorded to message (for.Ring request) step at = tt
  made_is_recorded to message for.Fetch step at = tt
  made_is_recorded to message (for.Ask name server) step at =
      let e = effects.Call to message (for.Ask name server) in
      let w = call_was_due place views begins (first hosted) kept p (rises declared turn first lawful place views beginning hosted p may) step e
      (subst (λ l. IsIn l (step, e)) c.calls (filtered_in (λ (x : ℕ × Effect). is_of_ask x.1) (made_by declared turn first place views beginning hosted p) (step, e) at refl)) in
      let due = w.due_then in
      let index = due.index in
      (callee_of due.ask, recorded_at kept name due.run due.ask due.number (omega (arith, index)) due.run_is due.ask_is)
