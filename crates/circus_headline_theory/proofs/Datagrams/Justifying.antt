-- What a node sends in a step is justified.
use Rattle.std.proofs.Common.{◌≡◌, ℕ, inl, inr, Bool, List, filter, Some, refl, sym, ap, subst, ◌∙◌}
use Rattle.circus_value.specs.ValueTree.{ValueTree}
use Rattle.circus_value.specs.declared.caller.Caller.{Caller}
use Rattle.circus_value.specs.declared.outcome.Outcome.{Outcome}
use Rattle.circus_segment.specs.Segment.{Piece}
use Rattle.circus_collate.specs.Deployment.{IsDeployment}
use Rattle.circus_collate.specs.declared.deployment.Deployment.{Deployment}
use Rattle.circus_collate.specs.declared.deployment.Troupe.{Troupe}
use Rattle.circus_collate.specs.declared.view.View.{View}
use Rattle.circus_ring.specs.RingTable.{boot_views}
use Rattle.circus_transfer.specs.declared.joiner.Joiner.{Joiner}
use Rattle.circus_model.specs.NextTurn.{NextTurn}
use Rattle.circus_model.specs.Behaviour.{IsModule}
use Rattle.circus_model.specs.declared.signature.Signature.{Signature}
use Rattle.circus_record.specs.declared.record.MemberRecord.{MemberRecord}
use Rattle.circus_performing.specs.Record.{behaviour}
use Rattle.circus_wire.specs.Wire as Wire
use Rattle.circus_wire.specs.WireActs.{WireActs, acts_at}
use Rattle.circus_wire.specs.WireStanding.{pair_of}
use Rattle.circus_member_rules.specs.declared.place.Beginning.{Beginning}
use Rattle.circus_member_rules.specs.declared.place.Place.{Place}
use Rattle.circus_member_rules.specs.declared.occurrence.Effect.{Effect}
use Rattle.circus_member_rules.specs.declared.occurrence.Effect.TheVariants as made
use Rattle.circus_member_rules.specs.declared.occurrence.Purpose.{Purpose}
use Rattle.circus_member_rules.specs.declared.occurrence.Purpose.TheVariants as for
use Rattle.circus_member_rules.specs.Happening.{IsHome}
use Rattle.circus_member_rules.specs.MemberState.{MemberState}
use Rattle.circus_node.specs.Booting.{beginning_in, home_in}
use Rattle.circus_node.specs.NodeState.{Acting, member, ringmaster, NodeState, member_record}
use Rattle.circus_node.specs.declared.event.Give.{Give}
use Rattle.circus_world_theory.specs.Histories.{beginning_of}
use Rattle.circus_world_theory.proofs.Border.Makers.{IsIn, was_called, was_answered}
use Rattle.circus_member_theory.specs.Past.{Past}
use Rattle.circus_member_theory.specs.Living.{MayLive, after, phase_at_boot}
use Rattle.circus_member_theory.specs.Asks.{is_of_ask, calls_owed}
use Rattle.circus_member_theory.specs.Made.{AreDistinct}
use Rattle.circus_member_theory.specs.Owed.{AreReturned}
use Rattle.circus_member_theory.specs.Requests.{is_request, requests_owed}
use Rattle.circus_headline_theory.proofs.Owed.Calling.{called_all}
use Rattle.circus_headline_theory.proofs.Owed.Lives.{rises}
use Rattle.circus_headline_theory.proofs.Owed.Requesting.{asked_all}
use Rattle.circus_headline_theory.proofs.Owed.States.{are_returned}
use Rattle.circus_headline_theory.specs.Datagrams.Sendings.{IsSaidFor}
use Rattle.circus_headline_theory.specs.Datagrams.TrueDatagram.{HasCause, IsJustified}
use Rattle.circus_headline_theory.proofs.Datagrams.Asked.{call_was_due}
use Rattle.circus_headline_theory.proofs.Datagrams.AtPairs.{IsSent}
use Rattle.circus_headline_theory.proofs.Datagrams.Course.{IsAlive, all_made, Goes}
use Rattle.circus_headline_theory.proofs.Datagrams.Membership.{filtered_in}
use Rattle.circus_headline_theory.proofs.Datagrams.Requested.{WasDue, request_was_due}
use Rattle.circus_headline_theory.proofs.Datagrams.Returning.{return_was_due}

module _ {M : Type 0} (declared : M → Signature) (turn : M → List ValueTree → ℕ → List ValueTree → List Outcome → NextTurn) (first : M → List ValueTree)
    (lawful : (hosted : M) → IsModule (behaviour declared turn first hosted)) (d : Deployment) (good : IsDeployment d) (node number : ℕ) (troupe : Troupe) (own : M) where
  abbrev place : Place
  place = (home_in d node number troupe).place

  abbrev views : List View
  views = boot_views d.troupes

  abbrev begins : Joiner
  begins = phase_at_boot (beginning_in troupe node)

  abbrev beginning : Beginning
  beginning = beginning_in troupe node

  abbrev makes : Past → List (ℕ × Effect)
  makes p = all_made declared turn first lawful d good node number troupe own p

  -- what is known of a member that lives a past, with this record then
  record IsHere (p : Past) (kept : MemberRecord) : Type 0 where
    may : MayLive declared turn first place views beginning own p
    kept_is : (after declared turn first place views beginning own p).performing.kept ≡ kept

  is_here : (p : Past) (a : Acting M) (kept : MemberRecord) → IsAlive declared turn first lawful d good node number troupe own p a → member_record a ≡ Some kept → IsHere p kept
  is_here p (member m) kept l at = record { may = l.may; kept_is = ap (λ (x : MemberState M). x.performing.kept) (sym l.is) ∙ (let e : m.performing.kept ≡ kept = cc in e) }
  is_here p (ringmaster ring) kept l at = absurd l

  module _ (home : IsHome (declared own) place views) (p : Past) (kept : MemberRecord) (here : IsHere p kept) where
    all_calls : filter (λ (e : ℕ × Effect). is_of_ask e.1) (makes p) ≡ calls_owed place views kept p
    all_calls = (called_all declared turn first lawful place views beginning own home p here.may).calls ∙ ap (λ (r : MemberRecord). calls_owed place views r p) here.kept_is

    all_requests : filter (λ (e : ℕ × Effect). is_request e.1) (makes p) ≡ requests_owed place views begins kept p
    all_requests = (asked_all declared turn first lawful place views beginning own home p here.may).made ∙ ap (λ (r : MemberRecord). requests_owed place views begins r p) here.kept_is

    -- a call that was made was due
    call_due : (step to : ℕ) (message : List ℕ) (purpose : Purpose) → IsIn (makes p) (step, made.Call to message purpose) → WasDue place views begins (first own) kept p step (made.Call to message purpose)
    call_due step to message (for.Ask name server) at =
        call_was_due place views begins (first own) kept p (rises declared turn first lawful place views beginning own p here.may) step (made.Call to message (for.Ask name server))
        (subst (λ l. IsIn l (step, made.Call to message (for.Ask name server))) all_calls (filtered_in (λ (e : ℕ × Effect). is_of_ask e.1) (makes p) (step, made.Call to message (for.Ask name server)) at refl))
    call_due step to message (for.Ring request) at =
        request_was_due place views begins (first own) kept p step (made.Call to message (for.Ring request))
        (subst (λ l. IsIn l (step, made.Call to message (for.Ring request))) all_requests (filtered_in (λ (e : ℕ × Effect). is_request e.1) (makes p) (step, made.Call to message (for.Ring request)) at refl))
    call_due step to message for.Fetch at =
        request_was_due place views begins (first own) kept p step (made.Call to message for.Fetch)
        (subst (λ l. IsIn l (step, made.Call to message for.Fetch)) all_requests (filtered_in (λ (e : ℕ × Effect). is_request e.1) (makes p) (step, made.Call to message for.Fetch) at refl))

    all_returns : AreDistinct p → AreReturned place.troupe begins (first own) kept p (makes p)
    all_returns distinct =
        subst (λ (r : MemberRecord). AreReturned place.troupe begins (first own) r p (makes p)) here.kept_is
        (are_returned declared turn first lawful place views beginning own home p here.may distinct)

  -- what is sent at the pairs of a node that goes on is justified
  pub justified : IsHome (declared own) place views → (p : Past) (acts : WireActs Purpose) (n : NodeState M) (kept : MemberRecord) (ticks : Bool) → Goes declared turn first lawful d good node number troupe own p acts n
      → member_record n.acting ≡ Some kept → (give : Give) → IsSent (beginning_of d node) good.format ticks acts give
      → IsJustified place views begins (first own) kept p (beginning_of d node) acts ticks give
  justified home p acts n kept ticks goes at give is = record { sent = is.1; cause = by_cause is.1.segment is.1.cause }
    where
      b : Wire.Beginning
      b = beginning_of d node

      here : IsHere p kept
      here = is_here p n.acting kept goes.lives at

      by_cause : (s : Piece) (c : IsSaidFor b.first b.format ticks (acts_at (pair_of b) give.to acts) s) → HasCause place views begins (first own) kept p b acts ticks give.to s c
      by_cause s (inl call) =
          let was = was_called b acts give.to s.call call.message call.handed in
          let made_at = goes.made (made.Call give.to call.message was.purpose) was.among in
          let w = call_due home p kept here made_at.0 give.to call.message was.purpose made_at.1 in
          (record { purpose = was.purpose; is_for = was.is_for; made_at = w.q; was_so = w.was; due = w.due_then }, sym (goes.downs give.to) ∙ call.up)
      by_cause s (inr (inl return_)) =
          let caller : Caller = record { node = give.to; number = s.call } in
          let made_at = goes.made (made.Answer caller return_.message) (was_answered b acts give.to s.call return_.message return_.handed) in
          let w = return_was_due place views begins (first own) kept p (makes p) made_at.0 caller return_.message (all_returns home p kept here goes.numbers.distinct) made_at.1 in
          record { made_at = w.q; was_so = w.was; due = w.due }
      by_cause s (inr (inr (inl acknowledges))) = sym (goes.downs give.to) ∙ acknowledges.up
      by_cause s (inr (inr (inr probes))) = sym (goes.downs give.to) ∙ probes.up
