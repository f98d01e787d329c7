-- A true call that is accepted is one that may be answered.
use Rattle.std.proofs.Common.{◌≡◌, ℕ, List, drop, None, Some, refl, sym, ap, ◌∙◌, subst}
use Rattle.std.specs.Prelude.{option_and_then}
use Rattle.circus_value.specs.ValueTree.{ValueTree}
use Rattle.circus_value.specs.declared.caller.Caller.{Caller}
use Rattle.circus_value.specs.Parts.{AreOctets}
use Rattle.circus_header.specs.declared.call.Call.{Call}
use Rattle.circus_header.specs.declared.call.Call.TheVariants.{Ask, Ring, Fetch}
use Rattle.circus_header.specs.declared.call.CallHeader.{CallHeader}
use Rattle.circus_header.specs.declared.call.Request.{Request}
use Rattle.circus_collate.specs.declared.deployment.Deployment.{Deployment}
use Rattle.circus_model.specs.declared.history.Run.{Run}
use Rattle.circus_model.specs.declared.signature.Signature.{Signature}
use Rattle.circus_member_rules.specs.Messages.{fetch_message}
use Rattle.circus_member_rules.specs.declared.occurrence.AskName.{AskName}
use Rattle.circus_member_rules.specs.declared.occurrence.Occurrence.{Occurrence}
use Rattle.circus_member_rules.specs.declared.occurrence.Purpose.{Purpose}
use Rattle.circus_member_rules.specs.declared.occurrence.Purpose.TheVariants as for
use Rattle.circus_member_rules.specs.MemberState.{MemberState}
use Rattle.circus_member_theory.specs.Messages.{IsAskAt}
use Rattle.circus_member_theory.specs.Truth.{IsTrueOccurrence, IsAskMessage, IsTrueCallFor}
use Rattle.circus_node.specs.Headers.{call_in}
use Rattle.circus_node.specs.Accepting.{taken_ask, taken_fetch, taken_call, accepted_call}
use Rattle.circus_member_theory.proofs.Accepting.Calls.{call_whole, ask_length, ask_read, ask_body, request_read, fetch_read}
use Rattle.circus_member_theory.proofs.Accepting.Octets.{fetch_octets}
use Rattle.circus_member_theory.proofs.Accepting.Options.{before_some}
use Rattle.circus_member_theory.proofs.Accepting.Taken.{ask_taken, fetch_taken}

-- ---- true calls

module _ (history : List (List Run)) (troupe : ℕ) (first : List ValueTree) (Called : Caller → List ℕ → Type 0)
    {M : Type 0} (m : MemberState M) (d : Deployment) (declared : Signature) (own : ℕ) (own_is : own ≡ troupe) (sender : Caller) (o : Occurrence) where
  -- an ask is taken as what it is
  ask_true : (client : ℕ) (firsts : List ValueTree) (Other : Caller → List ℕ → Type 0) (name : AskName) (server : ℕ) (message : List ℕ)
      → IsAskMessage history client firsts Other name server message → Called sender message
      → accepted_call d declared own sender message ≡ Some o → IsTrueOccurrence history troupe first Called m o
  ask_true client firsts Other name server message a called is =
      let h : CallHeader = a.header in
      let read : call_in message ≡ Some (Ask h, ask_length h) = ap call_in a.message_is ∙ ask_read h a.body a.header_is in
      let body : drop (ask_length h) message ≡ a.body = ap (drop (ask_length h)) a.message_is ∙ ask_body h a.body in
      let taken : taken_ask d declared own sender h a.body ≡ Some o =
      ap (taken_ask d declared own sender h) (sym body)
      ∙ ap (option_and_then (λ (r : Call × ℕ). taken_call d declared own sender r.0 (drop r.1 message))) (sym read) ∙ is in
      let t = ask_taken d declared own sender h a.body o taken in
      let n = a.named in
      let there = subst (λ c. IsAskAt history c h.client_index name.ask n.run n.ask) (sym n.client)
      (subst (λ i. IsAskAt history client i name.ask n.run n.ask) (sym n.client_index) n.there) in
      subst (IsTrueOccurrence history troupe first Called m) (sym t.is) (record {
        true_call = record { number = name.ask; run = n.run; ask = n.ask; there = there; so = n.so };
        header_is = a.header_is;
        server = t.order.server ∙ own_is;
        called = subst (Called sender) a.message_is called;
      })

  -- a request to the Ringmaster isn't taken
  no_request : (read : Call × ℕ) (message : List ℕ) (request : Request) → read.0 ≡ Ring request → taken_call d declared own sender read.0 (drop read.1 message) ≡ Some o → ⊥
  no_request read message request ring is =
      let none : None ≡ Some o = ap (λ c. taken_call d declared own sender c (drop read.1 message)) (sym ring) ∙ is in cc

  -- a state request is taken by its own troupe
  fetch_true : (client incarnation : ℕ) (message : List ℕ) → message ≡ fetch_message client incarnation → Called sender message
      → accepted_call d declared own sender message ≡ Some o → IsTrueOccurrence history troupe first Called m o
  fetch_true client incarnation message message_is called is =
      let b = before_some (λ (r : Call × ℕ). taken_call d declared own sender r.0 (drop r.1 message)) (call_in message) o is in
      let r = fetch_read client incarnation b.value (ap call_in (sym message_is) ∙ b.is) in
      let taken : taken_fetch own sender r.0 r.1 ≡ Some o = ap (λ c. taken_call d declared own sender c (drop b.value.1 message)) (sym r.2) ∙ b.then in
      let t = fetch_taken own sender r.0 r.1 o taken in
      let same : b.value ≡ (Fetch r.0 r.1, b.value.1) = ap (λ c. (c, b.value.1)) r.2 in
      let whole : message ≡ fetch_message r.0 r.1 =
      call_whole message (Fetch r.0 r.1, b.value.1) (subst AreOctets (sym message_is) (fetch_octets client incarnation)) refl (b.is ∙ ap Some same) in
      subst (IsTrueOccurrence history troupe first Called m) (sym t.is)
      (r.1, subst (λ n. Called sender (fetch_message n r.1)) (t.own_is ∙ own_is) (subst (Called sender) whole called))

  -- a call that was made for any purpose
  pub called_true : (client : ℕ) (firsts : List ValueTree) (Other : Caller → List ℕ → Type 0) (purpose : Purpose) (message : List ℕ)
      → IsTrueCallFor history client firsts Other purpose message → Called sender message
      → accepted_call d declared own sender message ≡ Some o → IsTrueOccurrence history troupe first Called m o
  called_true client firsts Other (for.Ask name server) message true_call called is = ask_true client firsts Other name server message true_call called is
  called_true client firsts Other (for.Ring request) message true_call called is =
      let b = before_some (λ (r : Call × ℕ). taken_call d declared own sender r.0 (drop r.1 message)) (call_in message) o is in
      let r = request_read request b.value (ap call_in (sym true_call) ∙ b.is) in
      absurd (no_request b.value message r.0 r.1 b.then)
  called_true client firsts Other for.Fetch message true_call called is = fetch_true client true_call.0 message true_call.1 called is
