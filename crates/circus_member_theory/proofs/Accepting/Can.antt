-- What is accepted can happen.
use Rattle.std.proofs.Common.{◌≡◌, ℕ, ◌<◌, ◌≤◌, true, false, List, [], length, drop, Option, None, Some, refl, sym, ap, ◌∙◌, subst, arith}
use Rattle.std.specs.Prelude.{◌==◌, IfSome, is_some, slice_get, option_and_then, if◌then◌else◌}
use Rattle.std.specs.Option.{option_map_or}
use Rattle.std.proofs.lemmas.Option.{slice_get_within}
use Rattle.circus_value.specs.ValueTree.{ValueTree}
use Rattle.circus_value.specs.ExternalSize.{size_of_values}
use Rattle.circus_value.specs.Fits.{all_fit}
use Rattle.circus_value.specs.Parts.{AreOctets}
use Rattle.circus_value.specs.declared.caller.Caller.{Caller}
use Rattle.circus_external.proofs.Promises.{octets_rest}
use Rattle.circus_external.specs.Reading.{fields_reading}
use Rattle.circus_header.specs.CallFields.{IsCall}
use Rattle.circus_header.specs.declared.answer.Reply.{Reply}
use Rattle.circus_header.specs.declared.answer.ReturnHeader.{ReturnHeader}
use Rattle.circus_header.specs.declared.answer.ReturnHeader.TheVariants as says
use Rattle.circus_header.specs.declared.call.Call.{Call}
use Rattle.circus_header.specs.declared.call.Call.TheVariants.{Ask, Ring, Fetch}
use Rattle.circus_collate.specs.declared.deployment.Deployment.{Deployment}
use Rattle.circus_collate.specs.declared.deployment.Troupe.{Troupe}
use Rattle.circus_limits.specs.Limits.{first_limit, most_bytes, limit_of}
use Rattle.circus_transfer.specs.Snapshot.{fields_of}
use Rattle.circus_model.specs.Lawful.{procedure_numbered, arguments_fit}
use Rattle.circus_model.specs.declared.signature.ProcedureShape.{ProcedureShape}
use Rattle.circus_model.specs.declared.signature.Signature.{Signature}
use Rattle.circus_fanout.specs.Asking.{Asking}
use Rattle.circus_wire.specs.declared.delivery.Heard.{Heard}
use Rattle.circus_wire.specs.declared.delivery.Heard.TheVariants.{Dropped, Taken, Called, Returned}
use Rattle.circus_member_rules.specs.Messages.{values_found, arguments_in}
use Rattle.circus_member_rules.specs.OpenAsks.{asking_of}
use Rattle.circus_member_rules.specs.declared.occurrence.AskName.{AskName}
use Rattle.circus_member_rules.specs.declared.occurrence.Occurrence.{Occurrence}
use Rattle.circus_member_rules.specs.declared.occurrence.Occurrence.TheVariants as comes
use Rattle.circus_member_rules.specs.declared.occurrence.Purpose.{Purpose}
use Rattle.circus_member_rules.specs.declared.occurrence.Purpose.TheVariants as for
use Rattle.circus_member_rules.specs.Happening.{IsReplyTo, CanHappen}
use Rattle.circus_member_rules.specs.MemberState.{MemberState}
use Rattle.circus_node.specs.Bodies.{values_at, outcome_at, restored_in}
use Rattle.circus_node.specs.Headers.{call_in, return_in}
use Rattle.circus_node.specs.Seen.Can.{HasArguments}
use Rattle.circus_node.specs.Accepting.{IsMemberOf, is_root, unpacks, called_by, imported_procedure, taken_call, accepted_call, taken_reply, taken_answer, accepted_answer, occurrence_of_heard}
use Rattle.circus_member_theory.proofs.Accepting.Calls.{call_is_one}
use Rattle.circus_member_theory.proofs.Accepting.Fitting.{are_at, found_fit, found_within, outcome_found_fits, state_found}
use Rattle.circus_member_theory.proofs.Accepting.Options.{before_some, seen_some}
use Rattle.circus_member_theory.proofs.Accepting.Taken.{ask_taken, fetch_taken, IsTakenReply, reply_taken, called_open, imported_answers, table_told}

-- the bytes of a message that is heard are octets; of a table nothing is asked
abbrev pub AreHeardOctets : Heard Purpose → Type 0
AreHeardOctets Dropped = Unit {0}
AreHeardOctets Taken = Unit {0}
AreHeardOctets (Called sender message) = AreOctets message
AreHeardOctets (Returned number (for.Ask name server) message) = AreOctets message
AreHeardOctets (Returned number (for.Ring request) message) = Unit {0}
AreHeardOctets (Returned number for.Fetch message) = AreOctets message

-- ---- calls

limit_low : (format : ℕ) → limit_of format ≤ most_bytes
limit_low format = elim (format == 1) as (λ b. (if b then first_limit else most_bytes) ≤ most_bytes) [ true ↦ omega arith | false ↦ omega arith ]

has_arguments : (d : Deployment) (declared : Signature) (procedure : ℕ) (body : List ℕ) → AreOctets body → unpacks d declared procedure body ≡ true → HasArguments declared procedure body
has_arguments d declared procedure body octets is = by_shape (procedure_numbered procedure declared.procedures) refl is
  where
    by_values : (p : ProcedureShape) → procedure_numbered procedure declared.procedures ≡ Some p → (o : Option (List ValueTree))
        → values_at p.arguments (limit_of d.format) 0 body ≡ o → is_some o ≡ true → HasArguments declared procedure body
    by_values p shape (Some values) e some =
        let a = are_at p.arguments (limit_of d.format) 0 body values e in
        let are : arguments_in declared.procedures procedure body ≡ values =
        ap (λ o. option_map_or (λ (q : ProcedureShape). values_found (fields_reading (fields_of q.arguments) 0 body)) o []) shape ∙ ap values_found a.whole.is in
        record {
          fit = ap (arguments_fit declared.procedures procedure) are ∙ ap (λ o. option_map_or (λ (q : ProcedureShape). all_fit q.arguments values) o false) shape
              ∙ found_fit p.arguments (limit_of d.format) 0 body values octets a;
          within = omega (arith, ap size_of_values are, found_within p.arguments (limit_of d.format) 0 body values octets a, limit_low d.format);
        }
    by_values p shape None e some = cc

    by_shape : (o : Option ProcedureShape) → procedure_numbered procedure declared.procedures ≡ o
        → option_map_or (λ (p : ProcedureShape). is_some (values_at p.arguments (limit_of d.format) 0 body)) o false ≡ true → HasArguments declared procedure body
    by_shape (Some p) shape e = by_values p shape (values_at p.arguments (limit_of d.format) 0 body) refl e
    by_shape None shape e = cc

root_below : (d : Deployment) (place : ℕ) → is_root d place ≡ true → place < length d.troupes
root_below d place is = by_troupe (slice_get d.troupes place) refl is
  where
    by_troupe : (o : Option Troupe) → slice_get d.troupes place ≡ o → option_map_or (λ (t : Troupe). t.root) o false ≡ true → place < length d.troupes
    by_troupe (Some t) there e = slice_get_within d.troupes place t there
    by_troupe None there e = cc

module _ {M : Type 0} (d : Deployment) (declared : Signature) (m : MemberState M) (member : IsMemberOf d m) where
  call_can : (sender : Caller) (message : List ℕ) (o : Occurrence) → AreOctets message → accepted_call d declared m.place.troupe sender message ≡ Some o → CanHappen declared m o
  call_can sender message o octets is =
      let b = before_some (λ (r : Call × ℕ). taken_call d declared m.place.troupe sender r.0 (drop r.1 message)) (call_in message) o is in
      by_call b.value.0 b.value.1 (call_is_one message b.value b.is).0 b.then
    where
      by_call : (c : Call) (at : ℕ) → IsCall c → taken_call d declared m.place.troupe sender c (drop at message) ≡ Some o → CanHappen declared m o
      by_call (Ask h) at one e =
          let t = ask_taken d declared m.place.troupe sender h (drop at message) o e in
          let has = has_arguments d declared h.procedure (drop at message) (octets_rest message at octets) t.has in
          subst (CanHappen declared m) (sym t.is) (record {
            thread = record {
              begins = omega (arith, root_below d h.root t.order.root, member.views);
              numbers = one.path;
              short = omega (arith, t.order.short, t.order.server, member.views);
              counts = t.order.clock ∙ sym member.views;
            };
            fit = has.fit;
            within = has.within;
          })
      by_call (Ring request) at one e = cc
      by_call (Fetch troupe incarnation) at one e =
          let t = fetch_taken m.place.troupe sender troupe incarnation o e in subst (CanHappen declared m) (sym t.is) one.1

  -- ---- returns

  reply_can : (name : AskName) (from : ℕ) (clock : List ℕ) (at : ℕ) (message : List ℕ) (reply : Reply) → AreOctets message
      → IsTakenReply d declared m name clock at message reply → CanHappen declared m (comes.Replied name from reply)
  reply_can name from clock at message reply octets r = by_open (asking_of m.asks name) refl
    where
      by_open : (asking : Option Asking) → asking_of m.asks name ≡ asking → IfSome asking (IsReplyTo declared (length m.known.views) reply)
      by_open None none = tt
      by_open (Some a) some =
          let p = before_some (λ (q : ProcedureShape). outcome_at q (limit_of d.format) at message) (option_and_then (imported_procedure declared) (called_by m name)) reply.outcome r.outcome_read in
          let shape = sym (called_open declared m name a some) ∙ p.is in
          record {
            counts = ap length r.clock_is ∙ r.counts ∙ sym member.views;
            fits = imported_answers declared a.header.server a.header.procedure p.value reply.outcome shape ∙ outcome_found_fits p.value (limit_of d.format) at message reply.outcome octets p.then;
          }

  answer_can : (name : AskName) (server from : ℕ) (message : List ℕ) (o : Occurrence) → AreOctets message
      → accepted_answer d declared m name server from message ≡ Some o → CanHappen declared m o
  answer_can name server from message o octets is =
      let b = before_some (λ (r : ReturnHeader × ℕ). taken_answer d declared m name server from r.0 r.1 message) (return_in message) o is in
      by_header b.value.0 b.value.1 b.then
    where
      by_header : (h : ReturnHeader) (at : ℕ) → taken_answer d declared m name server from h at message ≡ Some o → CanHappen declared m o
      by_header (says.Reply clock) at e =
          let s = seen_some (λ (r : Reply). comes.Replied name from r) (taken_reply d declared m name clock at message) o e in
          subst (CanHappen declared m) (sym s.seen)
          (reply_can name from clock at message s.value octets (reply_taken d declared m name clock at message s.value s.is))
      by_header (says.Stale incarnation) at e = let same : comes.IsStale name server from incarnation ≡ o = cc in subst (CanHappen declared m) same tt
      by_header (says.Before index) at e = let same : comes.IsBefore name from ≡ o = cc in subst (CanHappen declared m) same tt
      by_header (says.Snapshot count) at e = cc
      by_header says.Table at e = cc

  pub accepted_can : (from : ℕ) (heard : Heard Purpose) (o : Occurrence) → AreHeardOctets heard → occurrence_of_heard d declared m from heard ≡ Some o → CanHappen declared m o
  accepted_can from Dropped o octets is = cc
  accepted_can from Taken o octets is = cc
  accepted_can from (Called sender message) o octets is = call_can sender message o octets is
  accepted_can from (Returned number (for.Ask name server) message) o octets is = answer_can name server from message o octets is
  accepted_can from (Returned number (for.Ring request) message) o octets is =
      let t = table_told d request message o is in subst (CanHappen declared m) (sym t.is) t.one.0.incarnation
  accepted_can from (Returned number for.Fetch message) o octets is =
      let s = seen_some (λ (r : List ValueTree × ℕ). comes.Restored r.0 r.1) (restored_in declared.variables declared.limit message) o is in
      subst (CanHappen declared m) (sym s.seen) (state_found declared message s.value octets s.is)
