-- A count that is read in bytes has room in a record.
use Rattle.std.proofs.Common.{◌≡◌, ℕ, ◌<◌, ◌≤◌, Bool, true, false, ◌&&◌, List, [], ◌∷◌, drop, None, Some, sym, subst, arith, ltb-true}
use Rattle.std.specs.Prelude.{nat_le, nat_lt, option_and_then, if◌then◌else◌}
use Rattle.circus_value.specs.ValueTree.{ValueTree, long_cardinal}
use Rattle.circus_value.specs.ExternalSize.{size_of_values}
use Rattle.circus_value.specs.Fits.{fits}
use Rattle.circus_value.specs.Parts.{AreOctets}
use Rattle.circus_value.specs.ShapeTree as S
use Rattle.circus_value.specs.declared.caller.Caller.{Caller}
use Rattle.circus_value.specs.declared.shape.Shape.{Shape}
use Rattle.circus_external.specs.Spelling.{fields_admit}
use Rattle.circus_external.specs.Reading.{fields_reading}
use Rattle.circus_external.proofs.Promises.{fields_read_are_spelled}
use Rattle.circus_external.proofs.ShapesAlike.{and_both}
use Rattle.circus_header.specs.declared.answer.Reply.{Reply}
use Rattle.circus_header.specs.declared.answer.ReturnHeader.{ReturnHeader}
use Rattle.circus_header.specs.declared.answer.ReturnHeader.TheVariants as says
use Rattle.circus_header.specs.declared.call.Call.{Call}
use Rattle.circus_header.specs.declared.call.Call.TheVariants.{Ask, Ring, Fetch}
use Rattle.circus_collate.specs.declared.deployment.Deployment.{Deployment}
use Rattle.circus_transfer.specs.Snapshot.{fields_of, snapshot_label, snapshot_fields}
use Rattle.circus_model.specs.declared.signature.Signature.{Signature}
use Rattle.circus_performing.specs.Performing.{last_count}
use Rattle.circus_wire.specs.declared.delivery.Heard.{Heard}
use Rattle.circus_wire.specs.declared.delivery.Heard.TheVariants.{Dropped, Taken, Called, Returned}
use Rattle.circus_member_rules.specs.declared.occurrence.AskName.{AskName}
use Rattle.circus_member_rules.specs.declared.occurrence.Occurrence.{Occurrence}
use Rattle.circus_member_rules.specs.declared.occurrence.Occurrence.TheVariants as comes
use Rattle.circus_member_rules.specs.declared.occurrence.Purpose.TheVariants as for
use Rattle.circus_member_rules.specs.declared.occurrence.Purpose.{Purpose}
use Rattle.circus_member_rules.specs.MemberState.{MemberState}
use Rattle.circus_node.specs.Accepting.{taken_call, accepted_call, taken_reply, taken_answer, accepted_answer, occurrence_of_heard}
use Rattle.circus_node.specs.Bodies.{found_whole, counted_state, restored_in}
use Rattle.circus_node.specs.Headers.{call_in, return_in}
use Rattle.circus_member_theory.specs.Ranges.{InRange}
use Rattle.circus_member_theory.proofs.Accepting.Can.{AreHeardOctets}
use Rattle.circus_member_theory.proofs.Accepting.Fitting.{is_whole}
use Rattle.circus_member_theory.proofs.Accepting.Options.{before_some, seen_some}
use Rattle.circus_member_theory.proofs.Accepting.Taken.{ask_taken, fetch_taken, table_told}

-- ---- states

count_found : (variables : List Shape) (values : List ValueTree) (restored : List ValueTree × ℕ) → fields_admit (snapshot_fields variables) values ≡ true
    → counted_state values ≡ Some restored → restored.1 < 4294967296
count_found variables (kind ∷ long_cardinal count ∷ state) restored fit is =
    let same : restored ≡ (state, count) = cc in
    let behind = and_both (fits (S.enumeration (snapshot_label ∷ [])) kind) (nat_lt count 4294967296 && fields_admit (fields_of variables) state) fit in
    subst (λ (r : List ValueTree × ℕ). r.1 < 4294967296) (sym same)
    (ltb-true count 4294967296 (and_both (nat_lt count 4294967296) (fields_admit (fields_of variables) state) behind.1).0)
count_found variables values restored fit is = cc

restored_low : (variables : List Shape) (most : ℕ) (message : List ℕ) (restored : List ValueTree × ℕ) → AreOctets message
    → restored_in variables most message ≡ Some restored → restored.1 < 4294967296
restored_low variables most message restored octets is =
    let r = before_some (λ (x : List ValueTree × ℕ). if nat_le (size_of_values x.0) most then Some x else None)
    (option_and_then counted_state (found_whole (fields_reading (snapshot_fields variables) 0 message))) restored is in
    let v = before_some counted_state (found_whole (fields_reading (snapshot_fields variables) 0 message)) r.value r.is in
    let w = is_whole (fields_reading (snapshot_fields variables) 0 message) v.value v.is in
    let spelled = fields_read_are_spelled (snapshot_fields variables) 0 message v.value w.place [] octets w.is in
    by_test r.value (count_found variables v.value r.value spelled.0 v.then) (nat_le (size_of_values r.value.0) most) r.then
  where
    by_test : (x : List ValueTree × ℕ) → x.1 < 4294967296 → (within : Bool) → (if within then Some x else None) ≡ Some restored → restored.1 < 4294967296
    by_test x low true e = let same : x ≡ restored = cc in subst (λ (y : List ValueTree × ℕ). y.1 < 4294967296) same low
    by_test x low false e = cc

-- ---- what is accepted

module _ {M : Type 0} (d : Deployment) (declared : Signature) (m : MemberState M) where
  call_range : (sender : Caller) (message : List ℕ) (o : Occurrence) → accepted_call d declared m.place.troupe sender message ≡ Some o → InRange o
  call_range sender message o is =
      let b = before_some (λ (r : Call × ℕ). taken_call d declared m.place.troupe sender r.0 (drop r.1 message)) (call_in message) o is in
      by_call b.value.0 b.value.1 b.then
    where
      by_call : (c : Call) (at : ℕ) → taken_call d declared m.place.troupe sender c (drop at message) ≡ Some o → InRange o
      by_call (Ask h) at e = let t = ask_taken d declared m.place.troupe sender h (drop at message) o e in subst InRange (sym t.is) tt
      by_call (Ring request) at e = cc
      by_call (Fetch troupe incarnation) at e = let t = fetch_taken m.place.troupe sender troupe incarnation o e in subst InRange (sym t.is) tt

  answer_range : (name : AskName) (server from : ℕ) (message : List ℕ) (o : Occurrence) → accepted_answer d declared m name server from message ≡ Some o → InRange o
  answer_range name server from message o is =
      let b = before_some (λ (r : ReturnHeader × ℕ). taken_answer d declared m name server from r.0 r.1 message) (return_in message) o is in
      by_header b.value.0 b.value.1 b.then
    where
      by_header : (h : ReturnHeader) (at : ℕ) → taken_answer d declared m name server from h at message ≡ Some o → InRange o
      by_header (says.Reply clock) at e =
          let s = seen_some (λ (r : Reply). comes.Replied name from r) (taken_reply d declared m name clock at message) o e in subst InRange (sym s.seen) tt
      by_header (says.Stale incarnation) at e = let same : comes.IsStale name server from incarnation ≡ o = cc in subst InRange same tt
      by_header (says.Before index) at e = let same : comes.IsBefore name from ≡ o = cc in subst InRange same tt
      by_header (says.Snapshot count) at e = cc
      by_header says.Table at e = cc

  pub accepted_range : (from : ℕ) (heard : Heard Purpose) (o : Occurrence) → AreHeardOctets heard → occurrence_of_heard d declared m from heard ≡ Some o → InRange o
  accepted_range from Dropped o octets is = cc
  accepted_range from Taken o octets is = cc
  accepted_range from (Called sender message) o octets is = call_range sender message o is
  accepted_range from (Returned number (for.Ask name server) message) o octets is = answer_range name server from message o is
  accepted_range from (Returned number (for.Ring request) message) o octets is =
      let t = table_told d request message o is in subst InRange (sym t.is) tt
  accepted_range from (Returned number for.Fetch message) o octets is =
      let s = seen_some (λ (r : List ValueTree × ℕ). comes.Restored r.0 r.1) (restored_in declared.variables declared.limit message) o is in
      let low = restored_low declared.variables declared.limit message s.value octets s.is in
      let few : s.value.1 ≤ last_count = omega (arith, low) in
      subst InRange (sym s.seen) few
