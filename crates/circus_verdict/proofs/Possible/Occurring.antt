-- What happens to the member of a node says what may stand in the record of the node.
use Rattle.std.specs.List.{AllByRecursion}
use Rattle.std.specs.Prelude.{◌==◌, option_map, option_and_then, if◌then◌else◌}
use Rattle.std.proofs.Common.{◌≡◌, ℕ, ◌<◌, ◌≤◌, Bool, true, false, List, [], ◌∷◌, ◌++◌, map, length, drop, All, Option, None, Some, refl, sym, ap, subst, ◌∙◌, arith}
use Rattle.std.proofs.lemmas.Bool.{eqb-true}
use Rattle.std.proofs.lemmas.List.Elements.{recursion_from_All}
use Rattle.circus_limits.specs.Limits.{most_asks, limit_of}
use Rattle.circus_value.specs.Fits.{all_fit}
use Rattle.circus_value.specs.Parts.{AreOctets}
use Rattle.circus_value.specs.ValueTree.{ValueTree}
use Rattle.circus_value.specs.declared.caller.Caller.{Caller}
use Rattle.circus_value.specs.declared.outcome.Outcome.{Outcome}
use Rattle.circus_header.specs.Field.{Field, word, long, HasRoom}
use Rattle.circus_header.specs.CallFields.{call_fields}
use Rattle.circus_header.specs.ReturnFields.{return_fields, has_rest}
use Rattle.circus_header.specs.Reading.{IsOne, calls, returns}
use Rattle.circus_header.specs.Seen.Layouts.{return_layout}
use Rattle.circus_header.specs.declared.call.Call.{Call}
use Rattle.circus_header.specs.declared.call.Call.TheVariants.{Ask, Ring, Fetch}
use Rattle.circus_header.specs.declared.call.CallHeader.{CallHeader}
use Rattle.circus_header.specs.declared.answer.Reply.{Reply}
use Rattle.circus_header.specs.declared.answer.ReturnHeader.{ReturnHeader}
use Rattle.circus_header.specs.declared.answer.ReturnHeader.TheVariants as says
use Rattle.circus_header.proofs.Returns.{under_returns}
use Rattle.circus_collate.specs.declared.deployment.Deployment.{Deployment}
use Rattle.circus_collate.specs.declared.kind.Kind.TheVariants.{First}
use Rattle.circus_model.specs.Lawful.{outcome_fits}
use Rattle.circus_model.specs.declared.signature.ProcedureShape.{ProcedureShape}
use Rattle.circus_model.specs.declared.signature.Signature.{Signature}
use Rattle.circus_config.specs.declared.plan.Plan.{Plan}
use Rattle.circus_record.specs.declared.record.MemberRecord.{MemberRecord}
use Rattle.circus_performing.specs.Performing.{last_count, founder}
use Rattle.circus_gather.specs.Gathering as gathering
use Rattle.circus_fanout.specs.Knowing as knowing
use Rattle.circus_wire.specs.declared.delivery.Heard.{Heard}
use Rattle.circus_wire.specs.declared.delivery.Heard.TheVariants.{Dropped, Taken, Called, Returned}
use Rattle.circus_member_rules.specs.MemberState.{MemberState}
use Rattle.circus_member_rules.specs.declared.occurrence.AskName.{AskName}
use Rattle.circus_member_rules.specs.declared.occurrence.Occurrence.{Occurrence}
use Rattle.circus_member_rules.specs.declared.occurrence.Occurrence.TheVariants as comes
use Rattle.circus_member_rules.specs.declared.occurrence.Purpose.{Purpose}
use Rattle.circus_member_rules.specs.declared.occurrence.Purpose.TheVariants as for
use Rattle.circus_node.specs.Accepting.{is_root, recorded_ask, imported_procedure, taken_call, accepted_call, accepted_state, reply_by, said_by, answer_by}
use Rattle.circus_node.specs.Bodies.{outcome_at, restored_in}
use Rattle.circus_node.specs.Headers.{call_in, return_in}
use Rattle.circus_member_theory.proofs.Accepting.Calls.{call_is_one}
use Rattle.circus_member_theory.proofs.Accepting.Can.{AreHeardOctets}
use Rattle.circus_member_theory.proofs.Accepting.Fitting.{outcome_found_fits, state_found}
use Rattle.circus_member_theory.proofs.Accepting.Heads.{read_back, whole_read}
use Rattle.circus_member_theory.proofs.Accepting.Options.{before_some, seen_some}
use Rattle.circus_member_theory.proofs.Accepting.Taken.{ask_taken, fetch_taken, table_told}
use Rattle.circus_world_theory.proofs.Timely.Ranges.{accepted_range}
use Rattle.circus_headline_theory.specs.NodeRun.{occurrence_by_record}
use Rattle.circus_audit.specs.Possible.{AreWords, AreLongs, IsClock, IsOther}

-- ---- headers

all_after : {X : Type 0} (P : X → Type 0) (xs ys : List X) → AllByRecursion P (xs ++ ys) → AllByRecursion P ys
all_after P [] ys all = all
all_after P (x ∷ xs) ys all = all_after P xs ys all.1

longs_of : (clock : List ℕ) → AllByRecursion HasRoom (map long clock) → AreLongs clock
longs_of [] all = tt
longs_of (n ∷ clock) all = (all.0, longs_of clock all.1)

words_of : (path : List ℕ) → AllByRecursion (λ n. n < most_asks) path → AreWords path
words_of [] all = tt
words_of (n ∷ path) all = (let low = all.0 in omega (arith, low), words_of path all.1)

call_longs : (h : CallHeader) → All HasRoom (call_fields (Ask h)) → AreLongs h.clock
call_longs h room =
    let all = recursion_from_All HasRoom (call_fields (Ask h)) room in
    let between : List Field = word h.client ∷ long h.client_incarnation ∷ long h.client_index ∷ word h.server ∷ long h.server_incarnation ∷ word h.procedure ∷ word
    (length h.clock) ∷ map long h.clock in
    let rest = all_after HasRoom (map word h.path) between all.1.1.1 in
    longs_of h.clock rest.1.1.1.1.1.1.1

reply_longs : (clock : List ℕ) → All HasRoom (return_fields (says.Reply clock)) → AreLongs clock
reply_longs clock room = (let all = recursion_from_All HasRoom (return_fields (says.Reply clock)) room in longs_of clock all.1.1)

return_is_one : (message : List ℕ) (read : ReturnHeader × ℕ) → return_in message ≡ Some read → IsOne returns read.0
return_is_one message read is =
    let r = whole_read return_layout has_rest message read is in
    let q = read_back return_layout 0 message read.0 read.1 r.by in
    (under_returns.meant read.0 q.fields q.taken).0

-- ---- what happens

-- at a member of this node, whose module declares this, by its record in the end
module _ (plan : Plan) (named : length plan.names ≡ length plan.deployment.troupes) (s : Signature) (node own : ℕ) (kept : MemberRecord) where
  abbrev d : Deployment
  d = plan.deployment

  -- an ask says where a thread stands
  pub record IsWellAsked (h : CallHeader) : Type 0 where
    pub root : is_root plan.deployment h.root ≡ true
    pub path : AreWords h.path
    pub clock : IsClock plan h.clock

  -- another node replied what the procedure may give that was asked
  pub record IsWellReplied (name : AskName) (from : ℕ) (reply : Reply) : Type 0 where
    pub other : IsOther plan node from
    pub clock : IsClock plan reply.clock
    pub shape : ProcedureShape
    pub asked : option_and_then (imported_procedure s) (recorded_ask kept name) ≡ Some shape
    pub fits : outcome_fits shape reply.outcome ≡ true

  abbrev pub IsWell : Occurrence → Type 0
  IsWell (comes.Asked header body sender) = IsWellAsked header
  IsWell (comes.Fetched incarnation sender) = Unit {0}
  IsWell (comes.Replied name from reply) = IsWellReplied name from reply
  IsWell (comes.IsStale name server from incarnation) = Unit {0}
  IsWell (comes.IsBefore name from) = Unit {0}
  IsWell (comes.Told request table) = Unit {0}
  IsWell (comes.Restored state count) = (count ≤ last_count) × (all_fit s.variables state ≡ true)
  IsWell (comes.Declared other) = Unit {0}
  IsWell comes.Joins = Unit {0}

  -- ---- calls

  well_called : (sender : Caller) (message : List ℕ) (o : Occurrence) → accepted_call d s own sender message ≡ Some o → IsWell o
  well_called sender message o is =
      let b = before_some (λ (r : Call × ℕ). taken_call d s own sender r.0 (drop r.1 message)) (call_in message) o is in
      by_call b.value.0 b.value.1 (call_is_one message b.value b.is) b.then
    where
      by_call : (c : Call) (at : ℕ) → IsOne calls c → taken_call d s own sender c (drop at message) ≡ Some o → IsWell o
      by_call (Ask h) at one e =
          let t = ask_taken d s own sender h (drop at message) o e in
          let asked : IsWellAsked h =
          record {
            root = t.order.root;
            path = words_of h.path (recursion_from_All (λ n. n < most_asks) h.path one.0.path);
            clock = (t.order.clock ∙ sym named, call_longs h one.1);
          } in
          subst IsWell (sym t.is) asked
      by_call (Ring request) at one e = absurd (let clash : ◌≡◌ {A = Option Occurrence} None (Some o) = e in cc)
      by_call (Fetch troupe incarnation) at one e = (let t = fetch_taken own sender troupe incarnation o e in subst IsWell (sym t.is) tt)

  -- ---- returns

  reply_well : (name : AskName) (from : ℕ) (clock : List ℕ) (at : ℕ) (message : List ℕ) (reply : Reply) → IsOther plan node from → AreOctets message → AreLongs clock
      → reply_by d s (recorded_ask kept name) clock at message ≡ Some reply → IsWellReplied name from reply
  reply_well name from clock at message reply other octets longs is = by_test (length clock == length d.troupes) refl is
    where
      by_test : (t : Bool) → (length clock == length d.troupes) ≡ t
          → (if t
          then option_map (λ (outcome : Outcome). let r : Reply = record { clock = clock; outcome = outcome } in r)
          (option_and_then (λ (p : ProcedureShape). outcome_at p (limit_of d.format) at message) (option_and_then (imported_procedure s) (recorded_ask kept name)))
          else None)
          ≡ Some reply → IsWellReplied name from reply
      by_test false t e = absurd (let clash : ◌≡◌ {A = Option Reply} None (Some reply) = e in cc)
      by_test true t e =
          let o = seen_some (λ (outcome : Outcome). let r : Reply = record { clock = clock; outcome = outcome } in r)
          (option_and_then (λ (p : ProcedureShape). outcome_at p (limit_of d.format) at message) (option_and_then (imported_procedure s) (recorded_ask kept name))) reply e in
          let p = before_some (λ (p : ProcedureShape). outcome_at p (limit_of d.format) at message) (option_and_then (imported_procedure s) (recorded_ask kept name)) o.value o.is in
          record {
            other = other;
            clock = subst (IsClock plan) (sym (ap (λ (r : Reply). r.clock) o.seen)) (eqb-true (length clock) (length d.troupes) t ∙ sym named, longs);
            shape = p.value;
            asked = p.is;
            fits = ap (λ (r : Reply). outcome_fits p.value r.outcome) o.seen ∙ outcome_found_fits p.value (limit_of d.format) at message o.value octets p.then;
          }

  well_answered : (name : AskName) (server from : ℕ) (message : List ℕ) (o : Occurrence) → IsOther plan node from → AreOctets message
      → answer_by d s (recorded_ask kept name) name server from message ≡ Some o → IsWell o
  well_answered name server from message o other octets is =
      let b = before_some (λ (read : ReturnHeader × ℕ). said_by d s (recorded_ask kept name) name server from read.0 read.1 message) (return_in message) o is in
      by_header b.value.0 b.value.1 (return_is_one message b.value b.is) b.then
    where
      by_header : (h : ReturnHeader) (at : ℕ) → IsOne returns h → said_by d s (recorded_ask kept name) name server from h at message ≡ Some o → IsWell o
      by_header (says.Reply clock) at one e =
          let r = seen_some (λ (reply : Reply). comes.Replied name from reply) (reply_by d s (recorded_ask kept name) clock at message) o e in
          subst IsWell (sym r.seen) (reply_well name from clock at message r.value other octets (reply_longs clock one.1) r.is)
      by_header (says.Stale incarnation) at one e = (let same : comes.IsStale name server from incarnation ≡ o = cc in subst IsWell same tt)
      by_header (says.Before index) at one e = (let same : comes.IsBefore name from ≡ o = cc in subst IsWell same tt)
      by_header (says.Snapshot count) at one e = absurd (let clash : ◌≡◌ {A = Option Occurrence} None (Some o) = e in cc)
      by_header says.Table at one e = absurd (let clash : ◌≡◌ {A = Option Occurrence} None (Some o) = e in cc)

  -- a member like any other: what a snapshot says is the same at each
  abbrev some_member : MemberState (Unit {0})
  some_member =
      record {
        place = record { node = node; troupe = own; calls = First; replies = First; troupes = [] };
        known = knowing.at_boot [];
        gathered = gathering.before_any own 0;
        performing = founder tt [];
        asks = [];
        requests = [];
      }

  well_restored : (number from : ℕ) (message : List ℕ) (o : Occurrence) → AreOctets message → accepted_state s message ≡ Some o → IsWell o
  well_restored number from message o octets is =
      let r = seen_some (λ (restored : List ValueTree × ℕ). comes.Restored restored.0 restored.1) (restored_in s.variables s.limit message) o is in
      subst IsWell (sym r.seen) (
        accepted_range d s some_member from (Returned number for.Fetch message) (comes.Restored r.value.0 r.value.1) octets (is ∙ ap (λ x. Some x) r.seen),
        (state_found s message r.value octets r.is).fits,
      )

  pub occurs_well : (from : ℕ) (heard : Heard Purpose) (o : Occurrence) → IsOther plan node from → AreHeardOctets heard → occurrence_by_record d s own kept from heard ≡ Some o → IsWell o
  occurs_well from Dropped o other octets is = absurd (let clash : ◌≡◌ {A = Option Occurrence} None (Some o) = is in cc)
  occurs_well from Taken o other octets is = absurd (let clash : ◌≡◌ {A = Option Occurrence} None (Some o) = is in cc)
  occurs_well from (Called sender message) o other octets is = well_called sender message o is
  occurs_well from (Returned number (for.Ask name server) message) o other octets is = well_answered name server from message o other octets is
  occurs_well from (Returned number (for.Ring request) message) o other octets is = (let t = table_told d request message o is in subst IsWell (sym t.is) tt)
  occurs_well from (Returned number for.Fetch message) o other octets is = well_restored number from message o octets is
