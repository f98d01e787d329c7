-- What messages say that are accepted.
use Rattle.std.proofs.Common.{◌≡◌, ℕ, ◌+◌, ◌<◌, Bool, true, false, ◌&&◌, not, List, length, Option, None, Some, refl, sym, ap, ◌∙◌}
use Rattle.std.specs.Prelude.{nat_lt, ◌==◌, option_map, option_and_then, if◌then◌else◌}
use Rattle.std.specs.Option.{option_map_or}
use Rattle.std.proofs.lemmas.Bool.{eqb-true, ltb-true}
use Rattle.circus_value.specs.declared.caller.Caller.{Caller}
use Rattle.circus_value.specs.declared.outcome.Outcome.{Outcome}
use Rattle.circus_external.proofs.ShapesAlike.{and_both}
use Rattle.circus_header.specs.Reading.{IsOne}
use Rattle.circus_header.specs.declared.call.CallHeader.{CallHeader}
use Rattle.circus_header.specs.declared.call.Request.{Request}
use Rattle.circus_header.specs.declared.answer.Reply.{Reply}
use Rattle.circus_header.specs.declared.answer.ReturnHeader.{ReturnHeader}
use Rattle.circus_header.specs.declared.answer.ReturnHeader.TheVariants as says
use Rattle.circus_collate.specs.declared.deployment.Deployment.{Deployment}
use Rattle.circus_collate.specs.declared.table.Table.{Table}
use Rattle.circus_ring.specs.TableFields.{tables}
use Rattle.circus_model.specs.Lawful.{procedure_numbered, import_of, import_answers, outcome_fits}
use Rattle.circus_model.specs.declared.signature.Import.{Import}
use Rattle.circus_model.specs.declared.signature.ProcedureShape.{ProcedureShape}
use Rattle.circus_model.specs.declared.signature.Signature.{Signature}
use Rattle.circus_fanout.specs.Asking.{Asking}
use Rattle.circus_member_rules.specs.OpenAsks.{asking_of}
use Rattle.circus_member_rules.specs.declared.occurrence.AskName.{AskName}
use Rattle.circus_member_rules.specs.declared.occurrence.Occurrence.{Occurrence}
use Rattle.circus_member_rules.specs.declared.occurrence.Occurrence.TheVariants as comes
use Rattle.circus_member_rules.specs.MemberState.{MemberState}
use Rattle.circus_node.specs.Headers.{return_in, table_at}
use Rattle.circus_node.specs.Accepting.{is_host_of, is_root, unpacks, is_in_order, may_ask, taken_ask, taken_fetch, recorded_ask, called_by, imported_procedure, outcome_of, taken_reply, may_tell, taken_table, accepted_table}
use Rattle.circus_member_theory.proofs.Accepting.Options.{before_some, seen_some}
use Rattle.circus_member_theory.proofs.Accepting.Tables.{table_is_one}

-- ---- calls

pub record IsInOrder (d : Deployment) (own sender : ℕ) (h : CallHeader) : Type 0 where
  pub root : is_root d h.root ≡ true
  pub server : h.server ≡ own
  pub clock : length h.clock ≡ length d.troupes
  pub short : length h.path + h.server < length d.troupes

pub in_order : (d : Deployment) (own sender : ℕ) (h : CallHeader) → is_in_order d own sender h ≡ true → IsInOrder d own sender h
in_order d own sender h is =
    let short : Bool = nat_lt (length h.path + h.server) (length d.troupes) in
    let clock : Bool = length h.clock == length d.troupes in
    let other : Bool = not (is_root d h.server) in
    let server : Bool = h.server == own in
    let root : Bool = is_root d h.root in
    let host : Bool = is_host_of d h.client sender in
    let a = and_both (host && root && server && other && clock) short is in
    let b = and_both (host && root && server && other) clock a.0 in
    let c = and_both (host && root && server) other b.0 in
    let e = and_both (host && root) server c.0 in
    record {
      root = (and_both host root e.0).1;
      server = eqb-true h.server own e.1;
      clock = eqb-true (length h.clock) (length d.troupes) b.1;
      short = ltb-true (length h.path + h.server) (length d.troupes) a.1;
    }

-- an ask that was taken
pub record IsTaken (d : Deployment) (declared : Signature) (own : ℕ) (sender : Caller) (h : CallHeader) (body : List ℕ) (o : Occurrence) : Type 0 where
  pub is : o ≡ comes.Asked h body sender
  pub order : IsInOrder d own sender.node h
  pub has : unpacks d declared h.procedure body ≡ true

pub ask_taken : (d : Deployment) (declared : Signature) (own : ℕ) (sender : Caller) (h : CallHeader) (body : List ℕ) (o : Occurrence)
    → taken_ask d declared own sender h body ≡ Some o → IsTaken d declared own sender h body o
ask_taken d declared own sender h body o is = by_test (may_ask d declared own sender.node h body) refl is
  where
    by_test : (may : Bool) → may_ask d declared own sender.node h body ≡ may → (if may then Some (comes.Asked h body sender) else None) ≡ Some o
        → IsTaken d declared own sender h body o
    by_test true may e =
        let both = and_both (is_in_order d own sender.node h) (unpacks d declared h.procedure body) may in
        record { is = cc; order = in_order d own sender.node h both.0; has = both.1 }
    by_test false may e = cc

-- a state request that was taken is for the own troupe
pub record IsTakenFetch (own : ℕ) (sender : Caller) (troupe incarnation : ℕ) (o : Occurrence) : Type 0 where
  pub is : o ≡ comes.Fetched incarnation sender
  pub own_is : troupe ≡ own

pub fetch_taken : (own : ℕ) (sender : Caller) (troupe incarnation : ℕ) (o : Occurrence) → taken_fetch own sender troupe incarnation ≡ Some o
    → IsTakenFetch own sender troupe incarnation o
fetch_taken own sender troupe incarnation o is = by_test (troupe == own) refl is
  where
    by_test : (same : Bool) → (troupe == own) ≡ same → (if same then Some (comes.Fetched incarnation sender) else None) ≡ Some o → IsTakenFetch own sender troupe incarnation o
    by_test true same e = record { is = cc; own_is = eqb-true troupe own same }
    by_test false same e = cc

-- ---- replies

-- the reply has the clock and the outcome that were read
pub record IsTakenReply {M : Type 0} (d : Deployment) (declared : Signature) (m : MemberState M) (name : AskName) (clock : List ℕ) (at : ℕ) (message : List ℕ) (reply : Reply) : Type 0 where
  pub counts : length clock ≡ length d.troupes
  pub clock_is : reply.clock ≡ clock
  pub outcome_read : outcome_of d declared m name at message ≡ Some reply.outcome

pub reply_taken : {M : Type 0} (d : Deployment) (declared : Signature) (m : MemberState M) (name : AskName) (clock : List ℕ) (at : ℕ) (message : List ℕ) (reply : Reply)
    → taken_reply d declared m name clock at message ≡ Some reply → IsTakenReply d declared m name clock at message reply
reply_taken {M = M} d declared m name clock at message reply is = by_test (length clock == length d.troupes) refl is
  where
    by_test : (counts : Bool) → (length clock == length d.troupes) ≡ counts
        → (if counts then option_map (λ (o : Outcome). record { clock = clock; outcome = o }) (outcome_of d declared m name at message) else None) ≡ Some reply
        → IsTakenReply d declared m name clock at message reply
    by_test true counts e =
        let s = seen_some (λ (o : Outcome). let r : Reply = record { clock = clock; outcome = o } in r) (outcome_of d declared m name at message) reply e in
        record {
          counts = eqb-true (length clock) (length d.troupes) counts;
          clock_is = ap (λ (r : Reply). r.clock) s.seen;
          outcome_read = s.is ∙ ap (λ (r : Reply). Some r.outcome) (sym s.seen);
        }
    by_test false counts e = cc

-- the procedure of an import
abbrev pub imported_as : Signature → ℕ → ℕ → Option ProcedureShape
imported_as declared callee procedure = option_and_then (λ (i : Import). procedure_numbered procedure i.procedures) (import_of callee declared.imports)

-- what an open ask calls
pub called_open : {M : Type 0} (declared : Signature) (m : MemberState M) (name : AskName) (a : Asking) → asking_of m.asks name ≡ Some a
    → option_and_then (imported_procedure declared) (called_by m name) ≡ imported_as declared a.header.server a.header.procedure
called_open declared m name a is =
    ap
    (λ o. option_and_then (imported_procedure declared)
    (option_map_or (λ (x : Asking). Some (record { troupe = x.header.server; procedure = x.header.procedure })) o (recorded_ask m.performing.kept name)))
    is

-- an imported procedure answers with what fits it
pub imported_answers : (declared : Signature) (callee procedure : ℕ) (p : ProcedureShape) (outcome : Outcome) → imported_as declared callee procedure ≡ Some p
    → import_answers declared.imports callee procedure outcome ≡ outcome_fits p outcome
imported_answers declared callee procedure p outcome is =
    let i = before_some (λ (x : Import). procedure_numbered procedure x.procedures) (import_of callee declared.imports) p is in
    ap (λ o. option_map_or (λ (x : Import). option_map_or (λ (q : ProcedureShape). outcome_fits q outcome) (procedure_numbered procedure x.procedures) false) o false) i.is
    ∙ ap (λ o. option_map_or (λ (q : ProcedureShape). outcome_fits q outcome) o false) i.then

-- ---- tables

-- a table was told
pub record IsTold (request : Request) (o : Occurrence) : Type 0 where
  pub table : Table
  pub is : o ≡ comes.Told request table
  pub one : IsOne tables table

pub table_told : (d : Deployment) (request : Request) (message : List ℕ) (o : Occurrence) → accepted_table d request message ≡ Some o → IsTold request o
table_told d request message o is =
    let b = before_some (λ (r : ReturnHeader × ℕ). taken_table d request r.0 r.1 message) (return_in message) o is in
    by_header b.value.0 b.value.1 b.then
  where
    by_test : (table : Table) (may : Bool) → IsOne tables table → (if may then Some (comes.Told request table) else None) ≡ Some o → IsTold request o
    by_test table true one e = record { table = table; is = cc; one = one }
    by_test table false one e = cc

    by_header : (h : ReturnHeader) (at : ℕ) → taken_table d request h at message ≡ Some o → IsTold request o
    by_header says.Table at e =
        let t = before_some (λ (x : Table). if may_tell d request x then Some (comes.Told request x) else None) (table_at at message) o e in
        by_test t.value (may_tell d request t.value) (table_is_one at message t.value t.is) t.then
    by_header (says.Reply clock) at e = cc
    by_header (says.Stale incarnation) at e = cc
    by_header (says.Before index) at e = cc
    by_header (says.Snapshot count) at e = cc
