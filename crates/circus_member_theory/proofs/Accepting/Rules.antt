-- What is accepted, by what is read of a message, is what is accepted by its grammar.
use Rattle.std.proofs.Common.{◌≡◌, ℕ, Bool, true, false, ◌&&◌, List, [], length, drop, Option, None, Some, refl, sym, ap, ◌∙◌, subst}
use Rattle.std.specs.Prelude.{nat_lt, ◌==◌, is_some, option_map, option_and_then, if◌then◌else◌}
use Rattle.std.specs.Option.{option_map_or}
use Rattle.std.proofs.lemmas.Bool.{lt-ltb, ltb-true, eq-eqb, eqb-true}
use Rattle.std.proofs.lemmas.Option.{same_Some}
use Rattle.circus_value.specs.ValueTree.{ValueTree}
use Rattle.circus_value.specs.declared.caller.Caller.{Caller}
use Rattle.circus_value.specs.declared.outcome.Outcome.{Outcome}
use Rattle.circus_value.specs.Parts.{AreOctets}
use Rattle.circus_limits.specs.Limits.{limit_of}
use Rattle.circus_external.proofs.Promises.{octets_rest}
use Rattle.circus_external.proofs.ShapesAlike.{and_both}
use Rattle.circus_header.specs.Reading.{calls, returns}
use Rattle.circus_header.specs.declared.answer.Reply.{Reply}
use Rattle.circus_header.specs.declared.answer.ReturnHeader.{ReturnHeader}
use Rattle.circus_header.specs.declared.answer.ReturnHeader.TheVariants as says
use Rattle.circus_header.specs.declared.call.Call.{Call}
use Rattle.circus_header.specs.declared.call.Call.TheVariants.{Ask, Ring, Fetch}
use Rattle.circus_header.specs.declared.call.CallHeader.{CallHeader}
use Rattle.circus_header.specs.declared.call.Request.{Request}
use Rattle.circus_collate.specs.declared.deployment.Deployment.{Deployment}
use Rattle.circus_collate.specs.declared.table.Table.{Table}
use Rattle.circus_ring.specs.RingTable.{Kept, troupe_of}
use Rattle.circus_ring.specs.TableFields.{tables}
use Rattle.circus_model.proofs.Lookups.{found as found_by}
use Rattle.circus_model.specs.Lawful.{procedure_numbered}
use Rattle.circus_model.specs.declared.signature.ProcedureShape.{ProcedureShape}
use Rattle.circus_model.specs.declared.signature.Signature.{Signature}
use Rattle.circus_member_rules.specs.MemberState.{MemberState}
use Rattle.circus_member_rules.specs.declared.occurrence.AskName.{AskName}
use Rattle.circus_member_rules.specs.declared.occurrence.Occurrence.{Occurrence}
use Rattle.circus_member_rules.specs.declared.occurrence.Occurrence.TheVariants as comes
use Rattle.circus_member_rules.specs.declared.occurrence.Purpose.{Purpose}
use Rattle.circus_member_rules.specs.declared.occurrence.Purpose.TheVariants as for
use Rattle.circus_member_rules.specs.Proper.{IsProperProcedure, IsProperModule}
use Rattle.circus_node.specs.Bodies.{values_at, outcome_at, restored_in}
use Rattle.circus_node.specs.Headers.{call_in, return_in, table_at}
use Rattle.circus_node.specs.Accepting.{is_in_order, unpacks, may_ask, taken_call, accepted_call, taken_request, accepted_request, taken_answer, accepted_answer, may_tell, taken_table, accepted_table, accepted_state, accepted_return}
use Rattle.circus_node.specs.Grammar.{Heads, SpellArguments, SpellOutcome}
use Rattle.circus_node.specs.Acceptance as rules
use Rattle.circus_node.specs.Acceptance.{procedure_called, AcceptsCall, AcceptsRequest, AcceptsAnswer, AcceptsTable, AcceptsState, AcceptsReturn}
use Rattle.circus_member_theory.proofs.Accepting.Options.{before_some, seen_some, passes_some}
use Rattle.circus_member_theory.proofs.Accepting.Spelled.{header_length, body_is, call_heads, call_read, return_heads, return_read, table_heads, table_read, values_spelled, spelled_values, outcome_spelled, spelled_outcome, state_handed, handed_state}

-- ---- arguments

some_value : {A : Type 0} (o : Option A) → is_some o ≡ true → (x : A) × (o ≡ Some x)
some_value None is = cc
some_value (Some x) is = (x, refl)

arguments_spelled : (d : Deployment) (declared : Signature) (procedure : ℕ) (body : List ℕ) → AreOctets body → unpacks d declared procedure body ≡ true
    → SpellArguments declared.procedures procedure (limit_of d.format) body
arguments_spelled d declared procedure body octets is =
    let p = passes_some (λ (q : ProcedureShape). is_some (values_at q.arguments (limit_of d.format) 0 body)) (procedure_numbered procedure declared.procedures) is in
    let v = some_value (values_at p.value.arguments (limit_of d.format) 0 body) p.passes in
    record {
      procedure = p.value;
      numbered = p.is;
      arguments = v.0;
      spelled = values_spelled p.value.arguments (limit_of d.format) 0 body v.0 octets v.1;
    }

spelled_arguments : (d : Deployment) (declared : Signature) (procedure : ℕ) (body : List ℕ) → IsProperModule declared
    → SpellArguments declared.procedures procedure (limit_of d.format) body → unpacks d declared procedure body ≡ true
spelled_arguments d declared procedure body proper s =
    let among = (found_by (λ (q : ProcedureShape). q.number == procedure) declared.procedures s.procedure s.numbered).among in
    ap (λ o. option_map_or (λ (q : ProcedureShape). is_some (values_at q.arguments (limit_of d.format) 0 body)) o false) s.numbered
    ∙ ap is_some (spelled_values s.procedure.arguments (limit_of d.format) 0 body s.arguments (proper.procedures s.procedure among).arguments s.spelled)

-- ---- calls

module _ (d : Deployment) (declared : Signature) (own : ℕ) (sender : Caller) (message : List ℕ) where
  pub call_follows : (o : Occurrence) → AreOctets message → accepted_call d declared own sender message ≡ Some o → AcceptsCall d declared own sender message o
  call_follows o octets is =
      let b = before_some (λ (read : Call × ℕ). taken_call d declared own sender read.0 (drop read.1 message)) (call_in message) o is in
      by_call b.value.0 b.value.1 (call_heads message b.value.0 b.value.1 octets b.is).0 b.then
    where
      by_ask : (h : CallHeader) (at : ℕ) (may : Bool) → may_ask d declared own sender.node h (drop at message) ≡ may → Heads calls message (Ask h) (drop at message)
          → (if may then Some (comes.Asked h (drop at message) sender) else None) ≡ Some o → AcceptsCall d declared own sender message o
      by_ask h at true may heads e =
          let both = and_both (is_in_order d own sender.node h) (unpacks d declared h.procedure (drop at message)) may in
          subst (AcceptsCall d declared own sender message) (same_Some (comes.Asked h (drop at message) sender) o e)
          (rules.ask h (drop at message) heads both.0 (arguments_spelled d declared h.procedure (drop at message) (octets_rest message at octets) both.1))
      by_ask h at false may heads e = cc

      by_fetch : (troupe incarnation : ℕ) (same : Bool) → (troupe == own) ≡ same → Heads calls message (Fetch troupe incarnation) []
          → (if same then Some (comes.Fetched incarnation sender) else None) ≡ Some o → AcceptsCall d declared own sender message o
      by_fetch troupe incarnation true same heads e =
          subst (AcceptsCall d declared own sender message) (same_Some (comes.Fetched incarnation sender) o e)
          (rules.fetch incarnation (subst (λ t. Heads calls message (Fetch t incarnation) []) (eqb-true troupe own same) heads))
      by_fetch troupe incarnation false same heads e = cc

      by_call : (call : Call) (at : ℕ) → Heads calls message call (drop at message) → taken_call d declared own sender call (drop at message) ≡ Some o
          → AcceptsCall d declared own sender message o
      by_call (Ask h) at heads e = by_ask h at (may_ask d declared own sender.node h (drop at message)) refl heads e
      by_call (Ring request) at heads e = cc
      by_call (Fetch troupe incarnation) at heads e =
          by_fetch troupe incarnation (troupe == own) refl (subst (Heads calls message (Fetch troupe incarnation)) (heads.closed refl) heads) e

  -- what heads a message is taken
  call_taken : (call : Call) (body : List ℕ) → Heads calls message call body → accepted_call d declared own sender message ≡ taken_call d declared own sender call body
  call_taken call body heads =
      ap (option_and_then (λ (read : Call × ℕ). taken_call d declared own sender read.0 (drop read.1 message))) (call_read message body call heads)
      ∙ ap (taken_call d declared own sender call) (body_is calls message body call heads)

  pub call_accepted : (o : Occurrence) → IsProperModule declared → AcceptsCall d declared own sender message o → accepted_call d declared own sender message ≡ Some o
  call_accepted o proper (rules.ask h body heads order arguments) =
      let may : may_ask d declared own sender.node h body ≡ true =
      ap (λ b. b && unpacks d declared h.procedure body) order ∙ spelled_arguments d declared h.procedure body proper arguments in
      call_taken (Ask h) body heads ∙ ap (λ b. if b then Some (comes.Asked h body sender) else None) may
  call_accepted o proper (rules.fetch incarnation heads) =
      call_taken (Fetch own incarnation) [] heads ∙ ap (λ b. if b then Some (comes.Fetched incarnation sender) else None) (eq-eqb own own refl)

-- ---- requests

module _ (kept : Kept) (message : List ℕ) (request : Request) where
  pub request_follows : AreOctets message → accepted_request kept message ≡ Some request → AcceptsRequest kept message request
  request_follows octets is =
      let b = before_some (λ (read : Call × ℕ). taken_request kept read.0) (call_in message) request is in
      by_call b.value.0 b.value.1 (call_heads message b.value.0 b.value.1 octets b.is).0 b.then
    where
      by_test : (other : Request) (known : Bool) → nat_lt (troupe_of other) (length kept.troupes) ≡ known → Heads calls message (Ring other) []
          → (if known then Some other else None) ≡ Some request → AcceptsRequest kept message request
      by_test other true known heads e =
          subst (AcceptsRequest kept message) (same_Some other request e)
          (record { header = heads; known = ltb-true (troupe_of other) (length kept.troupes) known })
      by_test other false known heads e = cc

      by_call : (call : Call) (at : ℕ) → Heads calls message call (drop at message) → taken_request kept call ≡ Some request → AcceptsRequest kept message request
      by_call (Ask h) at heads e = cc
      by_call (Ring other) at heads e =
          by_test other (nat_lt (troupe_of other) (length kept.troupes)) refl (subst (Heads calls message (Ring other)) (heads.closed refl) heads) e
      by_call (Fetch troupe incarnation) at heads e = cc

  pub request_accepted : AcceptsRequest kept message request → accepted_request kept message ≡ Some request
  request_accepted a =
      ap (option_and_then (λ (read : Call × ℕ). taken_request kept read.0)) (call_read message [] (Ring request) a.header)
      ∙ ap (λ b. if b then Some request else None) (lt-ltb (troupe_of request) (length kept.troupes) a.known)

-- ---- returns to an ask

-- what a return comes to, by the procedure that the ask called
abbrev reply_by : Deployment → Option ProcedureShape → List ℕ → ℕ → List ℕ → Option Reply
reply_by d called clock at message =
    if length clock == length d.troupes
    then option_map (λ outcome. record { clock = clock; outcome = outcome }) (option_and_then (λ p. outcome_at p (limit_of d.format) at message) called)
    else None

abbrev pub answer_by : Deployment → Option ProcedureShape → AskName → ℕ → ℕ → List ℕ → ReturnHeader × ℕ → Option Occurrence
answer_by d called name server from message (says.Reply clock, at) = option_map (λ reply. comes.Replied name from reply) (reply_by d called clock at message)
answer_by d called name server from message (says.Stale incarnation, at) = Some (comes.IsStale name server from incarnation)
answer_by d called name server from message (says.Before first, at) = Some (comes.IsBefore name from)
answer_by d called name server from message (says.Snapshot count, at) = None
answer_by d called name server from message (says.Table, at) = None

module _ (d : Deployment) (called : Option ProcedureShape) (name : AskName) (server from : ℕ) (message : List ℕ) where
  abbrev Accepts : Occurrence → Type 0
  Accepts = AcceptsAnswer d called name server from message

  reply_follows : (o : Occurrence) (clock : List ℕ) (at : ℕ) → AreOctets message → Heads returns message (says.Reply clock) (drop at message)
      → (counts : Bool) → (length clock == length d.troupes) ≡ counts
      → option_map (λ reply. comes.Replied name from reply)
      (if counts then option_map (λ outcome. let r : Reply = record { clock = clock; outcome = outcome } in r)
      (option_and_then (λ (p : ProcedureShape). outcome_at p (limit_of d.format) at message) called) else None) ≡ Some o → Accepts o
  reply_follows o clock at octets heads true counts e =
      let outcomes : Option Outcome = option_and_then (λ (p : ProcedureShape). outcome_at p (limit_of d.format) at message) called in
      let reply : Outcome → Reply = λ outcome. record { clock = clock; outcome = outcome } in
      let s = seen_some (λ r. comes.Replied name from r) (option_map reply outcomes) o e in
      let v = seen_some reply outcomes s.value s.is in
      let p = before_some (λ (q : ProcedureShape). outcome_at q (limit_of d.format) at message) called v.value v.is in
      subst Accepts (ap (λ r. comes.Replied name from r) (sym v.seen) ∙ sym s.seen)
      (rules.reply clock (drop at message) p.value v.value heads (eqb-true (length clock) (length d.troupes) counts) p.is
      (outcome_spelled p.value (limit_of d.format) at message v.value octets p.then))
  reply_follows o clock at octets heads false counts e = cc

  pub answer_follows : (o : Occurrence) → AreOctets message → option_and_then (answer_by d called name server from message) (return_in message) ≡ Some o → Accepts o
  answer_follows o octets is =
      let b = before_some (answer_by d called name server from message) (return_in message) o is in
      by_header b.value.0 b.value.1 (return_heads message b.value.0 b.value.1 octets b.is).0 b.then
    where
      by_header : (h : ReturnHeader) (at : ℕ) → Heads returns message h (drop at message) → answer_by d called name server from message (h, at) ≡ Some o → Accepts o
      by_header (says.Reply clock) at heads e = reply_follows o clock at octets heads (length clock == length d.troupes) refl e
      by_header (says.Stale incarnation) at heads e =
          subst Accepts (same_Some (comes.IsStale name server from incarnation) o e)
          (rules.stale incarnation (subst (Heads returns message (says.Stale incarnation)) (heads.closed refl) heads))
      by_header (says.Before first) at heads e =
          subst Accepts (same_Some (comes.IsBefore name from) o e) (rules.before first (subst (Heads returns message (says.Before first)) (heads.closed refl) heads))
      by_header (says.Snapshot count) at heads e = cc
      by_header says.Table at heads e = cc

  -- what heads a message is taken
  answer_taken : (h : ReturnHeader) (body : List ℕ) → Heads returns message h body
      → option_and_then (answer_by d called name server from message) (return_in message) ≡ answer_by d called name server from message (h, header_length returns h)
  answer_taken h body heads = ap (option_and_then (answer_by d called name server from message)) (return_read message body h heads)

  pub answer_accepted : (o : Occurrence) → ((p : ProcedureShape) → called ≡ Some p → IsProperProcedure p) → Accepts o
      → option_and_then (answer_by d called name server from message) (return_in message) ≡ Some o
  answer_accepted o proper (rules.reply clock body p outcome heads counts is spelled) =
      let at = header_length returns (says.Reply clock) in
      let here = subst (λ b. SpellOutcome p (limit_of d.format) b outcome) (sym (body_is returns message body (says.Reply clock) heads)) spelled in
      let outcomes : Option Outcome = option_and_then (λ (q : ProcedureShape). outcome_at q (limit_of d.format) at message) called in
      let read : outcomes ≡ Some outcome =
      ap (option_and_then (λ (q : ProcedureShape). outcome_at q (limit_of d.format) at message)) is
      ∙ spelled_outcome p (limit_of d.format) at message outcome (proper p is) here in
      let reply : Outcome → Reply = λ x. record { clock = clock; outcome = x } in
      answer_taken (says.Reply clock) body heads
      ∙ ap (λ b. option_map (λ r. comes.Replied name from r) (if b then option_map reply outcomes else None)) (eq-eqb (length clock) (length d.troupes) counts)
      ∙ ap (λ x. option_map (λ r. comes.Replied name from r) (option_map reply x)) read
  answer_accepted o proper (rules.stale incarnation heads) = answer_taken (says.Stale incarnation) [] heads
  answer_accepted o proper (rules.before first heads) = answer_taken (says.Before first) [] heads

-- ---- returns for other purposes

module _ (d : Deployment) (request : Request) (message : List ℕ) where
  pub table_follows : (o : Occurrence) → AreOctets message → accepted_table d request message ≡ Some o → AcceptsTable d request message o
  table_follows o octets is =
      let b = before_some (λ (read : ReturnHeader × ℕ). taken_table d request read.0 read.1 message) (return_in message) o is in
      by_header b.value.0 b.value.1 (return_heads message b.value.0 b.value.1 octets b.is).0 b.then
    where
      by_test : (table : Table) (at : ℕ) (may : Bool) → may_tell d request table ≡ may
          → Heads returns message says.Table (drop at message) → Heads tables (drop at message) table []
          → (if may then Some (comes.Told request table) else None) ≡ Some o → AcceptsTable d request message o
      by_test table at true may heads told e =
          subst (AcceptsTable d request message) (same_Some (comes.Told request table) o e) (rules.table (drop at message) table heads told may)
      by_test table at false may heads told e = cc

      by_header : (h : ReturnHeader) (at : ℕ) → Heads returns message h (drop at message) → taken_table d request h at message ≡ Some o → AcceptsTable d request message o
      by_header says.Table at heads e =
          let t = before_some (λ (x : Table). if may_tell d request x then Some (comes.Told request x) else None) (table_at at message) o e in
          by_test t.value at (may_tell d request t.value) refl heads (table_heads at message t.value octets t.is) t.then
      by_header (says.Reply clock) at heads e = cc
      by_header (says.Stale incarnation) at heads e = cc
      by_header (says.Before first) at heads e = cc
      by_header (says.Snapshot count) at heads e = cc

  pub table_accepted : (o : Occurrence) → AcceptsTable d request message o → accepted_table d request message ≡ Some o
  table_accepted o (rules.table body told heads inner may) =
      let at = header_length returns says.Table in
      let here = subst (λ b. Heads tables b told []) (sym (body_is returns message body says.Table heads)) inner in
      ap (option_and_then (λ (read : ReturnHeader × ℕ). taken_table d request read.0 read.1 message)) (return_read message body says.Table heads)
      ∙ ap (option_and_then (λ (x : Table). if may_tell d request x then Some (comes.Told request x) else None)) (table_read at message told here)
      ∙ ap (λ b. if b then Some (comes.Told request told) else None) may

module _ (declared : Signature) (message : List ℕ) where
  pub state_follows : (o : Occurrence) → AreOctets message → accepted_state declared message ≡ Some o → AcceptsState declared message o
  state_follows o octets is =
      let s = seen_some (λ (restored : List ValueTree × ℕ). comes.Restored restored.0 restored.1) (restored_in declared.variables declared.limit message) o is in
      subst (AcceptsState declared message) (sym s.seen)
      (rules.state s.value.0 s.value.1 (state_handed declared.variables declared.limit message s.value.0 s.value.1 octets s.is))

  pub state_accepted : (o : Occurrence) → IsProperModule declared → AcceptsState declared message o → accepted_state declared message ≡ Some o
  state_accepted o proper (rules.state values count handed) =
      ap (option_map (λ (restored : List ValueTree × ℕ). comes.Restored restored.0 restored.1))
      (handed_state declared.variables declared.limit message values count proper.variables handed)

-- ---- returns to a member

module _ {M : Type 0} (d : Deployment) (declared : Signature) (m : MemberState M) (from : ℕ) (message : List ℕ) where
  -- a member takes what the procedure gives that it called
  answer_is : (name : AskName) (server : ℕ)
      → accepted_answer d declared m name server from message
      ≡ option_and_then (answer_by d (procedure_called declared m name) name server from message) (return_in message)
  answer_is name server = by_read (return_in message)
    where
      by_read : (r : Option (ReturnHeader × ℕ))
          → option_and_then (λ (read : ReturnHeader × ℕ). taken_answer d declared m name server from read.0 read.1 message) r
          ≡ option_and_then (answer_by d (procedure_called declared m name) name server from message) r
      by_read None = refl
      by_read (Some (says.Reply clock, at)) = refl
      by_read (Some (says.Stale incarnation, at)) = refl
      by_read (Some (says.Before first, at)) = refl
      by_read (Some (says.Snapshot count, at)) = refl
      by_read (Some (says.Table, at)) = refl

  pub return_follows : (purpose : Purpose) (o : Occurrence) → AreOctets message → accepted_return d declared m from purpose message ≡ Some o
      → AcceptsReturn d declared (procedure_called declared m) from purpose message o
  return_follows (for.Ask name server) o octets is =
      answer_follows d (procedure_called declared m name) name server from message o octets (sym (answer_is name server) ∙ is)
  return_follows (for.Ring request) o octets is = table_follows d request message o octets is
  return_follows for.Fetch o octets is = state_follows declared message o octets is

  pub return_accepted : (purpose : Purpose) (o : Occurrence) → IsProperModule declared
      → ((name : AskName) (p : ProcedureShape) → procedure_called declared m name ≡ Some p → IsProperProcedure p)
      → AcceptsReturn d declared (procedure_called declared m) from purpose message o → accepted_return d declared m from purpose message ≡ Some o
  return_accepted (for.Ask name server) o proper called_proper a =
      answer_is name server ∙ answer_accepted d (procedure_called declared m name) name server from message o (called_proper name) a
  return_accepted (for.Ring request) o proper called_proper a = table_accepted d request message o a
  return_accepted for.Fetch o proper called_proper a = state_accepted declared message o proper a
