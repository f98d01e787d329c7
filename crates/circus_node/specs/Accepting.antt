-- Which messages that arrive are accepted, and what happens by each of them.
use Rattle.std.specs.Prelude.{◌≡◌, ℕ, ◌+◌, ◌-◌, Bool, true, false, not, ◌&&◌, ◌||◌, ◌==◌, nat_lt, if◌then◌else◌, List, [], ◌∷◌, length, drop, slice_get, Option, None, Some, is_some, option_map, option_and_then}
use Rattle.std.specs.List.{list_any, list_all}
use Rattle.std.specs.Option.{option_map_or}
use Rattle.circus_value.specs.Among.{is_among}
use Rattle.circus_value.specs.ValueTree.{ValueTree}
use Rattle.circus_value.specs.declared.caller.Caller.{Caller}
use Rattle.circus_value.specs.declared.outcome.Outcome.{Outcome}
use Rattle.circus_header.specs.declared.call.CallHeader.{CallHeader}
use Rattle.circus_header.specs.declared.call.Request.{Request}
use Rattle.circus_header.specs.declared.call.Call.{Call}
use Rattle.circus_header.specs.declared.call.Call.TheVariants.{Ask, Ring, Fetch}
use Rattle.circus_header.specs.declared.answer.Reply.{Reply}
use Rattle.circus_header.specs.declared.answer.ReturnHeader.{ReturnHeader}
use Rattle.circus_header.specs.declared.answer.ReturnHeader.TheVariants as says
use Rattle.circus_collate.specs.declared.view.Entry.{Entry}
use Rattle.circus_collate.specs.declared.table.Table.{Table}
use Rattle.circus_collate.specs.declared.deployment.Troupe.{Troupe}
use Rattle.circus_collate.specs.declared.deployment.Host.{Host}
use Rattle.circus_collate.specs.declared.deployment.Deployment.{Deployment}
use Rattle.circus_ring.specs.RingTable.{Kept, troupe_of}
use Rattle.circus_model.specs.Lawful.{procedure_numbered, import_of}
use Rattle.circus_model.specs.declared.signature.Signature.{Signature}
use Rattle.circus_model.specs.declared.signature.Import.{Import}
use Rattle.circus_model.specs.declared.signature.ProcedureShape.{ProcedureShape}
use Rattle.circus_record.specs.declared.record.AskRecord.{AskRecord}
use Rattle.circus_record.specs.declared.record.RunRecord.{RunRecord}
use Rattle.circus_record.specs.declared.record.MemberRecord.{MemberRecord}
use Rattle.circus_fanout.specs.Asking.{Asking}
use Rattle.circus_wire.specs.declared.delivery.Heard.{Heard}
use Rattle.circus_wire.specs.declared.delivery.Heard.TheVariants.{Dropped, Taken, Called, Returned}
use Rattle.circus_member_rules.specs.declared.occurrence.AskName.{AskName}
use Rattle.circus_member_rules.specs.declared.occurrence.Purpose.{Purpose}
use Rattle.circus_member_rules.specs.declared.occurrence.Purpose.TheVariants as for
use Rattle.circus_member_rules.specs.declared.occurrence.Occurrence.{Occurrence}
use Rattle.circus_member_rules.specs.declared.occurrence.Occurrence.TheVariants as comes
use Rattle.circus_member_rules.specs.OpenAsks.{asking_of}
use Rattle.circus_member_rules.specs.MemberState.{MemberState}
use Rattle.circus_node.specs.declared.program.Callee.{Callee}
use Rattle.circus_node.specs.Headers.{call_in, return_in, table_at}
use Rattle.circus_limits.specs.Limits.{limit_of}
use Rattle.circus_node.specs.Bodies.{values_at, outcome_at, restored_in}

-- the member knows a view of each troupe
pub record IsMemberOf {M : Type 0} (d : Deployment) (m : MemberState M) : Type 0 where
  pub views : length m.known.views ≡ length d.troupes

-- ---- the program

-- the troupe of the member that a node hosts
abbrev pub troupe_at : Deployment → ℕ → Option ℕ
troupe_at d node = option_and_then (λ (h : Host). h.module) (slice_get d.nodes node)

-- a node hosts a member of a troupe
abbrev pub is_host_of : Deployment → ℕ → ℕ → Bool
is_host_of d troupe node = option_map_or (λ hosted. hosted == troupe) (troupe_at d node) false

abbrev pub is_root : Deployment → ℕ → Bool
is_root d «module» = option_map_or (λ (t : Troupe). t.root) (slice_get d.troupes «module») false

-- a node is a founder or a spare of a troupe
abbrev pub may_belong : Deployment → ℕ → ℕ → Bool
may_belong d troupe node =
    option_map_or (λ (t : Troupe). is_among t.founders node || is_among t.spares node) (slice_get d.troupes troupe) false

-- ---- calls

-- arguments unpack
abbrev pub unpacks : Deployment → Signature → ℕ → List ℕ → Bool
unpacks d declared procedure body =
    option_map_or (λ (p : ProcedureShape). is_some (values_at p.arguments (limit_of d.format) 0 body))
    (procedure_numbered procedure declared.procedures)
    false

-- an ask of a node is in order for a member of a troupe: the node is of the client's troupe; the root is one; the server is
-- the member's module, and no root; the clock has a count for each module; and path and server stay below the modules
abbrev pub is_in_order : Deployment → ℕ → ℕ → CallHeader → Bool
is_in_order d own sender h =
    is_host_of d h.client sender
    && is_root d h.root
    && (h.server == own)
    && not (is_root d h.server)
    && (length h.clock == length d.troupes)
    && nat_lt (length h.path + h.server) (length d.troupes)

-- and its arguments unpack
abbrev pub may_ask : Deployment → Signature → ℕ → ℕ → CallHeader → List ℕ → Bool
may_ask d declared own sender h body = is_in_order d own sender h && unpacks d declared h.procedure body

abbrev pub taken_ask : Deployment → Signature → ℕ → Caller → CallHeader → List ℕ → Option Occurrence
taken_ask d declared own sender h body = if may_ask d declared own sender.node h body then Some (comes.Asked h body sender) else None

-- a state request names the own troupe
abbrev pub taken_fetch : ℕ → Caller → ℕ → ℕ → Option Occurrence
taken_fetch own sender troupe incarnation = if troupe == own then Some (comes.Fetched incarnation sender) else None

-- a call to a member, with what stands behind its header
abbrev pub taken_call : Deployment → Signature → ℕ → Caller → Call → List ℕ → Option Occurrence
taken_call d declared own sender (Ask h) body = taken_ask d declared own sender h body
taken_call d declared own sender (Ring request) body = None
taken_call d declared own sender (Fetch troupe incarnation) body = taken_fetch own sender troupe incarnation

abbrev pub accepted_call : Deployment → Signature → ℕ → Caller → List ℕ → Option Occurrence
accepted_call d declared own sender message =
    option_and_then (λ (read : Call × ℕ). taken_call d declared own sender read.0 (drop read.1 message)) (call_in message)

-- a call to the Ringmaster is a request about one of the troupes
abbrev pub taken_request : Kept → Call → Option Request
taken_request kept (Ask h) = None
taken_request kept (Ring request) = if nat_lt (troupe_of request) (length kept.troupes) then Some request else None
taken_request kept (Fetch troupe incarnation) = None

abbrev pub accepted_request : Kept → List ℕ → Option Request
accepted_request kept message = option_and_then (λ (read : Call × ℕ). taken_request kept read.0) (call_in message)

-- ---- returns to an ask

-- which procedure of whom an ask of a name calls, as the record has it
abbrev pub recorded_ask : MemberRecord → AskName → Option Callee
recorded_ask kept name =
    option_map (λ (a : AskRecord). record { troupe = a.callee; procedure = a.procedure })
    (option_and_then (λ (r : RunRecord). slice_get r.asks name.ask) (slice_get kept.runs (name.run - kept.from)))

-- what it calls; an open ask says so itself
abbrev pub called_by : {M : Type 0} → MemberState M → AskName → Option Callee
called_by m name =
    option_map_or (λ (a : Asking). Some (record { troupe = a.header.server; procedure = a.header.procedure }))
    (asking_of m.asks name)
    (recorded_ask m.performing.kept name)

-- the procedure of an import that is called
abbrev pub imported_procedure : Signature → Callee → Option ProcedureShape
imported_procedure declared callee =
    option_and_then (λ (i : Import). procedure_numbered callee.procedure i.procedures) (import_of callee.troupe declared.imports)

-- the outcome that the bytes from a place on are of what is called
abbrev pub outcome_by : Deployment → Signature → Option Callee → ℕ → List ℕ → Option Outcome
outcome_by d declared callee at message =
    option_and_then (λ p. outcome_at p (limit_of d.format) at message) (option_and_then (imported_procedure declared) callee)

-- a reply has a count for each module, and an outcome that unpacks
abbrev pub reply_by : Deployment → Signature → Option Callee → List ℕ → ℕ → List ℕ → Option Reply
reply_by d declared callee clock at message =
    if length clock == length d.troupes
    then option_map (λ outcome. record { clock = clock; outcome = outcome }) (outcome_by d declared callee at message)
    else None

-- what a return says to an ask of a name that calls this
abbrev pub said_by : Deployment → Signature → Option Callee → AskName → ℕ → ℕ → ReturnHeader → ℕ → List ℕ → Option Occurrence
said_by d declared callee name server from (says.Reply clock) at message =
    option_map (λ reply. comes.Replied name from reply) (reply_by d declared callee clock at message)
said_by d declared callee name server from (says.Stale incarnation) at message = Some (comes.IsStale name server from incarnation)
said_by d declared callee name server from (says.Before first) at message = Some (comes.IsBefore name from)
said_by d declared callee name server from (says.Snapshot count) at message = None
said_by d declared callee name server from says.Table at message = None

abbrev pub answer_by : Deployment → Signature → Option Callee → AskName → ℕ → ℕ → List ℕ → Option Occurrence
answer_by d declared callee name server from message =
    option_and_then (λ (read : ReturnHeader × ℕ). said_by d declared callee name server from read.0 read.1 message) (return_in message)

-- the same of an ask of a member
module _ {M : Type 0} (d : Deployment) (declared : Signature) (m : MemberState M) (name : AskName) where
  abbrev pub outcome_of : ℕ → List ℕ → Option Outcome
  outcome_of at message = outcome_by d declared (called_by m name) at message

  abbrev pub taken_reply : List ℕ → ℕ → List ℕ → Option Reply
  taken_reply clock at message = reply_by d declared (called_by m name) clock at message

  abbrev pub taken_answer : ℕ → ℕ → ReturnHeader → ℕ → List ℕ → Option Occurrence
  taken_answer server from header at message = said_by d declared (called_by m name) name server from header at message

  abbrev pub accepted_answer : ℕ → ℕ → List ℕ → Option Occurrence
  accepted_answer server from message = answer_by d declared (called_by m name) name server from message

-- ---- returns to a request and to a state request

-- no node stands in two entries
abbrev pub are_distinct : List Entry → Bool
are_distinct [] = true
are_distinct (e ∷ es) = not (list_any (λ (other : Entry). other.node == e.node) es) && are_distinct es

-- a table is of the request's troupe, and its entries are distinct nodes that are founders or spares of that
abbrev pub may_tell : Deployment → Request → Table → Bool
may_tell d request table =
    (table.view.troupe == troupe_of request)
    && are_distinct table.view.entries
    && list_all (λ (e : Entry). may_belong d table.view.troupe e.node) table.view.entries

abbrev pub told_at : Deployment → Request → ℕ → List ℕ → Option Occurrence
told_at d request at message =
    option_and_then (λ table. if may_tell d request table then Some (comes.Told request table) else None) (table_at at message)

abbrev pub taken_table : Deployment → Request → ReturnHeader → ℕ → List ℕ → Option Occurrence
taken_table d request says.Table at message = told_at d request at message
taken_table d request (says.Reply clock) at message = None
taken_table d request (says.Stale incarnation) at message = None
taken_table d request (says.Before first) at message = None
taken_table d request (says.Snapshot count) at message = None

abbrev pub accepted_table : Deployment → Request → List ℕ → Option Occurrence
accepted_table d request message =
    option_and_then (λ (read : ReturnHeader × ℕ). taken_table d request read.0 read.1 message) (return_in message)

-- a snapshot of a state that the module may have
abbrev pub accepted_state : Signature → List ℕ → Option Occurrence
accepted_state declared message =
    option_map (λ (restored : List ValueTree × ℕ). comes.Restored restored.0 restored.1)
    (restored_in declared.variables declared.limit message)

-- ---- what is heard

-- a return of a node to a call that was made for a purpose, where asks call these
abbrev pub return_by : Deployment → Signature → (AskName → Option Callee) → ℕ → Purpose → List ℕ → Option Occurrence
return_by d declared called from (for.Ask name server) message = answer_by d declared (called name) name server from message
return_by d declared called from (for.Ring request) message = accepted_table d request message
return_by d declared called from for.Fetch message = accepted_state declared message

-- what happens to a member of a troupe by what its node hears from another one
abbrev pub occurrence_by : Deployment → Signature → (AskName → Option Callee) → ℕ → ℕ → Heard Purpose → Option Occurrence
occurrence_by d declared called own from Dropped = None
occurrence_by d declared called own from Taken = None
occurrence_by d declared called own from (Called sender message) = accepted_call d declared own sender message
occurrence_by d declared called own from (Returned number purpose message) = return_by d declared called from purpose message

-- and to a member, of whose asks those that are open say themselves what they call
abbrev pub accepted_return : {M : Type 0} → Deployment → Signature → MemberState M → ℕ → Purpose → List ℕ → Option Occurrence
accepted_return d declared m from purpose message = return_by d declared (called_by m) from purpose message

abbrev pub occurrence_of_heard : {M : Type 0} → Deployment → Signature → MemberState M → ℕ → Heard Purpose → Option Occurrence
occurrence_of_heard d declared m from heard = occurrence_by d declared (called_by m) m.place.troupe from heard
