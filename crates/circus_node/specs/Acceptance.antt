-- Which messages are accepted, by their grammar, and what happens by each of them: a rule for each kind. `Accepting` says the same by
-- what is read of a message (circus_member_theory/src/grammar.rt).
use Rattle.std.specs.Prelude.{◌≡◌, ℕ, ◌<◌, true, List, [], length, Option, Some, option_and_then}
use Rattle.circus_value.specs.ValueTree.{ValueTree}
use Rattle.circus_value.specs.declared.caller.Caller.{Caller}
use Rattle.circus_value.specs.declared.outcome.Outcome.{Outcome}
use Rattle.circus_limits.specs.Limits.{limit_of}
use Rattle.circus_header.specs.Reading.{calls, returns}
use Rattle.circus_header.specs.declared.call.CallHeader.{CallHeader}
use Rattle.circus_header.specs.declared.call.Request.{Request}
use Rattle.circus_header.specs.declared.call.Call.TheVariants.{Ask, Ring, Fetch}
use Rattle.circus_header.specs.declared.answer.ReturnHeader.TheVariants as says
use Rattle.circus_collate.specs.declared.deployment.Deployment.{Deployment}
use Rattle.circus_collate.specs.declared.table.Table.{Table}
use Rattle.circus_ring.specs.RingTable.{Kept, troupe_of}
use Rattle.circus_ring.specs.TableFields.{tables}
use Rattle.circus_model.specs.declared.signature.Signature.{Signature}
use Rattle.circus_model.specs.declared.signature.ProcedureShape.{ProcedureShape}
use Rattle.circus_record.specs.declared.record.MemberRecord.{MemberRecord}
use Rattle.circus_member_rules.specs.MemberState.{MemberState}
use Rattle.circus_member_rules.specs.declared.occurrence.AskName.{AskName}
use Rattle.circus_member_rules.specs.declared.occurrence.Purpose.{Purpose}
use Rattle.circus_member_rules.specs.declared.occurrence.Purpose.TheVariants as for
use Rattle.circus_member_rules.specs.declared.occurrence.Occurrence.{Occurrence}
use Rattle.circus_member_rules.specs.declared.occurrence.Occurrence.TheVariants as comes
use Rattle.circus_node.specs.Accepting.{is_in_order, recorded_ask, called_by, imported_procedure, may_tell}
use Rattle.circus_node.specs.Grammar.{Heads, Spell, SpellArguments, SpellOutcome, HandsOver}

-- a call to a member: an ask in order with arguments of the procedure, or a state request that names the own troupe
pub data AcceptsCall (d : Deployment) (declared : Signature) (own : ℕ) (sender : Caller) (message : List ℕ) : Occurrence → Type 0 where
  ask : (h : CallHeader) (body : List ℕ)
      → Heads calls message (Ask h) body → is_in_order d own sender.node h ≡ true
      → SpellArguments declared.procedures h.procedure (limit_of d.format) body
      → AcceptsCall d declared own sender message (comes.Asked h body sender)
  fetch : (incarnation : ℕ)
      → Heads calls message (Fetch own incarnation) [] → AcceptsCall d declared own sender message (comes.Fetched incarnation sender)

-- a call to the Ringmaster: a request about a troupe of the program
pub record AcceptsRequest (kept : Kept) (message : List ℕ) (request : Request) : Type 0 where
  pub header : Heads calls message (Ring request) []
  pub known : troupe_of request < length kept.troupes

-- the imported procedure that an ask of a name calls, as a member knows it, and as a record has it
abbrev pub procedure_called : {M : Type 0} → Signature → MemberState M → AskName → Option ProcedureShape
procedure_called declared m name = option_and_then (imported_procedure declared) (called_by m name)

abbrev pub procedure_recorded : Signature → MemberRecord → AskName → Option ProcedureShape
procedure_recorded declared kept name = option_and_then (imported_procedure declared) (recorded_ask kept name)

-- a return of a node to an ask: a reply that has a count for each module and an outcome of what the ask called, Stale, or Before
pub data AcceptsAnswer (d : Deployment) (called : Option ProcedureShape) (name : AskName) (server from : ℕ) (message : List ℕ) : Occurrence → Type 0 where
  reply : (clock body : List ℕ) (p : ProcedureShape) (outcome : Outcome)
      → Heads returns message (says.Reply clock) body → length clock ≡ length d.troupes
      → called ≡ Some p → SpellOutcome p (limit_of d.format) body outcome
      → AcceptsAnswer d called name server from message (comes.Replied name from (record { clock = clock; outcome = outcome }))
  stale : (incarnation : ℕ)
      → Heads returns message (says.Stale incarnation) []
      → AcceptsAnswer d called name server from message (comes.IsStale name server from incarnation)
  before : (first : ℕ)
      → Heads returns message (says.Before first) [] → AcceptsAnswer d called name server from message (comes.IsBefore name from)

-- a table to a request: of its troupe, with distinct entries that may belong to that
pub data AcceptsTable (d : Deployment) (request : Request) (message : List ℕ) : Occurrence → Type 0 where
  table : (body : List ℕ) (told : Table)
      → Heads returns message says.Table body → Heads tables body told [] → may_tell d request told ≡ true
      → AcceptsTable d request message (comes.Told request told)

-- a snapshot to a state request: of a state that the module may have
pub data AcceptsState (declared : Signature) (message : List ℕ) : Occurrence → Type 0 where
  state : (values : List ValueTree) (count : ℕ)
      → HandsOver declared.variables declared.limit message values count → AcceptsState declared message (comes.Restored values count)

-- a return of a node to a call that was made for a purpose, by the procedure that each ask called
abbrev pub AcceptsReturn : Deployment → Signature → (AskName → Option ProcedureShape) → ℕ → Purpose → List ℕ → Occurrence → Type 0
AcceptsReturn d declared called from (for.Ask name server) message o = AcceptsAnswer d (called name) name server from message o
AcceptsReturn d declared called from (for.Ring request) message o = AcceptsTable d request message o
AcceptsReturn d declared called from for.Fetch message o = AcceptsState declared message o
