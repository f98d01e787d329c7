-- What it means that the copies of a program agree: their records stand in its history, and their messages are true of it.
use Rattle.std.specs.Prelude.{◌≡◌, ℕ, ◌+◌, true, ◌⊎◌, List, [], ◌++◌, None, Some, Ok, slice_get}
use Rattle.circus_value.specs.ValueTree.{ValueTree}
use Rattle.circus_value.specs.declared.outcome.Outcome.{Outcome}
use Rattle.circus_header.specs.Field.{bytes_of}
use Rattle.circus_header.specs.ReturnFields.{return_fields}
use Rattle.circus_header.specs.Reading.{IsOne, calls, returns}
use Rattle.circus_header.specs.declared.call.Call.TheVariants.{Ask as AskOf}
use Rattle.circus_header.specs.declared.call.CallHeader.{CallHeader}
use Rattle.circus_header.specs.declared.answer.Reply.{Reply}
use Rattle.circus_header.specs.declared.answer.ReturnHeader.TheVariants as says
use Rattle.circus_collate.specs.declared.deployment.Deployment.{Deployment}
use Rattle.circus_transfer.specs.Snapshot.{snapshot_bytes}
use Rattle.circus_model.specs.NextTurn.{NextTurn}
use Rattle.circus_model.specs.declared.history.Run.{Run}
use Rattle.circus_model.specs.declared.signature.Signature.{Signature}
use Rattle.circus_model.specs.Behaviour.{Behaviour}
use Rattle.circus_model.specs.Agree.{IsAt}
use Rattle.circus_model.specs.Execution.{history_of}
use Rattle.circus_record.specs.declared.record.MemberRecord.{MemberRecord}
use Rattle.circus_performing.specs.Performing.{is_active}
use Rattle.circus_pair.specs.Handed.{call_at, return_at}
use Rattle.circus_wire.specs.WireActs.{WireActs, acts_at, purpose_of}
use Rattle.circus_wire.specs.WireStanding.{pair_of}
use Rattle.circus_member_rules.specs.declared.occurrence.AskName.{AskName}
use Rattle.circus_member_rules.specs.declared.occurrence.Purpose.{Purpose}
use Rattle.circus_member_rules.specs.declared.occurrence.Purpose.TheVariants as for
use Rattle.circus_member_rules.specs.Messages.{ask_message, reply_message, stale_message, before_message}
use Rattle.circus_node.specs.Accepting.{troupe_at}
use Rattle.circus_node.specs.NodeState.{member_record}
use Rattle.circus_node.specs.Step as node_step
use Rattle.circus_node.specs.declared.event.Event.{Event}
use Rattle.circus_node.specs.declared.event.Outputs.{Outputs}
use Rattle.circus_node.specs.NodeState.{NodeState}
use Rattle.circus_schedule.specs.declared.line.Line.{Line}
use Rattle.circus_world.specs.WorldState.{WorldState, Standing}
use Rattle.circus_world_theory.specs.Histories.{beginning_of, comes_by}
use Rattle.circus_member_theory.specs.Stands.{Stands}
use Rattle.circus_member_theory.specs.Messages.{IsTrueCall, IsTrueReply, IsTrueState}

-- ---- records

-- the record of each member that is active stands in the history of the program
abbrev pub RecordsStand : {M : Type 0} → List Behaviour → Deployment → WorldState M → Type 0
RecordsStand {M} program d w =
    (node troupe : ℕ) (s : Standing M) (kept : MemberRecord) (b : Behaviour) → slice_get w.nodes node ≡ Some s → member_record s.node.acting ≡ Some kept
    → troupe_at d node ≡ Some troupe → IsAt program troupe b → is_active kept.phase ≡ true → Stands (history_of program) troupe b.first kept

-- ---- messages

-- a message is a call for an ask of a troupe, and true
pub record IsTrueAsk (history : List (List Run)) (troupe : ℕ) (message : List ℕ) : Type 0 where
  pub header : CallHeader
  pub body : List ℕ
  pub message_is : message ≡ ask_message header body
  pub header_is : IsOne calls (AskOf header)
  pub client : header.client ≡ troupe
  pub is : IsTrueCall history header body

-- a message is the reply to a call for an ask of a troupe, and true
pub record IsTrueReplyTo (history : List (List Run)) (troupe : ℕ) (call message : List ℕ) : Type 0 where
  pub header : CallHeader
  pub body : List ℕ
  pub call_is : call ≡ ask_message header body
  pub server : header.server ≡ troupe
  pub true_call : IsTrueCall history header body
  pub reply : Reply
  pub reply_is : IsOne returns (says.Reply reply.clock)
  pub message_is : message ≡ reply_message reply
  pub is : IsTrueReply history header reply

-- a message is a snapshot of a troupe, and true
pub record IsTrueSnapshot (history : List (List Run)) (troupe : ℕ) (first : List ValueTree) (message : List ℕ) : Type 0 where
  pub count : ℕ
  pub state : List ValueTree
  pub message_is : message ≡ snapshot_bytes count state
  pub is : IsTrueState history troupe first count state

-- a message cites nothing of the history: it names a required incarnation or a first index, or is a table
abbrev pub CitesNothing : List ℕ → Type 0
CitesNothing message =
    ((incarnation : ℕ) × (message ≡ stale_message incarnation))
    ⊎ (((index : ℕ) × (message ≡ before_message index))
    ⊎ ((rest : List ℕ) × (message ≡ bytes_of (return_fields says.Table) ++ rest)))

-- a node has made a call of a number to another one
abbrev pub HasCalled : Deployment → (ℕ → WireActs Purpose) → ℕ → ℕ → ℕ → List ℕ → Type 0
HasCalled d acts node other number message = call_at 0 (acts_at (pair_of (beginning_of d node)) other (acts node)) number ≡ Some message

-- for a purpose
abbrev pub HasCalledFor : Deployment → (ℕ → WireActs Purpose) → ℕ → ℕ → ℕ → Purpose → Type 0
HasCalledFor d acts node other number purpose = purpose_of (pair_of (beginning_of d node)) other (acts node) number ≡ Some purpose

-- a node has returned a call of another one
abbrev pub HasReturned : Deployment → (ℕ → WireActs Purpose) → ℕ → ℕ → ℕ → List ℕ → Type 0
HasReturned d acts node other number message = return_at (acts_at (pair_of (beginning_of d node)) other (acts node)) number ≡ Some message

-- each call that was handed over for an ask is true
abbrev pub AsksAreTrue : List Behaviour → Deployment → (ℕ → WireActs Purpose) → Type 0
AsksAreTrue program d acts =
    (node other number troupe : ℕ) (message : List ℕ) (name : AskName) (server : ℕ) → troupe_at d node ≡ Some troupe
    → HasCalled d acts node other number message → HasCalledFor d acts node other number (for.Ask name server) → IsTrueAsk (history_of program) troupe message

-- each return that was handed over by a member is a true reply to the call that it returns, or a true snapshot, or cites nothing
abbrev pub ReturnsAreTrue : List Behaviour → Deployment → (ℕ → WireActs Purpose) → Type 0
ReturnsAreTrue program d acts =
    (node other number troupe : ℕ) (message : List ℕ) (b : Behaviour) → troupe_at d node ≡ Some troupe → IsAt program troupe b → HasReturned d acts node other number message
    → ((call : List ℕ) × HasCalled d acts other node number call × IsTrueReplyTo (history_of program) troupe call message)
    ⊎ (IsTrueSnapshot (history_of program) troupe b.first message ⊎ CitesNothing message)

-- each return that was handed over by the Ringmaster cites nothing
abbrev pub OthersCiteNothing : Deployment → (ℕ → WireActs Purpose) → Type 0
OthersCiteNothing d acts = (node other number : ℕ) (message : List ℕ) → troupe_at d node ≡ None → HasReturned d acts node other number message → CitesNothing message

-- ---- replies

-- no replies differ in a step by which something comes to a node
abbrev pub NoneDiffer : {M : Type 0} → (M → Signature) → (M → List ValueTree → ℕ → List ValueTree → List Outcome → NextTurn) → WorldState M → Type 0
NoneDiffer {M} declared turn w =
    (line : Line) (node : ℕ) (event : Event) (s : Standing M) (ended : NodeState M × Outputs) → comes_by line w ≡ Some (node, event) → slice_get w.nodes node ≡ Some s
    → node_step.step_node declared turn (w.steps + 1) event s.node ≡ Ok ended → ended.1.differences ≡ []
