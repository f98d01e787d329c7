-- What is true of a member over the history of the program, of what happens to it, and of the messages that it makes.
use Rattle.std.specs.Prelude.{ℕ, ◌≡◌, ◌<◌, ◌^◌, ◌⊎◌, true, List, ◌++◌, All, IfSome, IsSomeAnd}
use Rattle.circus_value.specs.ValueTree.{ValueTree}
use Rattle.circus_value.specs.declared.caller.Caller.{Caller}
use Rattle.circus_header.specs.Field.{bytes_of}
use Rattle.circus_header.specs.ReturnFields.{return_fields}
use Rattle.circus_header.specs.Reading.{IsOne, calls, returns}
use Rattle.circus_header.specs.declared.call.Call.TheVariants.{Ask as AskOf, Ring}
use Rattle.circus_header.specs.declared.call.CallHeader.{CallHeader}
use Rattle.circus_header.specs.declared.answer.Reply.{Reply}
use Rattle.circus_header.specs.declared.answer.ReturnHeader.TheVariants as says
use Rattle.circus_collate.specs.declared.giving.Said.{Said}
use Rattle.circus_collate.specs.declared.view.View.{View}
use Rattle.circus_transfer.specs.Snapshot.{snapshot_bytes}
use Rattle.circus_model.specs.declared.history.Ask.{Ask}
use Rattle.circus_model.specs.declared.history.Run.{Run}
use Rattle.circus_model.specs.History.{run_at, state_after}
use Rattle.circus_performing.specs.Performing.{is_active}
use Rattle.circus_gather.specs.declared.held.HeldCall.{HeldCall}
use Rattle.circus_fanout.specs.Asking.{Asking}
use Rattle.circus_member_rules.specs.declared.occurrence.AskName.{AskName}
use Rattle.circus_member_rules.specs.declared.occurrence.Purpose.{Purpose}
use Rattle.circus_member_rules.specs.declared.occurrence.Purpose.TheVariants as for
use Rattle.circus_member_rules.specs.declared.occurrence.Effect.{Effect}
use Rattle.circus_member_rules.specs.declared.occurrence.Effect.TheVariants as made
use Rattle.circus_member_rules.specs.declared.occurrence.Occurrence.{Occurrence}
use Rattle.circus_member_rules.specs.declared.occurrence.Occurrence.TheVariants as comes
use Rattle.circus_member_rules.specs.OpenAsks.{asking_of}
use Rattle.circus_member_rules.specs.Messages.{ask_message, request_message, fetch_message, reply_message, stale_message, before_message}
use Rattle.circus_member_rules.specs.MemberState.{MemberState}
use Rattle.circus_member_theory.specs.Stands.{Stands}
use Rattle.circus_member_theory.specs.Messages.{IsAskAt, AsksSo, IsTrueCall, IsReplyOf, IsTrueReply, IsTrueState}

-- the reply that an ask has in the history
abbrev pub reply_to : Ask → Reply
reply_to ask = record { clock = ask.after; outcome = ask.reply }

-- a number of four bytes
abbrev pub IsLong : ℕ → Type 0
IsLong n = n < 2 ^ 32

-- of a member of this troupe, whose module's state is `first` before any run; a caller's call was this message
module _ (history : List (List Run)) (troupe : ℕ) (first : List ValueTree) (Called : Caller → List ℕ → Type 0) where
  -- ---- calls out

  -- an ask of this name of the troupe, with its header and body
  pub record IsNamed (name : AskName) (header : CallHeader) (body : List ℕ) : Type 0 where
    pub run : Run
    pub ask : Ask
    pub there : IsAskAt history troupe name.run name.ask run ask
    pub so : AsksSo name.ask run ask header body
    pub client : header.client ≡ troupe
    pub client_index : header.client_index ≡ name.run

  -- a reply is that of the ask of this name
  pub record Answers (name : AskName) (reply : Reply) : Type 0 where
    pub run : Run
    pub ask : Ask
    pub there : IsAskAt history troupe name.run name.ask run ask
    pub is : reply ≡ reply_to ask

  -- an open ask, to which true replies were said
  pub record IsTrueAsking (name : AskName) (a : Asking) : Type 0 where
    pub named : IsNamed name a.header a.body
    pub said : All (λ (s : Said Reply). Answers name s.value) a.said

  -- ---- calls in

  -- the call of a caller is this ask, which is true and of this troupe
  pub record IsCalled (sender : Caller) (header : CallHeader) (body : List ℕ) : Type 0 where
    pub true_call : IsTrueCall history header body
    pub header_is : IsOne calls (AskOf header)
    pub server : header.server ≡ troupe
    pub called : Called sender (ask_message header body)

  -- the reply of a run of the troupe is kept
  abbrev pub IsTrueKept : ℕ × Reply → Type 0
  IsTrueKept kept = IsSomeAnd (run_at history troupe kept.0) (λ run. IsReplyOf run kept.1)

  -- the call of a caller is a request for the state of the troupe
  abbrev pub IsFetch : Caller → Type 0
  IsFetch sender = (incarnation : ℕ) × Called sender (fetch_message troupe incarnation)

  -- ---- the member

  pub record IsTrueMember {M : Type 0} (m : MemberState M) : Type 0 where
    pub own : m.place.troupe ≡ troupe
    pub stands : is_active m.performing.kept.phase ≡ true → Stands history troupe first m.performing.kept
    pub began : is_active m.performing.kept.phase ≡ true → m.performing.began ≡ state_after history troupe first m.performing.kept.from
    pub asks : All (λ (e : AskName × Asking). IsTrueAsking e.0 e.1) m.asks
    pub held : All (λ (c : HeldCall). IsCalled c.sender c.header c.body) m.gathered.held
    pub replies : All IsTrueKept m.gathered.replies
    pub requests : All IsFetch m.requests
    pub views : All (λ (v : View). IsLong v.incarnation) m.known.views

  -- ---- what happens to it

  abbrev pub IsTrueOccurrence : {M : Type 0} → MemberState M → Occurrence → Type 0
  IsTrueOccurrence m (comes.Asked header body sender) = IsCalled sender header body
  IsTrueOccurrence m (comes.Fetched incarnation sender) = IsFetch sender
  IsTrueOccurrence m (comes.Replied name from reply) = IfSome (asking_of m.asks name) (λ a. Answers name reply)
  IsTrueOccurrence m (comes.IsStale name server from incarnation) = Unit {0}
  IsTrueOccurrence m (comes.IsBefore name from) = Unit {0}
  IsTrueOccurrence m (comes.Told request table) = IsLong table.view.incarnation
  IsTrueOccurrence m (comes.Restored state count) = IsTrueState history troupe first count state
  IsTrueOccurrence m (comes.Declared node) = Unit {0}
  IsTrueOccurrence m comes.Joins = Unit {0}

  -- ---- what it makes

  -- a call for an ask of the troupe
  pub record IsAskMessage (name : AskName) (server : ℕ) (message : List ℕ) : Type 0 where
    pub header : CallHeader
    pub body : List ℕ
    pub message_is : message ≡ ask_message header body
    pub header_is : IsOne calls (AskOf header)
    pub named : IsNamed name header body
    pub server_is : server ≡ header.server

  abbrev pub IsTrueCallFor : Purpose → List ℕ → Type 0
  IsTrueCallFor (for.Ask name server) message = IsAskMessage name server message
  IsTrueCallFor (for.Ring request) message = message ≡ request_message request
  IsTrueCallFor for.Fetch message = (incarnation : ℕ) × (message ≡ fetch_message troupe incarnation)

  -- a return with the reply to the ask that its call is
  pub record IsReplyMessage (caller : Caller) (message : List ℕ) : Type 0 where
    pub header : CallHeader
    pub body : List ℕ
    pub called : IsCalled caller header body
    pub reply : Reply
    pub true_reply : IsTrueReply history header reply
    pub header_is : IsOne returns (says.Reply reply.clock)
    pub message_is : message ≡ reply_message reply

  -- a return with the state that its call asks for
  pub record IsStateMessage (caller : Caller) (message : List ℕ) : Type 0 where
    pub asked : IsFetch caller
    pub count : ℕ
    pub state : List ValueTree
    pub true_state : IsTrueState history troupe first count state
    pub message_is : message ≡ snapshot_bytes count state

  -- a return that cites nothing: of a required or a first index, or the Ringmaster's
  abbrev pub IsOtherReturn : List ℕ → Type 0
  IsOtherReturn message =
      ((incarnation : ℕ) × (message ≡ stale_message incarnation))
      ⊎ (((index : ℕ) × (message ≡ before_message index))
      ⊎ ((rest : List ℕ) × (message ≡ bytes_of (return_fields says.Table) ++ rest)))

  abbrev pub IsTrueReturn : Caller → List ℕ → Type 0
  IsTrueReturn caller message = IsReplyMessage caller message ⊎ (IsStateMessage caller message ⊎ IsOtherReturn message)

  abbrev pub IsTrueEffect : Effect → Type 0
  IsTrueEffect (made.Call to message purpose) = IsTrueCallFor purpose message
  IsTrueEffect (made.Answer caller message) = IsTrueReturn caller message
