-- What holds of a member's parts.
use Rattle.std.specs.Prelude.{◌≡◌, ℕ, true, List, All, length, None, IfSome}
use Rattle.std.specs.List.{IsDistinct}
use Rattle.std.specs.Map.{keys_of}
use Rattle.circus_header.specs.declared.answer.Reply.{Reply}
use Rattle.circus_collate.specs.declared.giving.Said.{Said}
use Rattle.circus_record.specs.declared.record.AskRecord.{AskRecord}
use Rattle.circus_record.specs.declared.record.RunRecord.{RunRecord}
use Rattle.circus_record.specs.declared.record.MemberRecord.{MemberRecord}
use Rattle.circus_model.specs.declared.signature.Signature.{Signature}
use Rattle.circus_model.specs.Behaviour.{Behaviour}
use Rattle.circus_gather.specs.Gathering.{Gathered, index_of, reply_of}
use Rattle.circus_gather.specs.declared.held.HeldCall.{HeldCall}
use Rattle.circus_fanout.specs.Asking.{Asking}
use Rattle.circus_performing.specs.Performing.{clock_after, last_of, open_ask}
use Rattle.circus_performing.specs.declared.start.RunStart.{RunStart}
use Rattle.circus_performing.specs.Acts.{CanEnter}
use Rattle.circus_performing.specs.Record.{IsRecord}
use Rattle.circus_member_rules.specs.declared.occurrence.AskName.{AskName}
use Rattle.circus_member_rules.specs.OpenAsks.{is_name, asking_of}
use Rattle.circus_member_rules.specs.MemberState.{MemberState}
use Rattle.circus_member_rules.specs.Rules.{index_of_last, stays_open}
use Rattle.circus_member_rules.specs.Step.{name_of_last, waits}
use Rattle.circus_member_rules.specs.Callable.{IsAsked, AreReplies}
use Rattle.circus_member_rules.specs.Happening.{IsHome, IsThread, IsCallTo, IsReplyTo}

-- ---- calls in

-- a held call may be performed, and its index was not
pub record IsHeld (declared : Signature) (troupe modules : ℕ) (g : Gathered) (call : HeldCall) : Type 0 where
  pub may_run : IsCallTo declared troupe modules call.header call.body
  pub fresh : reply_of g (index_of g.module call.header) ≡ None

abbrev pub AreHeld : Signature → ℕ → ℕ → Gathered → Type 0
AreHeld declared troupe modules g = All (IsHeld declared troupe modules g) g.held

-- ---- calls out

-- an open ask may be sent, by the own troupe, and what was said are replies to it
pub record IsOpenAsk (declared : Signature) (troupe modules : ℕ) (a : Asking) : Type 0 where
  pub asked : IsAsked a.header
  pub client : a.header.client ≡ troupe
  pub said : All (λ (s : Said Reply). IsReplyTo declared modules s.value a) a.said

abbrev pub AreOpen : Signature → ℕ → ℕ → List (AskName × Asking) → Type 0
AreOpen declared troupe modules asks = All (λ (e : AskName × Asking). IsOpenAsk declared troupe modules e.1) asks

-- no two have the same name
abbrev pub AreNamed : List (AskName × Asking) → Type 0
AreNamed asks = IsDistinct is_name (keys_of asks)

-- ---- runs

-- the last run's thread has its ranges, now too
pub record IsRunOf (troupe modules : ℕ) (run : RunRecord) : Type 0 where
  pub thread : IsThread modules run.root run.path run.entry troupe
  pub now : length (clock_after run.entry run.asks) ≡ modules

-- what an ask of a name asks for is what the record says
pub record IsSameAsk (ask : AskRecord) (a : Asking) : Type 0 where
  pub server : a.header.server ≡ ask.callee
  pub procedure : a.header.procedure ≡ ask.procedure

-- while a run is open its index has no reply, and its open ask is that of the record
pub record IsRunning (g : Gathered) (asks : List (AskName × Asking)) (kept : MemberRecord) (ask : AskRecord) : Type 0 where
  pub fresh : reply_of g (index_of_last kept) ≡ None
  pub same : IfSome (asking_of asks (name_of_last kept)) (IsSameAsk ask)

-- ---- the member

-- one whose module behaves so
pub record IsSound {M : Type 0} (b : Behaviour) (m : MemberState M) : Type 0 where
  pub home : IsHome b.declared m.place m.known.views
  pub own : m.gathered.module ≡ m.place.troupe
  pub held : AreHeld b.declared m.place.troupe (length m.known.views) m.gathered
  pub replies : AreReplies m.gathered.replies
  pub asks : AreOpen b.declared m.place.troupe (length m.known.views) m.asks
  pub names : AreNamed m.asks
  pub run : IfSome (last_of m.performing.kept.runs) (IsRunOf m.place.troupe (length m.known.views))
  pub running : IfSome (open_ask m.performing.kept) (IsRunning m.gathered m.asks m.performing.kept)
  pub kept : IsRecord b m.performing.began m.performing.kept

-- one behind turns of its last run, which asks now or has ended: its index has no reply
pub record HasTurned {M : Type 0} (b : Behaviour) (m : MemberState M) : Type 0 where
  pub home : IsHome b.declared m.place m.known.views
  pub run : IfSome (last_of m.performing.kept.runs) (IsRunOf m.place.troupe (length m.known.views))
  pub fresh : reply_of m.gathered (index_of_last m.performing.kept) ≡ None

-- a run may be entered so: the member may perform it, its thread has its ranges, and its index has no reply
pub record MayStart {M : Type 0} (declared : Signature) (m : MemberState M) (start : RunStart) : Type 0 where
  pub can : CanEnter declared start m.performing.kept
  pub thread : IsThread (length m.known.views) start.root start.path start.clock m.place.troupe
  pub fresh : reply_of m.gathered m.performing.kept.count ≡ None

-- after a step no ask is left that is to be closed
pub record IsRested {M : Type 0} (b : Behaviour) (m : MemberState M) : Type 0 where
  pub sound : IsSound b m
  pub closed : All (λ (e : AskName × Asking). stays_open m.known (waits m.performing.kept) e ≡ true) m.asks
