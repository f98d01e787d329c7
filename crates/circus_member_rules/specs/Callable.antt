-- Which asks may be sent, and which outcomes written.
use Rattle.std.specs.Prelude.{◌≡◌, ℕ, ◌≤◌, true, List, All, length, Some, slice_get, IfSome}
use Rattle.circus_value.specs.ShapeTree.{FieldTrees}
use Rattle.circus_value.specs.declared.outcome.Outcome.{Outcome}
use Rattle.circus_external.specs.Spelling.{fields_admit}
use Rattle.circus_header.specs.CallFields.{IsAsk, IsRequest, IsIncarnation}
use Rattle.circus_header.specs.ReturnFields.{IsReturn}
use Rattle.circus_header.specs.declared.answer.Reply.{Reply}
use Rattle.circus_header.specs.declared.answer.ReturnHeader.TheVariants as header
use Rattle.circus_header.specs.declared.call.Request.TheVariants.{Gone}
use Rattle.circus_gather.specs.declared.added.Added.{Added}
use Rattle.circus_gather.specs.declared.added.Added.TheVariants as added
use Rattle.circus_member_rules.specs.declared.place.Place.{Place}
use Rattle.circus_header.specs.declared.call.CallHeader.{CallHeader}
use Rattle.circus_model.specs.Lawful.{values_of}
use Rattle.circus_limits.specs.Limits.{most_asks}
use Rattle.circus_record.specs.declared.record.RunRecord.{RunRecord}
use Rattle.circus_record.specs.declared.record.MemberRecord.{MemberRecord}
use Rattle.circus_performing.specs.Performing.{last_of}
use Rattle.circus_collate.specs.declared.view.View.{View}
use Rattle.circus_fanout.specs.Knowing.{Knowing}
use Rattle.circus_fanout.specs.Asking.{Asking}
use Rattle.circus_fanout.specs.declared.send.Next.{Next}
use Rattle.circus_fanout.specs.declared.send.Next.TheVariants as next
use Rattle.circus_member_rules.specs.declared.occurrence.AskName.{AskName}
use Rattle.circus_member_rules.specs.Rules.{incarnation_of}

-- an outcome whose values fit some fields
abbrev pub IsWritable : Outcome → Type 0
IsWritable outcome = (fields : FieldTrees) × (fields_admit fields (values_of outcome) ≡ true)

-- the known views have incarnations
abbrev pub AreViews : Knowing → Type 0
AreViews k = (troupe : ℕ) (view : View) → slice_get k.views troupe ≡ Some view → IsIncarnation view.incarnation

-- the header of an ask, whichever views it names
pub record IsAsked (h : CallHeader) : Type 0 where
  pub asks : IsAsk (record h { client_incarnation = 1; server_incarnation = 1 })

-- a call of an ask may be made: its header is one, and the own troupe's view is known
pub record MayCall (k : Knowing) (a : Asking) : Type 0 where
  pub asked : IsAsked a.header
  pub client : IsIncarnation (incarnation_of k a.header.client)

-- where a call follows a Stale, its view has an incarnation
abbrev pub CallsAView : Next → Type 0
CallsAView (next.Send send) = IsIncarnation send.incarnation
CallsAView (next.Lookup incarnation) = Unit {0}
CallsAView next.Leave = Unit {0}

-- so may a call of each of these
abbrev pub AllMayCall : Knowing → List (AskName × Asking) → Type 0
AllMayCall k asks = All (λ (e : AskName × Asking). MayCall k e.1) asks

-- a reply that may be sent
pub record IsReply (reply : Reply) : Type 0 where
  pub clock : IsReturn (header.Reply reply.clock)
  pub outcome : IsWritable reply.outcome

abbrev pub AreReplies : List (ℕ × Reply) → Type 0
AreReplies replies = All (λ (kept : ℕ × Reply). IsReply kept.1) replies

-- what a call gets at once may be sent
abbrev pub MayAnswer : Added → Type 0
MayAnswer (added.Reply reply) = IsReply reply
MayAnswer (added.Stale required) = IsIncarnation required
MayAnswer (added.Before first) = Unit {0}
MayAnswer added.Held = Unit {0}

-- the nodes that host members, and their troupes
abbrev pub AreHosts : Place → Type 0
AreHosts place = (node troupe : ℕ) → slice_get place.troupes node ≡ Some (Some troupe) → IsRequest (Gone troupe node)

-- the last run has made no more asks than an execution may
abbrev pub HasFewAsks : MemberRecord → Type 0
HasFewAsks kept = IfSome (last_of kept.runs) (λ (run : RunRecord). length run.asks ≤ most_asks)
