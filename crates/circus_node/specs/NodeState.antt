-- A node, as a state.
use Rattle.std.specs.Prelude.{ℕ, List, Option, None, Some}
use Rattle.circus_value.specs.ValueTree.{ValueTree}
use Rattle.circus_collate.specs.declared.deployment.Deployment.{Deployment}
use Rattle.circus_collate.specs.declared.view.View.{View}
use Rattle.circus_record.specs.declared.record.MemberRecord.{MemberRecord}
use Rattle.circus_ring.specs.RingTable.{Kept}
use Rattle.circus_wire.specs.Wire.{WireState}
use Rattle.circus_member_rules.specs.declared.occurrence.Purpose.{Purpose}
use Rattle.circus_member_rules.specs.MemberState.{MemberState}

-- what a node does: it hosts a member, or it is the Ringmaster's
pub data Acting (M : Type 0) : Type 0 where
  member : MemberState M → Acting M
  ringmaster : Kept → Acting M

pub record NodeState (M : Type 0) : Type 0 where
  -- the troupes and nodes of the program
  pub deployment : Deployment
  -- the pairs with the other nodes, and what each call was made for
  pub wire : WireState Purpose
  pub acting : Acting M
  -- how many datagrams counted for nothing, and how many messages that arrived were not accepted
  pub dropped : ℕ

module _ {M : Type 0} where
  -- what a member did
  abbrev pub member_record : Acting M → Option MemberRecord
  member_record (member m) = Some m.performing.kept
  member_record (ringmaster kept) = None

  -- the state with which the member became active; before that, the first one of its module
  abbrev pub state_at_activation : Acting M → Option (List ValueTree)
  state_at_activation (member m) = Some m.performing.began
  state_at_activation (ringmaster kept) = None

  -- the views that the Ringmaster keeps
  abbrev pub ring_views : Acting M → Option (List View)
  ring_views (member m) = None
  ring_views (ringmaster kept) = Some kept.views
