-- When a datagram is justified that a member sends: by what happened at its pairs, by what happened to it, and by its record.
use Rattle.std.specs.Prelude.{◌≡◌, ℕ, Bool, false, List, Some}
use Rattle.std.proofs.Common.{inl, inr}
use Rattle.circus_value.specs.Among.{is_among}
use Rattle.circus_value.specs.ValueTree.{ValueTree}
use Rattle.circus_value.specs.declared.caller.Caller.{Caller}
use Rattle.circus_segment.specs.Segment.{Piece}
use Rattle.circus_collate.specs.declared.view.View.{View}
use Rattle.circus_transfer.specs.declared.joiner.Joiner.{Joiner}
use Rattle.circus_record.specs.declared.record.MemberRecord.{MemberRecord}
use Rattle.circus_wire.specs.Wire.{Beginning}
use Rattle.circus_wire.specs.WireActs.{WireActs, acts_at, purpose_of}
use Rattle.circus_wire.specs.WireStanding.{pair_of}
use Rattle.circus_member_rules.specs.declared.place.Place.{Place}
use Rattle.circus_member_rules.specs.declared.occurrence.Purpose.{Purpose}
use Rattle.circus_node.specs.declared.event.Give.{Give}
use Rattle.circus_member_theory.specs.Past.{Past, nodes_declared_down}
use Rattle.circus_headline_theory.specs.Datagrams.Sendings.{IsSaidFor, IsSentFor}
use Rattle.circus_headline_theory.specs.Datagrams.Due.{WasSo, CallIsDue, ReturnIsDue}

-- of a member that stands here, with these views, in this phase and with this state at boot, at the end of a step: its record, what
-- happened to it, and what happened at its pairs; the step is a tick, or another one
module _ (place : Place) (boot : List View) (begins : Joiner) (first : List ValueTree) (kept : MemberRecord) (p : Past) (b : Beginning) (acts : WireActs Purpose) (ticks : Bool) where
  -- a call was made for a purpose, and had its cause at the end of the step in which it was made
  pub record CallWasDue (to number : ℕ) (message : List ℕ) : Type 0 where
    pub purpose : Purpose
    pub is_for : purpose_of (pair_of b) to acts number ≡ Some purpose
    pub made_at : Past
    pub was_so : WasSo p made_at
    pub due : CallIsDue place boot begins first kept made_at to message purpose

  -- a return had its cause likewise
  pub record ReturnWasDue (caller : Caller) (message : List ℕ) : Type 0 where
    pub made_at : Past
    pub was_so : WasSo p made_at
    pub due : ReturnIsDue place boot begins first kept p made_at caller message

  -- the node wasn't declared down by the end of the step
  abbrev pub IsUp : ℕ → Type 0
  IsUp node = is_among (nodes_declared_down p) node ≡ false

  -- the message of which a segment is a piece had its cause; an acknowledgement and a probe have theirs at the pair. All but returns
  -- go to nodes that aren't down
  abbrev pub HasCause : (to : ℕ) (s : Piece) → IsSaidFor b.first b.format ticks (acts_at (pair_of b) to acts) s → Type 0
  HasCause to s (inl call) = CallWasDue to s.call call.message × IsUp to
  HasCause to s (inr (inl return_)) = ReturnWasDue (record { node = to; number = s.call }) return_.message
  HasCause to s (inr (inr other)) = IsUp to

  -- a datagram to a node is a segment of the format: a piece of a call or of a return, an acknowledgement, or a probe
  pub record IsJustified (give : Give) : Type 0 where
    pub sent : IsSentFor b.first b.format ticks (acts_at (pair_of b) give.to acts) give.bytes
    pub cause : HasCause give.to sent.segment sent.cause
