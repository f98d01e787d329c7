-- Members that stay as they booted: only calls and replies come to them.
use Rattle.std.specs.Prelude.{◌≡◌, ℕ, List, [], Some, slice_get, option_and_then}
use Rattle.std.specs.Option.{option_map_or}
use Rattle.circus_collate.specs.declared.deployment.Deployment.{Deployment}
use Rattle.circus_collate.specs.declared.deployment.Troupe.{Troupe}
use Rattle.circus_model.specs.Behaviour.{Behaviour}
use Rattle.circus_model.specs.Execution.{history_of}
use Rattle.circus_member_rules.specs.declared.occurrence.AskName.{AskName}
use Rattle.circus_member_rules.specs.declared.occurrence.Purpose.{Purpose}
use Rattle.circus_member_rules.specs.declared.occurrence.Purpose.TheVariants as for
use Rattle.circus_member_rules.specs.declared.place.Beginning.{Beginning}
use Rattle.circus_member_rules.specs.declared.place.Beginning.TheVariants.{Founder, Spare}
use Rattle.circus_member_rules.specs.MemberState.{MemberState}
use Rattle.circus_node.specs.Booting.{beginning_in}
use Rattle.circus_node.specs.NodeState.{member}
use Rattle.circus_node.specs.Accepting.{troupe_at}
use Rattle.circus_ring.specs.RingTable.{boot_views}
use Rattle.circus_transfer.specs.declared.joiner.Joiner.{Joiner}
use Rattle.circus_transfer.specs.declared.joiner.Joiner.TheVariants.{Outside, Active}
use Rattle.circus_wire.specs.WireActs.{WireActs}
use Rattle.circus_world.specs.WorldState.{WorldState, Standing}
use Rattle.circus_world_theory.specs.Agreeing.{HasCalled, HasCalledFor, HasReturned, IsTrueReplyTo}

-- a founder is active from its first call on, a spare is outside
abbrev pub phase_of : Beginning → Joiner
phase_of Founder = Active 0
phase_of Spare = Outside

abbrev pub phase_at : Deployment → ℕ → Joiner
phase_at d node =
    option_map_or (λ (t : Troupe). phase_of (beginning_in t node))
    (option_and_then (slice_get d.troupes) (troupe_at d node)) Outside

-- a member is in the phase and has the views that it booted with, no node is down to it, it
-- requires no incarnation of its callers, and no one is to have its state
pub record IsStill {M : Type 0} (d : Deployment) (node : ℕ) (m : MemberState M) : Type 0 where
  pub phase : m.performing.kept.phase ≡ phase_at d node
  pub views : m.known.views ≡ boot_views d.troupes
  pub down : m.known.down ≡ []
  pub required : m.gathered.required ≡ 0
  pub requests : m.requests ≡ []

-- each member of a world is
abbrev pub AllStill : {M : Type 0} → Deployment → WorldState M → Type 0
AllStill {M} d w =
    (node : ℕ) (s : Standing M) (m : MemberState M)
    → slice_get w.nodes node ≡ Some s → s.node.acting ≡ member m → IsStill d node m

-- each call that a node has made is for an ask
abbrev pub CallsAreAsks : Deployment → (ℕ → WireActs Purpose) → Type 0
CallsAreAsks d acts =
    (node other number : ℕ) (purpose : Purpose) → HasCalledFor d acts node other number purpose
    → (name : AskName) × (server : ℕ) × (purpose ≡ for.Ask name server)

-- each return is the reply to one, by a node of a troupe
abbrev pub ReturnsAreReplies : List Behaviour → Deployment → (ℕ → WireActs Purpose) → Type 0
ReturnsAreReplies program d acts =
    (node other number : ℕ) (message : List ℕ) → HasReturned d acts node other number message
    → (troupe : ℕ) × (troupe_at d node ≡ Some troupe) × (call : List ℕ)
    × HasCalled d acts other node number call
    × IsTrueReplyTo (history_of program) troupe call message
