-- Nothing that a member does comes late or early.
use Rattle.std.specs.Prelude.{◌≡◌, ℕ, List, Option, Some, slice_get}
use Rattle.circus_value.specs.ValueTree.{ValueTree}
use Rattle.circus_value.specs.declared.outcome.Outcome.{Outcome}
use Rattle.circus_collate.specs.declared.deployment.Deployment.{Deployment}
use Rattle.circus_collate.specs.declared.deployment.Troupe.{Troupe}
use Rattle.circus_ring.specs.RingTable.{boot_views}
use Rattle.circus_model.specs.NextTurn.{NextTurn}
use Rattle.circus_model.specs.declared.signature.Signature.{Signature}
use Rattle.circus_record.specs.declared.record.MemberRecord.{MemberRecord}
use Rattle.circus_node.specs.Accepting.{troupe_at}
use Rattle.circus_node.specs.Booting.{beginning_in, home_in}
use Rattle.circus_node.specs.NodeState.{NodeState, member_record}
use Rattle.circus_schedule.specs.declared.line.Line.{Line}
use Rattle.circus_world.specs.WorldState.{WorldState, Standing}
use Rattle.circus_member_theory.specs.Past.{Past}
use Rattle.circus_member_theory.specs.Timely.{IsTimely}
use Rattle.circus_member_theory.specs.Living.{phase_at_boot, runs_at_boot}
use Rattle.circus_world_theory.specs.Happened.{past_of}
use Rattle.circus_world_theory.specs.NodeLives.{Events, past_behind}

module _ {M : Type 0} (declared : M → Signature) (turn : M → List ValueTree → ℕ → List ValueTree → List Outcome → NextTurn) where
  -- the record of the member of a troupe that a node hosts is timely for a past
  abbrev pub IsInTime : Deployment → ℕ → ℕ → Troupe → M → MemberRecord → Past → Type 0
  IsInTime d node number troupe own kept p =
      IsTimely (home_in d node number troupe).place (boot_views d.troupes) (phase_at_boot (beginning_in troupe node)) (declared own).procedures
      (runs_at_boot declared (beginning_in troupe node) own) kept p

  -- so is that of a node by itself, which hosts this
  abbrev pub NodeIsInTime : Deployment → M → ℕ → Events → NodeState M → NodeState M → Type 0
  NodeIsInTime d own node events begun last =
      (number : ℕ) (troupe : Troupe) (kept : MemberRecord) → troupe_at d node ≡ Some number → slice_get d.troupes number ≡ Some troupe
      → member_record last.acting ≡ Some kept → IsInTime d node number troupe own kept (past_behind declared turn events begun)

  -- and that of each node of a world that hosts a member
  abbrev pub RecordsAreTimely : Deployment → List (Option M) → List Line → WorldState M → WorldState M → Type 0
  RecordsAreTimely d hosted lines begun last =
      (node number : ℕ) (troupe : Troupe) (s : Standing M) (own : M) (kept : MemberRecord) → slice_get last.nodes node ≡ Some s → slice_get hosted node ≡ Some (Some own)
      → troupe_at d node ≡ Some number → slice_get d.troupes number ≡ Some troupe → member_record s.node.acting ≡ Some kept
      → IsInTime d node number troupe own kept (past_of declared turn lines begun node)
