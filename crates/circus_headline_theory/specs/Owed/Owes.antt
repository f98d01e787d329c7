-- What a node made and told is what its member owes and what differed.
use Rattle.std.specs.Prelude.{◌≡◌, ℕ, List, Option, Some, slice_get}
use Rattle.circus_value.specs.ValueTree.{ValueTree}
use Rattle.circus_value.specs.declared.outcome.Outcome.{Outcome}
use Rattle.circus_collate.specs.declared.deployment.Deployment.{Deployment}
use Rattle.circus_collate.specs.declared.deployment.Troupe.{Troupe}
use Rattle.circus_ring.specs.RingTable.{boot_views}
use Rattle.circus_model.specs.NextTurn.{NextTurn}
use Rattle.circus_model.specs.declared.signature.Signature.{Signature}
use Rattle.circus_record.specs.declared.record.MemberRecord.{MemberRecord}
use Rattle.circus_member_rules.specs.declared.occurrence.Difference.{Difference}
use Rattle.circus_member_rules.specs.declared.occurrence.Effect.{Effect}
use Rattle.circus_node.specs.Accepting.{troupe_at}
use Rattle.circus_node.specs.Booting.{beginning_in, home_in}
use Rattle.circus_node.specs.NodeState.{NodeState, member_record}
use Rattle.circus_schedule.specs.declared.line.Line.{Line}
use Rattle.circus_world.specs.WorldState.{WorldState, Standing}
use Rattle.circus_member_theory.specs.Past.{Past}
use Rattle.circus_member_theory.specs.Living.{phase_at_boot}
use Rattle.circus_member_theory.specs.Differences.{differences}
use Rattle.circus_member_theory.specs.Owed.{AreReturned, AreRequested, AreAsked}
use Rattle.circus_world_theory.specs.Happened.{past_of}
use Rattle.circus_world_theory.specs.NodeLives.{Events, past_behind}
use Rattle.circus_headline_theory.specs.Owed.Makes.{made_behind, tells, made_of, tells_along}

-- the member of a troupe that a node hosts, with this first state, made what it owes for a past,
-- and no more: the returns to calls and state requests, the calls that are no asks, and the calls
-- of asks; and it told what differed
pub record MakesWhatIsOwed (d : Deployment) (node number : ℕ) (troupe : Troupe)
    (first : List ValueTree) (kept : MemberRecord) (p : Past) (made : List (ℕ × Effect))
    (told : List (ℕ × Difference)) : Type 0 where
  pub returned : AreReturned number (phase_at_boot (beginning_in troupe node)) first kept p made
  pub requested : AreRequested (home_in d node number troupe).place (boot_views d.troupes)
      (phase_at_boot (beginning_in troupe node)) kept p made
  pub asked : AreAsked (home_in d node number troupe).place (boot_views d.troupes) kept p made
  pub differed : told
      ≡ differences (home_in d node number troupe).place (boot_views d.troupes) kept p

module _ {M : Type 0} (declared : M → Signature)
    (turn : M → List ValueTree → ℕ → List ValueTree → List Outcome → NextTurn)
    (first : M → List ValueTree) where
  -- a node by itself, which hosts this, in the steps in which events come to it
  abbrev pub NodeMakesWhatIsOwed : Deployment → M → ℕ → Events → NodeState M → NodeState M
      → Type 0
  NodeMakesWhatIsOwed d own node events begun last =
      (number : ℕ) (troupe : Troupe) (kept : MemberRecord) → troupe_at d node ≡ Some number
      → slice_get d.troupes number ≡ Some troupe → member_record last.acting ≡ Some kept
      → MakesWhatIsOwed d node number troupe (first own) kept
      (past_behind declared turn events begun)
      (made_behind declared turn first d own node events begun)
      (tells declared turn events begun)

  -- each node of a world that hosts a member, along lines
  abbrev pub NodesMakeWhatIsOwed : Deployment → List (Option M) → List Line → WorldState M
      → WorldState M → Type 0
  NodesMakeWhatIsOwed d hosted lines begun last =
      (node number : ℕ) (troupe : Troupe) (s : Standing M) (own : M) (kept : MemberRecord)
      → slice_get last.nodes node ≡ Some s → slice_get hosted node ≡ Some (Some own)
      → troupe_at d node ≡ Some number → slice_get d.troupes number ≡ Some troupe
      → member_record s.node.acting ≡ Some kept
      → MakesWhatIsOwed d node number troupe (first own) kept
      (past_of declared turn lines begun node)
      (made_of declared turn node first d hosted lines begun)
      (tells_along declared turn node lines begun)
