-- Roots that have ended, and collators that ask for no more than there is.
use Rattle.std.specs.Prelude.{◌≡◌, ℕ, ◌≤◌, true, List, [], ◌∷◌, length, map, Option, Some, IsSome, slice_get}
use Rattle.circus_value.specs.Among.{is_among}
use Rattle.circus_value.specs.ValueTree.{ValueTree}
use Rattle.circus_value.specs.declared.outcome.Outcome.{Outcome}
use Rattle.circus_collate.specs.declared.deployment.Deployment.{Deployment}
use Rattle.circus_collate.specs.declared.deployment.Troupe.{Troupe}
use Rattle.circus_collate.specs.declared.kind.Kind.{Kind}
use Rattle.circus_collate.specs.declared.kind.Kind.TheVariants.{First, Majority, Unanimous, AtLeast, Watchdog}
use Rattle.circus_model.specs.Lawful.{import_of}
use Rattle.circus_model.specs.NextTurn.{NextTurn}
use Rattle.circus_model.specs.declared.signature.Import.{Import}
use Rattle.circus_model.specs.declared.signature.Signature.{Signature}
use Rattle.circus_record.specs.declared.record.MemberRecord.{MemberRecord}
use Rattle.circus_record.specs.declared.record.RunRecord.{RunRecord}
use Rattle.circus_node.specs.Accepting.{is_root}
use Rattle.circus_node.specs.NodeState.{member_record}
use Rattle.circus_schedule.specs.declared.line.Line.{Line}
use Rattle.circus_world.specs.WorldState.{WorldState, Standing}
use Rattle.circus_world_theory.specs.Worlds.{IsWorldOf}

-- an AT LEAST asks for no more equal messages than there are founders
abbrev pub AsksAtMost : Kind → ℕ → Type 0
AsksAtMost (AtLeast number) founders = number ≤ founders
AsksAtMost First founders = Unit {0}
AsksAtMost Majority founders = Unit {0}
AsksAtMost Unanimous founders = Unit {0}
AsksAtMost Watchdog founders = Unit {0}

-- of the calls to a troupe, as there are founders of each troupe whose module imports its own, and
-- of the replies to a troupe, as there are founders of each whose module its own imports
pub record AskEnough (d : Deployment) (declared : List Signature) : Type 0 where
  pub calls : (client server : ℕ) (s : Signature) (i : Import) (c t : Troupe)
      → slice_get declared client ≡ Some s → import_of server s.imports ≡ Some i
      → slice_get d.troupes client ≡ Some c → slice_get d.troupes server ≡ Some t
      → AsksAtMost t.calls (length c.founders)
  pub replies : (client server : ℕ) (s : Signature) (i : Import) (c t : Troupe)
      → slice_get declared client ≡ Some s → import_of server s.imports ≡ Some i
      → slice_get d.troupes client ≡ Some c → slice_get d.troupes server ≡ Some t
      → AsksAtMost c.replies (length t.founders)

-- one run was performed, to its end
pub record IsDone (kept : MemberRecord) : Type 0 where
  pub run : RunRecord
  pub runs_are : kept.runs ≡ run ∷ []
  pub ended : IsSome run.outcome
  pub count : kept.count ≡ 1

-- by each founder of each root
abbrev pub RootsAreDone : {M : Type 0} → Deployment → WorldState M → Type 0
RootsAreDone {M} d w =
    (node troupe : ℕ) (t : Troupe) (s : Standing M) (kept : MemberRecord)
    → is_root d troupe ≡ true → slice_get d.troupes troupe ≡ Some t
    → is_among t.founders node ≡ true → slice_get w.nodes node ≡ Some s
    → member_record s.node.acting ≡ Some kept → IsDone kept

-- so it is in a world to which these lines lead from the boot of any program whose collators ask
-- for no more than there is
abbrev pub EndsEveryRoot : {M : Type 0} → (M → Signature)
    → (M → List ValueTree → ℕ → List ValueTree → List Outcome → NextTurn) → (M → List ValueTree)
    → List Line → WorldState M → Type 0
EndsEveryRoot {M} declared turn first lines last =
    (d : Deployment) (modules : List M) (hosted : List (Option M)) (booted : WorldState M)
    → IsWorldOf declared turn first d modules hosted lines booted last
    → AskEnough d (map declared modules) → RootsAreDone d last
