-- Every datagram that the members of a world send is true: it is justified, and the record that it cites stands.
use Rattle.std.specs.Prelude.{◌≡◌, ℕ, ◌+◌, true, List, [], ◌∷◌, ◌++◌, Option, Some, Ok, slice_get}
use Rattle.circus_value.specs.ValueTree.{ValueTree}
use Rattle.circus_value.specs.declared.outcome.Outcome.{Outcome}
use Rattle.circus_collate.specs.declared.deployment.Deployment.{Deployment}
use Rattle.circus_model.specs.NextTurn.{NextTurn}
use Rattle.circus_model.specs.Agree.{IsAt}
use Rattle.circus_model.specs.Behaviour.{Behaviour, behaviours}
use Rattle.circus_model.specs.Execution.{history_of}
use Rattle.circus_model.specs.declared.signature.Signature.{Signature}
use Rattle.circus_record.specs.declared.record.MemberRecord.{MemberRecord}
use Rattle.circus_performing.specs.Performing.{is_active}
use Rattle.circus_member_theory.specs.Stands.{Stands}
use Rattle.circus_node.specs.Accepting.{troupe_at}
use Rattle.circus_node.specs.NodeState.{member_record}
use Rattle.circus_node.specs.Step as node_step
use Rattle.circus_node.specs.declared.event.Event.{Event}
use Rattle.circus_node.specs.declared.event.Outputs.{Outputs}
use Rattle.circus_schedule.specs.declared.line.Line.{Line}
use Rattle.circus_world.specs.Lines.{Leads, Lead}
use Rattle.circus_world.specs.WorldState.{WorldState, Standing}
use Rattle.circus_world_theory.specs.Histories.{comes_by, acts_of}
use Rattle.circus_world_theory.specs.NodeActs.{with_all, acts_in}
use Rattle.circus_world_theory.specs.Worlds.{IsWorldOf}
use Rattle.circus_world_theory.specs.Happened.{past_of, happens_by, with_one}
use Rattle.circus_headline_theory.specs.Datagrams.Lives.{is_tick, AreJustified}

module _ {M : Type 0} (declared : M → Signature) (turn : M → List ValueTree → ℕ → List ValueTree → List Outcome → NextTurn) (first : M → List ValueTree)
    (d : Deployment) (modules : List M) (hosted : List (Option M)) where
  -- lines lead to a world and one more leads on, by which a node takes a step and gives this
  pub record IsStepIn (lines : List Line) (line : Line) (begun w last : WorldState M) (node : ℕ) (event : Event) (before after : Standing M) (outputs : Outputs) : Type 0 where
    pub world : IsWorldOf declared turn first d modules hosted (lines ++ line ∷ []) begun last
    pub leads : Lead declared turn lines begun w
    pub on : Leads declared turn line w last
    pub comes : comes_by line w ≡ Some (node, event)
    pub was : slice_get w.nodes node ≡ Some before
    pub is : slice_get last.nodes node ≡ Some after
    pub ends : node_step.step_node declared turn (w.steps + 1) event before.node ≡ Ok (after.node, outputs)

  -- what the member of that node, which hosts this, gives is true: justified, and where the member is active, its record stands in the
  -- history of the program
  pub record AreTrue (lines : List Line) (begun w : WorldState M) (node number : ℕ) (event : Event) (before : Standing M) (outputs : Outputs) (own : M) (kept : MemberRecord) : Type 0 where
    pub justified : AreJustified declared turn first d own node kept (with_one (past_of declared turn lines begun node) (w.steps + 1) (happens_by declared event before.node))
        (with_all (acts_of declared turn first d hosted lines begun node) (acts_in declared turn (w.steps + 1) event before.node)) (is_tick event) outputs.gives
    pub stands : (b : Behaviour) → IsAt (behaviours declared turn first modules) number b → is_active kept.phase ≡ true
        → Stands (history_of (behaviours declared turn first modules)) number b.first kept

  -- each step of each node that hosts a member gives what is true
  abbrev pub StepIsTrue : List Line → WorldState M → WorldState M → ℕ → Event → Standing M → Standing M → Outputs → Type 0
  StepIsTrue lines begun w node event before after outputs =
      (number : ℕ) (own : M) (kept : MemberRecord) → slice_get hosted node ≡ Some (Some own) → troupe_at d node ≡ Some number → member_record after.node.acting ≡ Some kept
      → AreTrue lines begun w node number event before outputs own kept
