-- When what is written of a served node is the record of a node run.
use Rattle.std.specs.Prelude.{ℕ, ◌≡◌, ◌≤◌, ◌⊎◌, List, [], ◌∷◌, ◌++◌, length, map, All, Some, Ok, Err, slice_get}
use Rattle.circus_collate.specs.declared.deployment.Troupe.{Troupe}
use Rattle.circus_model.specs.Agree.{IsAt}
use Rattle.circus_model.specs.Behaviour.{Behaviour}
use Rattle.circus_record.specs.Naming.{names_of}
use Rattle.circus_record.specs.declared.record.MemberRecord.{MemberRecord}
use Rattle.circus_node.specs.Accepting.{troupe_at}
use Rattle.circus_node.specs.NodeState.{NodeState, member_record}
use Rattle.circus_node.specs.declared.event.Outputs.{Outputs}
use Rattle.circus_node.specs.Alike.{declared_of, turn_of}
use Rattle.circus_outside.specs.Link.{Taken, failed, taken_of}
use Rattle.circus_outside.specs.declared.link.TakenFrom.{TakenFrom}
use Rattle.circus_serve.specs.declared.happening.Happening.{Happening}
use Rattle.circus_serve.specs.Happened.{given_in}
use Rattle.circus_serve.specs.Serving.{happened_by, serve_takes}
use Rattle.circus_serve.specs.Outside.{Tells, IsAsked}
use Rattle.circus_serve.specs.Recorded.{Recorded}
use Rattle.circus_serve.specs.Answers.{asked_of_link, IsServed}
use Rattle.circus_serve.specs.NodeText.{node_text}
use Rattle.circus_config.specs.declared.plan.Plan.{Plan}
use Rattle.circus_plan_modules.specs.Loaded.{behaviours_in}
use Rattle.circus_node_command.specs.NodeEnds.{booted_node}
use Rattle.circus_headline_theory.specs.ServedRun.{IsOfOctets, IsServedRun, IsServedSoFar}

-- the text is the record of a node of a plan that was served for so many takes, where the link tells this before and after; and where
-- what was taken is bytes, what happened to the node of a member is a node run, with the record of the member
pub record IsServedRunOf (plan : Plan) (node turns : ℕ) (old new : Tells) (text : List ℕ) : Type 0 where
  pub recorded : Recorded Behaviour
  pub written : text ≡ node_text (names_of plan.deployment.nodes plan.names) plan.deployment node recorded
  pub boot : NodeState Behaviour × Outputs
  pub booted_is : booted_node plan node ≡ Ok boot
  pub served : IsServed declared_of turn_of plan.deployment node boot.0 boot.1.gives turns old new recorded
  pub run : All IsOfOctets served.takes
      → (number : ℕ) (troupe : Troupe) (b : Behaviour) (kept : MemberRecord) → troupe_at plan.deployment node ≡ Some number
      → slice_get plan.deployment.troupes number ≡ Some troupe → IsAt (behaviours_in plan) number b → member_record recorded.node.acting ≡ Some kept
      → IsServedRun plan.deployment b node number troupe recorded.happened kept

-- what happened to a node that booted so, as far as these takes
abbrev pub happened_so_far : Plan → ℕ → NodeState Behaviour × Outputs → List TakenFrom → List Happening
happened_so_far plan node boot takes = happened_by (serve_takes declared_of turn_of plan.deployment node boot.0 boot.1.gives takes)

-- the link was given this of it, up to the call that failed, if one did: where something is missing, it is of the last take
pub record WasGiven (plan : Plan) (node : ℕ) (old new : Tells) (boot : NodeState Behaviour × Outputs) (takes : List TakenFrom) : Type 0 where
  pub given : List (ℕ × List ℕ)
  pub rest : List (ℕ × List ℕ)
  pub whole : given_in plan.deployment (happened_so_far plan node boot takes) ≡ given ++ rest
  pub earlier : (rest ≡ [] → ⊥) → (before : List TakenFrom) (last : TakenFrom) → takes ≡ before ++ last ∷ []
      → (more : List (ℕ × List ℕ)) × (given ≡ given_in plan.deployment (happened_so_far plan node boot before) ++ more)
  pub failing : List Taken
  pub at_most_one : (failing ≡ []) ⊎ (failing ≡ failed ∷ [])
  pub link : IsAsked old new (asked_of_link plan.deployment node (map taken_of takes ++ failing) given)

-- a node of a plan was served as far as these takes, where the link tells this before and after; and where what was taken is bytes,
-- what happened to the node of a member by then is a node run
pub record WasServedSoFar (plan : Plan) (node turns : ℕ) (old new : Tells) : Type 0 where
  pub boot : NodeState Behaviour × Outputs
  pub booted_is : booted_node plan node ≡ Ok boot
  pub takes : List TakenFrom
  pub few : length takes ≤ turns
  pub gave : WasGiven plan node old new boot takes
  pub run : All IsOfOctets takes
      → (number : ℕ) (troupe : Troupe) (b : Behaviour) → troupe_at plan.deployment node ≡ Some number
      → slice_get plan.deployment.troupes number ≡ Some troupe → IsAt (behaviours_in plan) number b
      → IsServedSoFar plan.deployment b node number troupe (happened_so_far plan node boot takes)

-- no number was left to a node at boot, and the link was not asked
pub record WasSpentAtBoot (plan : Plan) (node : ℕ) (old new : Tells) : Type 0 where
  pub peer : ℕ
  pub booted_is : booted_node plan node ≡ Err peer
  pub same : new ≡ old
