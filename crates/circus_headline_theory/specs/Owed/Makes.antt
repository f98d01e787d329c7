-- What a node makes and tells, each with its step: by itself, and along lines of a world.
use Rattle.std.specs.Prelude.{ℕ, ◌+◌, ◌==◌, if◌then◌else◌, List, [], ◌∷◌, ◌++◌, map, Option, Some, slice_get, Ok, Err, option_and_then}
use Rattle.std.specs.List.{flat_map}
use Rattle.std.specs.Option.{option_map_or}
use Rattle.circus_value.specs.ValueTree.{ValueTree}
use Rattle.circus_value.specs.declared.outcome.Outcome.{Outcome}
use Rattle.circus_segment.specs.Segment.{reading}
use Rattle.circus_collate.specs.declared.deployment.Deployment.{Deployment}
use Rattle.circus_model.specs.NextTurn.{NextTurn}
use Rattle.circus_model.specs.declared.signature.Signature.{Signature}
use Rattle.circus_wire.specs.Wire.{heard_from}
use Rattle.circus_wire.specs.WireActs.{WireAct}
use Rattle.circus_member_rules.specs.declared.occurrence.Difference.{Difference}
use Rattle.circus_member_rules.specs.declared.occurrence.Effect.{Effect}
use Rattle.circus_member_rules.specs.declared.occurrence.Purpose.{Purpose}
use Rattle.circus_node.specs.declared.event.Event.{Event}
use Rattle.circus_node.specs.declared.event.Event.TheVariants as comes
use Rattle.circus_node.specs.Making.{hears, learns_down, is_told_to_join}
use Rattle.circus_node.specs.NodeState.{NodeState}
use Rattle.circus_node.specs.Step.{Ended, step_node}
use Rattle.circus_schedule.specs.declared.line.Line.{Line}
use Rattle.circus_world.specs.WorldState.{WorldState, Standing}
use Rattle.circus_world.specs.Course.{Stepped}
use Rattle.circus_world.specs.Course as course
use Rattle.circus_world_theory.specs.Made.{act_of}
use Rattle.circus_world_theory.specs.NodeActs.{handed_by, wire_behind, acts_at_boot}
use Rattle.circus_node.specs.Trace.{effects_in, effects_at_boot}
use Rattle.circus_world_theory.specs.Histories.{comes_by}
use Rattle.circus_headline_theory.specs.Owed.Living.{made_in, told_in}
use Rattle.circus_world_theory.specs.NodeLives.{Events}

-- ---- a node by itself

module _ {M : Type 0} {X : Type 0} where
  -- this, and then what others are from the node on that a step came to, if it came to one
  abbrev pub then_on : List X → (NodeState M → List X) → Ended M → List X
  then_on now others (Ok ended) = now ++ others ended.0
  then_on now others (Err node) = now

-- the differences that a step gives
abbrev pub given_by : {M : Type 0} → Ended M → List Difference
given_by (Ok ended) = ended.1.differences
given_by (Err node) = []

module _ {M : Type 0} (declared : M → Signature)
    (turn : M → List ValueTree → ℕ → List ValueTree → List Outcome → NextTurn) where
  -- the differences that come of an event, as calls and returns do
  abbrev pub differences_in : ℕ → Event → NodeState M → List Difference
  differences_in at (comes.Datagram from bytes) n =
      (hears declared turn n.deployment at from (heard_from n.wire from (reading bytes))
      n.acting).came.differences
  differences_in at comes.Tick n = []
  differences_in at (comes.Down other) n =
      (learns_down declared turn at other n.acting).came.differences
  differences_in at comes.Join n = (is_told_to_join declared turn at n.acting).came.differences

  -- the calls and returns that it makes as events come to it, as far as they are stepped
  abbrev pub makes : Events → NodeState M → List (ℕ × Effect)
  makes [] n = []
  makes (next ∷ events) n =
      then_on (made_in next.0 (effects_in declared turn next.0 next.1 n)) (makes events)
      (step_node declared turn next.0 next.1 n)

  -- and the differences that it gives
  abbrev pub tells : Events → NodeState M → List (ℕ × Difference)
  tells [] n = []
  tells (next ∷ events) n =
      then_on (told_in next.0 (given_by (step_node declared turn next.0 next.1 n))) (tells events)
      (step_node declared turn next.0 next.1 n)

  module _ (first : M → List ValueTree) where
    -- all that a node has made which hosts this, from boot on
    abbrev pub made_behind : Deployment → M → ℕ → Events → NodeState M → List (ℕ × Effect)
    made_behind d own node events begun =
        made_in 0 (effects_at_boot declared turn first d (Some own) node) ++ makes events begun

-- ---- a node of a world

-- what is handed over in a step
abbrev pub handed_in : ℕ → List (WireAct Purpose) → List (ℕ × WireAct Purpose)
handed_in at acts = map (λ (a : WireAct Purpose). (at, a)) acts

-- what is made, as it is handed over
abbrev pub as_handed : ℕ × Effect → ℕ × WireAct Purpose
as_handed e = (e.0, act_of e.1)

module _ {M : Type 0} {X : Type 0} where
  abbrev pub then_along : List X → (WorldState M → List X) → Stepped M → List X
  then_along now others (Ok next) = now ++ others next
  then_along now others (Err spent) = now

module _ {M : Type 0} (declared : M → Signature)
    (turn : M → List ValueTree → ℕ → List ValueTree → List Outcome → NextTurn) (node : ℕ) where
  -- what is said of a node and of what comes to it in a step, where something does by a line
  abbrev pub by_line : {X : Type 0} → (ℕ → Event → NodeState M → List X) → Line → WorldState M
      → List X
  by_line said line w =
      option_map_or
      (λ (came : ℕ × Event).
      if came.0 == node
      then option_map_or (λ (s : Standing M). said (w.steps + 1) came.1 s.node)
      (slice_get w.nodes node) []
      else [])
      (comes_by line w) []

  abbrev pub makes_then : ℕ → Event → NodeState M → List (ℕ × Effect)
  makes_then at event n = made_in at (effects_in declared turn at event n)

  abbrev pub tells_then : ℕ → Event → NodeState M → List (ℕ × Difference)
  tells_then at event n = told_in at (differences_in declared turn at event n)

  -- what it makes along lines, as far as they are stepped
  abbrev pub makes_along : List Line → WorldState M → List (ℕ × Effect)
  makes_along [] w = []
  makes_along (line ∷ lines) w =
      then_along (by_line makes_then line w) (makes_along lines)
      (course.step_line declared turn line w)

  abbrev pub tells_along : List Line → WorldState M → List (ℕ × Difference)
  tells_along [] w = []
  tells_along (line ∷ lines) w =
      then_along (by_line tells_then line w) (tells_along lines)
      (course.step_line declared turn line w)

  -- the calls and returns that it hands to its pairs along lines
  abbrev pub hands_then : ℕ → Event → NodeState M → List (ℕ × WireAct Purpose)
  hands_then at event n =
      handed_in at
      (flat_map (handed_by (wire_behind event n)) (effects_in declared turn at event n))

  abbrev pub hands_along : List Line → WorldState M → List (ℕ × WireAct Purpose)
  hands_along [] w = []
  hands_along (line ∷ lines) w =
      then_along (by_line hands_then line w) (hands_along lines)
      (course.step_line declared turn line w)

  -- from boot on, where the nodes host these modules
  abbrev pub handed_of : (M → List ValueTree) → Deployment → List (Option M) → List Line
      → WorldState M → List (ℕ × WireAct Purpose)
  handed_of first d hosted lines begun =
      handed_in 0
      (acts_at_boot declared turn first d (option_and_then (λ own. own) (slice_get hosted node))
      node)
      ++ hands_along lines begun

  abbrev pub made_of : (M → List ValueTree) → Deployment → List (Option M) → List Line
      → WorldState M → List (ℕ × Effect)
  made_of first d hosted lines begun =
      made_in 0
      (effects_at_boot declared turn first d (option_and_then (λ own. own) (slice_get hosted node))
      node)
      ++ makes_along lines begun
