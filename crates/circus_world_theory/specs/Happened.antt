-- What happens to the member of a node by what comes to the node, and what has happened to it behind lines of a world.
use Rattle.std.specs.Prelude.{ℕ, ◌+◌, ◌==◌, if◌then◌else◌, List, [], ◌∷◌, slice_get, Option, None, Some, Ok, Err}
use Rattle.std.specs.Option.{option_map_or}
use Rattle.circus_value.specs.ValueTree.{ValueTree}
use Rattle.circus_value.specs.declared.outcome.Outcome.{Outcome}
use Rattle.circus_segment.specs.Segment.{reading}
use Rattle.circus_model.specs.NextTurn.{NextTurn}
use Rattle.circus_model.specs.declared.signature.Signature.{Signature}
use Rattle.circus_wire.specs.Wire.{heard_from}
use Rattle.circus_member_rules.specs.declared.occurrence.Occurrence.{Occurrence}
use Rattle.circus_member_rules.specs.declared.occurrence.Occurrence.TheVariants as occurs
use Rattle.circus_member_rules.specs.MemberState.{MemberState}
use Rattle.circus_node.specs.Accepting.{occurrence_of_heard}
use Rattle.circus_node.specs.declared.event.Event.{Event}
use Rattle.circus_node.specs.declared.event.Event.TheVariants as comes
use Rattle.circus_node.specs.NodeState.{Acting, member, ringmaster, NodeState}
use Rattle.circus_schedule.specs.declared.line.Line.{Line}
use Rattle.circus_world.specs.WorldState.{WorldState, Standing}
use Rattle.circus_world.specs.Course.{Stepped, step_line}
use Rattle.circus_world_theory.specs.Histories.{comes_by}
use Rattle.circus_member_theory.specs.Past.{Past, booted, followed}

-- ---- a node

module _ {M : Type 0} where
  -- what is said of the member that a node hosts, and none of the Ringmaster
  abbrev pub of_member : {X : Type 0} → (MemberState M → Option X) → Acting M → Option X
  of_member given (member m) = given m
  of_member given (ringmaster kept) = None

module _ {M : Type 0} (declared : M → Signature) where
  -- what is accepted of a message that arrives, a declaration, or a join
  abbrev pub happens_to : NodeState M → Event → MemberState M → Option Occurrence
  happens_to n (comes.Datagram from bytes) m = occurrence_of_heard n.deployment (declared m.performing.hosted) m from (heard_from n.wire from (reading bytes))
  happens_to n comes.Tick m = None
  happens_to n (comes.Down node) m = Some (occurs.Declared node)
  happens_to n comes.Join m = Some occurs.Joins

  abbrev pub happens_by : Event → NodeState M → Option Occurrence
  happens_by event n = of_member (happens_to n event) n.acting

-- a past and what happens in a step, if anything does
abbrev pub with_one : Past → ℕ → Option Occurrence → Past
with_one p step None = p
with_one p step (Some o) = followed p step o

-- ---- a node of a world

module _ {M : Type 0} where
  -- and then behind others, from the world on that a step came to, if it came to one
  abbrev pub with_others : (WorldState M → Past) → Past → Stepped M → Past
  with_others others p (Ok next) = others next
  with_others others p (Err spent) = p

module _ {M : Type 0} (declared : M → Signature) where
  -- once something has come to a node
  abbrev pub with_step : ℕ → Past → WorldState M → ℕ × Event → Past
  with_step node p w came =
      if came.0 == node
      then option_map_or (λ (s : Standing M). with_one p (w.steps + 1) (happens_by declared came.1 s.node)) (slice_get w.nodes node) p
      else p

  -- behind a line
  abbrev pub with_line : ℕ → Past → Line → WorldState M → Past
  with_line node p line w = option_map_or (with_step node p w) (comes_by line w) p

module _ {M : Type 0} (declared : M → Signature) (turn : M → List ValueTree → ℕ → List ValueTree → List Outcome → NextTurn) where
  -- behind lines, as far as they are stepped
  abbrev pub with_lines : ℕ → Past → List Line → WorldState M → Past
  with_lines node p [] w = p
  with_lines node p (line ∷ lines) w = with_others (with_lines node (with_line declared node p line w) lines) p (step_line declared turn line w)

  -- the past of the member of a node, from boot on
  abbrev pub past_of : List Line → WorldState M → ℕ → Past
  past_of lines begun node = with_lines node booted lines begun
