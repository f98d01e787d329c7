-- What has happened at the pairs of a node of a world, over lines that were stepped.
use Rattle.std.specs.Prelude.{ℕ, ◌+◌, ◌==◌, if◌then◌else◌, List, [], ◌∷◌, length, slice_get, Option, None, Some, option_and_then, Ok, Err}
use Rattle.std.specs.Option.{option_map_or}
use Rattle.circus_value.specs.ValueTree.{ValueTree}
use Rattle.circus_value.specs.declared.outcome.Outcome.{Outcome}
use Rattle.circus_collate.specs.declared.deployment.Deployment.{Deployment}
use Rattle.circus_model.specs.NextTurn.{NextTurn}
use Rattle.circus_model.specs.declared.signature.Signature.{Signature}
use Rattle.circus_pair.specs.Acts.{Acts}
use Rattle.circus_wire.specs.Wire.{Beginning}
use Rattle.circus_wire.specs.WireActs.{WireActs, begun, acts_at}
use Rattle.circus_wire.specs.WireStanding.{pair_of}
use Rattle.circus_member_rules.specs.declared.occurrence.Purpose.{Purpose}
use Rattle.circus_node.specs.declared.event.Event.{Event}
use Rattle.circus_node.specs.declared.event.Event.TheVariants as comes
use Rattle.circus_schedule.specs.declared.line.Line.{Line}
use Rattle.circus_schedule.specs.declared.line.Line.TheVariants.{Deliver, Tick, Crash, Down, Join}
use Rattle.circus_world.specs.Sent.{Sent}
use Rattle.circus_world.specs.WorldState.{WorldState, Standing, is_live}
use Rattle.circus_world.specs.Course.{Stepped, step_line}
use Rattle.circus_world_theory.specs.NodeActs.{with_all, acts_in, acts_at_boot}

-- the pairs of a node of a program before any act
abbrev pub beginning_of : Deployment → ℕ → Beginning
beginning_of d node = record { own = node; nodes = length d.nodes; first = 0; format = d.format }

module _ {M : Type 0} where
  -- what a datagram is to the node that it is for, unless that has crashed
  abbrev pub delivery : WorldState M → Sent → Option (ℕ × Event)
  delivery w sent = if is_live w sent.to then Some (sent.to, comes.Datagram sent.from sent.bytes) else None

  -- to which node something comes by a line, and what
  abbrev pub comes_by : Line → WorldState M → Option (ℕ × Event)
  comes_by (Deliver number) w = option_and_then (delivery w) (slice_get w.sent number)
  comes_by (Tick node) w = Some (node, comes.Tick)
  comes_by (Crash node) w = None
  comes_by (Down node told) w = Some (told, comes.Down node)
  comes_by (Join node) w = Some (node, comes.Join)

  -- and then behind others, from the world on that a step came to, if it came to one
  abbrev pub with_others : (WorldState M → WireActs Purpose) → WireActs Purpose → Stepped M → WireActs Purpose
  with_others others acts (Ok next) = others next
  with_others others acts (Err spent) = acts

module _ {M : Type 0} (declared : M → Signature) (turn : M → List ValueTree → ℕ → List ValueTree → List Outcome → NextTurn) where
  -- what has happened at the pairs of a node, once something has come to a node
  abbrev pub with_step : ℕ → WireActs Purpose → WorldState M → ℕ × Event → WireActs Purpose
  with_step node acts w came =
      if came.0 == node
      then option_map_or (λ (s : Standing M). with_all acts (acts_in declared turn (w.steps + 1) came.1 s.node)) (slice_get w.nodes node) acts
      else acts

  -- behind a line
  abbrev pub with_line : ℕ → WireActs Purpose → Line → WorldState M → WireActs Purpose
  with_line node acts line w = option_map_or (with_step node acts w) (comes_by line w) acts

  -- behind lines, as far as they are stepped
  abbrev pub with_lines : ℕ → WireActs Purpose → List Line → WorldState M → WireActs Purpose
  with_lines node acts [] w = acts
  with_lines node acts (line ∷ lines) w =
      with_others (with_lines node (with_line node acts line w) lines) acts (step_line declared turn line w)

module _ {M : Type 0} (declared : M → Signature) (turn : M → List ValueTree → ℕ → List ValueTree → List Outcome → NextTurn) (first : M → List ValueTree) where
  -- from boot on, where the nodes host these modules
  abbrev pub acts_of : Deployment → List (Option M) → List Line → WorldState M → ℕ → WireActs Purpose
  acts_of d hosted lines booted node =
      with_lines declared turn node (with_all begun (acts_at_boot declared turn first d (option_and_then (λ own. own) (slice_get hosted node)) node)) lines booted

  -- of these, what has happened at the pair of a node with another one
  abbrev pub acts_between : Deployment → List (Option M) → List Line → WorldState M → ℕ → ℕ → Acts
  acts_between d hosted lines booted node other = acts_at (pair_of (beginning_of d node)) other (acts_of d hosted lines booted node)
