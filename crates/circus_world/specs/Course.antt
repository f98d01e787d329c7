-- How a world goes on, line by line.
use Rattle.std.specs.Prelude.{ℕ, ◌+◌, true, if◌then◌else◌, List, ◌++◌, map, slice_get, slice_set, Some, Result, Ok, Err}
use Rattle.std.specs.Option.{option_map_or}
use Rattle.circus_value.specs.ValueTree.{ValueTree}
use Rattle.circus_value.specs.declared.outcome.Outcome.{Outcome}
use Rattle.circus_model.specs.NextTurn.{NextTurn}
use Rattle.circus_model.specs.declared.signature.Signature.{Signature}
use Rattle.circus_node.specs.declared.event.Event.{Event}
use Rattle.circus_node.specs.declared.event.Event.TheVariants as comes
use Rattle.circus_node.specs.declared.event.Give.{Give}
use Rattle.circus_node.specs.Step as node_step
use Rattle.circus_schedule.specs.declared.line.Line.{Line}
use Rattle.circus_schedule.specs.declared.line.Line.TheVariants.{Deliver, Tick, Crash, Down, Join}
use Rattle.circus_world.specs.Sent.{Sent}
use Rattle.circus_world.specs.WorldState.{WorldState, Standing, is_live}

-- what a node gives in a step
abbrev pub sent_by : ℕ → ℕ → Give → Sent
sent_by step node give = record { step = step; from = node; to = give.to; bytes = give.bytes }

-- the world after a step, or a node and the other one for which it has no number left
abbrev pub Stepped : Type 0 → Type 0
Stepped M = Result (WorldState M) (ℕ × ℕ)

module _ {M : Type 0} where
  -- a step in which no node does anything
  abbrev pub pass_step : WorldState M → WorldState M
  pass_step w = record w { steps = w.steps + 1 }

  -- something is noted of a node
  abbrev pub note_at : (Standing M → Standing M) → ℕ → WorldState M → WorldState M
  note_at note node w = record w { nodes = option_map_or (λ s. slice_set w.nodes node (note s)) (slice_get w.nodes node) w.nodes }

  abbrev pub crash_node : ℕ → WorldState M → WorldState M
  crash_node node w = pass_step (note_at (λ s. record s { crashed = Some (w.steps + 1) }) node w)

  abbrev pub told_to_join : ℕ → WorldState M → WorldState M
  told_to_join node w = note_at (λ s. record s { joins = true }) node w

  -- a node has made a step, which came to this
  abbrev pub conclude_step : ℕ → Standing M → WorldState M → node_step.Ended M → Stepped M
  conclude_step node s w (Ok ended) =
      Ok (record w {
        nodes = slice_set w.nodes node (record s { node = ended.0 });
        sent = w.sent ++ map (sent_by (w.steps + 1) node) ended.1.gives;
        steps = w.steps + 1;
      })
  conclude_step node s w (Err peer) = Err (node, peer)

module _ {M : Type 0} (declared : M → Signature) (turn : M → List ValueTree → ℕ → List ValueTree → List Outcome → NextTurn) where
  -- something comes to a node
  abbrev pub comes_to : ℕ → Event → WorldState M → Stepped M
  comes_to node event w =
      option_map_or (λ s. conclude_step node s w (node_step.step_node declared turn (w.steps + 1) event s.node)) (slice_get w.nodes node) (Ok w)

  -- a datagram is delivered; one for a crashed node is lost
  abbrev pub deliver_sent : Sent → WorldState M → Stepped M
  deliver_sent sent w = if is_live w sent.to then comes_to sent.to (comes.Datagram sent.from sent.bytes) w else Ok (pass_step w)

  -- a line that may be stepped
  abbrev pub step_line : Line → WorldState M → Stepped M
  step_line (Deliver number) w = option_map_or (λ sent. deliver_sent sent w) (slice_get w.sent number) (Ok w)
  step_line (Tick node) w = comes_to node comes.Tick w
  step_line (Crash node) w = Ok (crash_node node w)
  step_line (Down node told) w = comes_to told (comes.Down node) w
  step_line (Join node) w = comes_to node comes.Join (told_to_join node w)
