-- What happens to a node whose module is seen as a behaviour is what happens to the node.
use Rattle.std.proofs.Common.{◌≡◌, ℕ, ◌+◌, List, [], ◌∷◌, Option, None, Some, Ok, Err, refl, sym, ap, ◌∙◌}
use Rattle.std.specs.Prelude.{slice_get, ◌==◌, if◌then◌else◌}
use Rattle.std.specs.Option.{option_map_or}
use Rattle.circus_value.specs.ValueTree.{ValueTree}
use Rattle.circus_value.specs.declared.outcome.Outcome.{Outcome}
use Rattle.circus_segment.specs.Segment.{reading}
use Rattle.circus_model.specs.NextTurn.{NextTurn}
use Rattle.circus_model.specs.Behaviour.{Behaviour}
use Rattle.circus_model.specs.declared.signature.Signature.{Signature}
use Rattle.circus_wire.specs.Wire.{heard_from}
use Rattle.circus_node.specs.declared.event.Event.{Event}
use Rattle.circus_node.specs.declared.event.Event.TheVariants as comes
use Rattle.circus_node.specs.NodeState.{Acting, member, ringmaster, NodeState}
use Rattle.circus_schedule.specs.declared.line.Line.{Line}
use Rattle.circus_node.specs.Alike.{declared_of, turn_of, acting_as, node_as}
use Rattle.circus_world.specs.WorldState.{WorldState, Standing}
use Rattle.circus_world.specs.Alike.{standing_as, world_as, step_as}
use Rattle.circus_world.specs.Course.{Stepped, step_line}
use Rattle.circus_world.proofs.WorldsAlike.{world_stepped_as}
use Rattle.circus_world_theory.specs.Histories.{comes_by}
use Rattle.circus_member_theory.specs.Past.{Past}
use Rattle.circus_world_theory.proofs.ActsAlike.{accepted_as, by_place, comes_as}
use Rattle.circus_world_theory.specs.Happened.{happens_by, with_one, with_others, with_step, with_line, with_lines}

module _ {M : Type 0} (declared : M → Signature) (turn : M → List ValueTree → ℕ → List ValueTree → List Outcome → NextTurn) (first : M → List ValueTree) where
  abbrev seen : WorldState M → WorldState Behaviour
  seen w = world_as declared turn first w

  abbrev one : Standing M → Standing Behaviour
  one s = standing_as declared turn first s

  -- ---- a node

  happens_as : (event : Event) (n : NodeState M) → happens_by declared_of event (node_as declared turn first n) ≡ happens_by declared event n
  happens_as event n = by_acting event n.acting
    where
      by_acting : (e : Event) (a : Acting M)
          → happens_by declared_of e (record (node_as declared turn first n) { acting = acting_as declared turn first a }) ≡ happens_by declared e (record n { acting = a })
      by_acting (comes.Datagram from bytes) (member m) = accepted_as declared turn first n.deployment (declared m.performing.hosted) m from (heard_from n.wire from (reading bytes))
      by_acting comes.Tick (member m) = refl
      by_acting (comes.Down node) (member m) = refl
      by_acting comes.Join (member m) = refl
      by_acting e (ringmaster kept) = refl

  -- ---- a line

  module _ (node : ℕ) where
    step_as_seen : (p : Past) (w : WorldState M) (came : ℕ × Event) → with_step declared_of node p (seen w) came ≡ with_step declared node p w came
    step_as_seen p w came =
        ap (λ q. if came.0 == node then q else p)
        (by_place declared turn first (λ s. with_one p (w.steps + 1) (happens_by declared_of came.1 s.node)) p w node ∙ of_option (slice_get w.nodes node))
      where
        of_option : (o : Option (Standing M)) → option_map_or (λ (s : Standing M). with_one p (w.steps + 1) (happens_by declared_of came.1 (one s).node)) o p
            ≡ option_map_or (λ (s : Standing M). with_one p (w.steps + 1) (happens_by declared came.1 s.node)) o p
        of_option None = refl
        of_option (Some s) = ap (with_one p (w.steps + 1)) (happens_as came.1 s.node)

    line_as : (p : Past) (line : Line) (w : WorldState M) → with_line declared_of node p line (seen w) ≡ with_line declared node p line w
    line_as p line w = ap (λ o. option_map_or (with_step declared_of node p (seen w)) o p) (comes_as declared turn first line w) ∙ of_option (comes_by line w)
      where
        of_option : (o : Option (ℕ × Event)) → option_map_or (with_step declared_of node p (seen w)) o p ≡ option_map_or (with_step declared node p w) o p
        of_option None = refl
        of_option (Some came) = step_as_seen p w came

    -- ---- lines

    pub pasts_as : (p : Past) (lines : List Line) (w : WorldState M) → with_lines declared_of turn_of node p lines (seen w) ≡ with_lines declared turn node p lines w
    pasts_as p [] w = refl
    pasts_as p (line ∷ lines) w =
        ap (λ q. with_others (with_lines declared_of turn_of node q lines) p (step_line declared_of turn_of line (seen w))) (line_as p line w)
        ∙ ap (with_others (with_lines declared_of turn_of node (with_line declared node p line w) lines) p) (sym (world_stepped_as declared turn first line w))
        ∙ of_step (λ next. pasts_as (with_line declared node p line w) lines next) (step_line declared turn line w)
      where
        of_step : ((next : WorldState M) → with_lines declared_of turn_of node (with_line declared node p line w) lines (seen next)
            ≡ with_lines declared turn node (with_line declared node p line w) lines next)
            → (s : Stepped M) → with_others (with_lines declared_of turn_of node (with_line declared node p line w) lines) p (step_as declared turn first s)
            ≡ with_others (with_lines declared turn node (with_line declared node p line w) lines) p s
        of_step rest (Ok next) = rest next
        of_step rest (Err spent) = refl
