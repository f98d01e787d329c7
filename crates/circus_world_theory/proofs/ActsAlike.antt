-- What happens at the pairs of nodes whose modules are seen as behaviours is what happens at those of the nodes.
use Rattle.std.proofs.Common.{◌≡◌, ℕ, ◌+◌, false, List, [], ◌∷◌, ◌++◌, map, Option, None, Some, Ok, Err, refl, sym, ap, ◌∙◌}
use Rattle.std.specs.Prelude.{slice_get, is_none, option_map, option_and_then, ◌==◌, if◌then◌else◌}
use Rattle.std.specs.List.{flat_map}
use Rattle.std.specs.Option.{option_map_or}
use Rattle.std.proofs.lemmas.Option.{slice_get-map}
use Rattle.circus_value.specs.ValueTree.{ValueTree}
use Rattle.circus_value.specs.declared.outcome.Outcome.{Outcome}
use Rattle.circus_segment.specs.Segment.{reading}
use Rattle.circus_collate.specs.declared.deployment.Deployment.{Deployment}
use Rattle.circus_model.specs.NextTurn.{NextTurn}
use Rattle.circus_model.specs.Behaviour.{Behaviour}
use Rattle.circus_model.specs.declared.signature.Signature.{Signature}
use Rattle.circus_performing.specs.Record.{behaviour}
use Rattle.circus_ring.specs.RingTable.{boot_views}
use Rattle.circus_wire.specs.declared.delivery.Heard.{Heard}
use Rattle.circus_wire.specs.declared.delivery.Heard.TheVariants.{Dropped, Taken, Called, Returned}
use Rattle.circus_wire.specs.Wire.{heard_from}
use Rattle.circus_wire.specs.WireActs.{WireActs, begun}
use Rattle.circus_member_rules.specs.declared.occurrence.Occurrence.{Occurrence}
use Rattle.circus_member_rules.specs.declared.occurrence.Occurrence.TheVariants as occurs
use Rattle.circus_member_rules.specs.declared.occurrence.Purpose.{Purpose}
use Rattle.circus_member_rules.specs.declared.occurrence.Purpose.TheVariants as for
use Rattle.circus_member_rules.specs.MemberState.{MemberState, Doing}
use Rattle.circus_node.specs.Accepting.{occurrence_of_heard}
use Rattle.circus_node.specs.declared.event.Event.{Event}
use Rattle.circus_node.specs.declared.event.Event.TheVariants as comes
use Rattle.circus_node.specs.Booting.{home_of, made_at_boot, fresh_wire}
use Rattle.circus_node.specs.Making as making
use Rattle.circus_node.specs.NodeState.{Acting, member, ringmaster, NodeState}
use Rattle.circus_schedule.specs.declared.line.Line.{Line}
use Rattle.circus_schedule.specs.declared.line.Line.TheVariants.{Deliver, Tick, Crash, Down, Join}
use Rattle.circus_node.specs.Alike.{declared_of, turn_of, first_of, member_as, acting_as, node_as}
use Rattle.circus_node.proofs.MembersAlike.{stepped_as, booted_as}
use Rattle.circus_world.specs.Sent.{Sent}
use Rattle.circus_world.specs.WorldState.{WorldState, Standing}
use Rattle.circus_world.specs.Alike.{standing_as, world_as, step_as}
use Rattle.circus_world.specs.Course.{Stepped, step_line}
use Rattle.circus_world.proofs.WorldsAlike.{world_stepped_as}
use Rattle.circus_world_theory.specs.Histories.{delivery, comes_by, with_others, with_step, with_line, with_lines, acts_of}
use Rattle.circus_world_theory.specs.NodeActs.{with_all, came_by, handed_by, wire_behind, acts_in, acts_at_boot}
use Rattle.circus_node.specs.Trace.{effects_in}

module _ {M : Type 0} (declared : M → Signature) (turn : M → List ValueTree → ℕ → List ValueTree → List Outcome → NextTurn) (first : M → List ValueTree) where
  abbrev seen : WorldState M → WorldState Behaviour
  seen w = world_as declared turn first w

  abbrev one : Standing M → Standing Behaviour
  one s = standing_as declared turn first s

  -- ---- a node

  pub accepted_as : (d : Deployment) (s : Signature) (m : MemberState M) (from : ℕ) (h : Heard Purpose)
      → occurrence_of_heard d s (member_as declared turn first m) from h ≡ occurrence_of_heard d s m from h
  accepted_as d s m from Dropped = refl
  accepted_as d s m from Taken = refl
  accepted_as d s m from (Called sender message) = refl
  accepted_as d s m from (Returned number (for.Ask name server) message) = refl
  accepted_as d s m from (Returned number (for.Ring request) message) = refl
  accepted_as d s m from (Returned number for.Fetch message) = refl

  -- what a member makes by what happens to it
  happening_as : (at : ℕ) (m : MemberState M) (o : Occurrence)
      → (making.happens declared_of turn_of at (member_as declared turn first m) o).came.effects
      ≡ (making.happens declared turn at m o).came.effects
  happening_as at m o = ap (λ (d : Doing Behaviour). d.effects) (sym (stepped_as declared turn first at o m))

  arriving_as : (d : Deployment) (at from : ℕ) (heard : Heard Purpose) (a : Acting M)
      → (making.arrives declared_of turn_of d at from heard (acting_as declared turn first a)).came.effects
      ≡ (making.arrives declared turn d at from heard a).came.effects
  arriving_as d at from heard (ringmaster kept) = refl
  arriving_as d at from heard (member m) =
      ap
      (λ o. (option_map_or (making.happens declared_of turn_of at (member_as declared turn first m)) o
      (making.refuse (member (member_as declared turn first m)))).came.effects)
      (accepted_as d (declared m.performing.hosted) m from heard)
      ∙ by_option (occurrence_of_heard d (declared m.performing.hosted) m from heard)
    where
      by_option : (o : Option Occurrence)
          → (option_map_or (making.happens declared_of turn_of at (member_as declared turn first m)) o
          (making.refuse (member (member_as declared turn first m)))).came.effects
          ≡ (option_map_or (making.happens declared turn at m) o (making.refuse (member m))).came.effects
      by_option None = refl
      by_option (Some o) = happening_as at m o

  hearing_as : (d : Deployment) (at from : ℕ) (heard : Heard Purpose) (a : Acting M)
      → (making.hears declared_of turn_of d at from heard (acting_as declared turn first a)).came.effects
      ≡ (making.hears declared turn d at from heard a).came.effects
  hearing_as d at from Dropped a = refl
  hearing_as d at from Taken a = refl
  hearing_as d at from (Called sender message) a = arriving_as d at from (Called sender message) a
  hearing_as d at from (Returned number purpose message) a = arriving_as d at from (Returned number purpose message) a

  effects_as : (at : ℕ) (event : Event) (n : NodeState M)
      → effects_in declared_of turn_of at event (node_as declared turn first n) ≡ effects_in declared turn at event n
  effects_as at event n = by_event event n.acting
    where
      by_event : (e : Event) (a : Acting M)
          → effects_in declared_of turn_of at e (record (node_as declared turn first n) { acting = acting_as declared turn first a })
          ≡ effects_in declared turn at e (record n { acting = a })
      by_event (comes.Datagram from bytes) a = hearing_as n.deployment at from (heard_from n.wire from (reading bytes)) a
      by_event comes.Tick a = refl
      by_event (comes.Down node) (member m) = happening_as at m (occurs.Declared node)
      by_event (comes.Down node) (ringmaster kept) = refl
      by_event comes.Join (member m) = happening_as at m occurs.Joins
      by_event comes.Join (ringmaster kept) = refl

  wire_as : (event : Event) (n : NodeState M) → wire_behind event (node_as declared turn first n) ≡ wire_behind event n
  wire_as (comes.Datagram from bytes) n = refl
  wire_as comes.Tick n = refl
  wire_as (comes.Down node) n = refl
  wire_as comes.Join n = refl

  acts_in_as : (at : ℕ) (event : Event) (n : NodeState M)
      → acts_in declared_of turn_of at event (node_as declared turn first n) ≡ acts_in declared turn at event n
  acts_in_as at event n = λ i. came_by event ++ flat_map (handed_by (wire_as event n i)) (effects_as at event n i)

  -- ---- at boot

  at_boot_as : (d : Deployment) (hosted : Option M) (node : ℕ)
      → acts_at_boot declared_of turn_of first_of d (option_map (behaviour declared turn first) hosted) node
      ≡ acts_at_boot declared turn first d hosted node
  at_boot_as d hosted node = ap (flat_map (handed_by (fresh_wire d node))) (by_home (home_of d node) hosted)
    where
      by_home : (home : Option _) (own : Option M)
          → (made_at_boot declared_of turn_of first_of d home (option_map (behaviour declared turn first) own)).came.effects
          ≡ (made_at_boot declared turn first d home own).came.effects
      by_home None own = refl
      by_home (Some home) None = refl
      by_home (Some home) (Some own) =
          ap (λ (made : Doing Behaviour). made.effects)
          (sym (booted_as declared turn first home.place (boot_views d.troupes) home.beginning own))

  -- ---- a line

  pub by_place : {X : Type 0} (given : Standing Behaviour → X) (none : X) (w : WorldState M) (place : ℕ)
      → option_map_or given (slice_get (seen w).nodes place) none ≡ option_map_or (λ (s : Standing M). given (one s)) (slice_get w.nodes place) none
  by_place given none w place =
      ap (λ (o : Option (Standing Behaviour)). option_map_or given o none) (slice_get-map one w.nodes place)
      ∙ of_option (slice_get w.nodes place)
    where
      of_option : (o : Option (Standing M)) → option_map_or given (option_map one o) none ≡ option_map_or (λ (s : Standing M). given (one s)) o none
      of_option None = refl
      of_option (Some s) = refl

  pub comes_as : (line : Line) (w : WorldState M) → comes_by line (seen w) ≡ comes_by line w
  comes_as (Deliver number) w = of_sent (slice_get w.sent number)
    where
      of_sent : (o : Option Sent) → option_and_then (delivery (seen w)) o ≡ option_and_then (delivery w) o
      of_sent None = refl
      of_sent (Some sent) =
          ap (λ b. if b then Some (sent.to, comes.Datagram sent.from sent.bytes) else None)
          (by_place (λ s. is_none s.crashed) false w sent.to)
  comes_as (Tick node) w = refl
  comes_as (Crash node) w = refl
  comes_as (Down node told) w = refl
  comes_as (Join node) w = refl

  module _ (node : ℕ) where
    step_as_seen : (acts : WireActs Purpose) (w : WorldState M) (came : ℕ × Event)
        → with_step declared_of turn_of node acts (seen w) came ≡ with_step declared turn node acts w came
    step_as_seen acts w came =
        ap (λ q. if came.0 == node then q else acts)
        (by_place (λ s. with_all acts (acts_in declared_of turn_of (w.steps + 1) came.1 s.node)) acts w node
        ∙ of_option (slice_get w.nodes node))
      where
        of_option : (o : Option (Standing M))
            → option_map_or (λ (s : Standing M). with_all acts (acts_in declared_of turn_of (w.steps + 1) came.1 (one s).node)) o acts
            ≡ option_map_or (λ (s : Standing M). with_all acts (acts_in declared turn (w.steps + 1) came.1 s.node)) o acts
        of_option None = refl
        of_option (Some s) = ap (with_all acts) (acts_in_as (w.steps + 1) came.1 s.node)

    line_as : (acts : WireActs Purpose) (line : Line) (w : WorldState M)
        → with_line declared_of turn_of node acts line (seen w) ≡ with_line declared turn node acts line w
    line_as acts line w = ap (λ o. option_map_or (with_step declared_of turn_of node acts (seen w)) o acts) (comes_as line w) ∙ of_option (comes_by line w)
      where
        of_option : (o : Option (ℕ × Event)) → option_map_or (with_step declared_of turn_of node acts (seen w)) o acts
            ≡ option_map_or (with_step declared turn node acts w) o acts
        of_option None = refl
        of_option (Some came) = step_as_seen acts w came

    -- ---- lines

    lines_as : (acts : WireActs Purpose) (lines : List Line) (w : WorldState M)
        → with_lines declared_of turn_of node acts lines (seen w) ≡ with_lines declared turn node acts lines w
    lines_as acts [] w = refl
    lines_as acts (line ∷ lines) w =
        ap (λ q. with_others (with_lines declared_of turn_of node q lines) acts (step_line declared_of turn_of line (seen w))) (line_as acts line w)
        ∙ ap (with_others (with_lines declared_of turn_of node behind lines) acts) (sym (world_stepped_as declared turn first line w))
        ∙ of_step (λ next. lines_as behind lines next) (step_line declared turn line w)
      where
        behind : WireActs Purpose
        behind = with_line declared turn node acts line w

        of_step : ((next : WorldState M) → with_lines declared_of turn_of node behind lines (seen next) ≡ with_lines declared turn node behind lines next)
            → (s : Stepped M) → with_others (with_lines declared_of turn_of node behind lines) acts (step_as declared turn first s)
            ≡ with_others (with_lines declared turn node behind lines) acts s
        of_step rest (Ok next) = rest next
        of_step rest (Err spent) = refl

    own_as : (o : Option (Option M)) → option_and_then (λ own. own) (option_map (option_map (behaviour declared turn first)) o)
        ≡ option_map (behaviour declared turn first) (option_and_then (λ own. own) o)
    own_as None = refl
    own_as (Some own) = refl

    pub acts_as : (d : Deployment) (hosted : List (Option M)) (lines : List Line) (w : WorldState M)
        → acts_of declared_of turn_of first_of d (map (option_map (behaviour declared turn first)) hosted) lines (seen w) node
        ≡ acts_of declared turn first d hosted lines w node
    acts_as d hosted lines w =
        ap (λ acts. with_lines declared_of turn_of node (with_all begun acts) lines (seen w))
        (ap (λ own. acts_at_boot declared_of turn_of first_of d own node)
        (ap (option_and_then (λ own. own)) (slice_get-map (option_map (behaviour declared turn first)) hosted node)
        ∙ own_as (slice_get hosted node))
        ∙ at_boot_as d (option_and_then (λ own. own) (slice_get hosted node)) node)
        ∙ lines_as (with_all begun (acts_at_boot declared turn first d (option_and_then (λ own. own) (slice_get hosted node)) node)) lines w
