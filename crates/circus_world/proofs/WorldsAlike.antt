-- A world takes the same steps with the behaviours of its modules.
use Rattle.std.proofs.Common.{◌≡◌, ℕ, zero, suc, ◌+◌, Bool, true, false, List, [], ◌∷◌, ◌++◌, length, map, Option, None, Some, Ok, Err, refl, sym, ◌∙◌, ap}
use Rattle.std.specs.Prelude.{is_none, is_some, if◌then◌else◌, slice_get, slice_set, option_map}
use Rattle.std.specs.Option.{option_map_or}
use Rattle.std.proofs.lemmas.List.{map-append, length-map}
use Rattle.std.proofs.lemmas.Option.{slice_get-map}
use Rattle.circus_value.specs.ValueTree.{ValueTree}
use Rattle.circus_value.specs.declared.outcome.Outcome.{Outcome}
use Rattle.circus_model.specs.NextTurn.{NextTurn}
use Rattle.circus_model.specs.Behaviour.{Behaviour}
use Rattle.circus_model.specs.declared.signature.Signature.{Signature}
use Rattle.circus_performing.specs.Record.{behaviour}
use Rattle.circus_node.specs.declared.event.Event.{Event}
use Rattle.circus_node.specs.declared.event.Event.TheVariants as comes
use Rattle.circus_node.specs.Booting as booting
use Rattle.circus_node.specs.Step as node_step
use Rattle.circus_schedule.specs.declared.line.Line.{Line}
use Rattle.circus_schedule.specs.declared.line.Line.TheVariants.{Deliver, Tick, Crash, Down, Join}
use Rattle.circus_node.specs.Alike.{declared_of, turn_of, first_of, ended_as}
use Rattle.circus_node.proofs.NodesAlike.{node_stepped_as, node_booted_as}
use Rattle.circus_world.specs.Sent.{Sent}
use Rattle.circus_world.specs.declared.cause.LineCause.TheVariants as cause
use Rattle.circus_world.specs.WorldState.{WorldState, Standing, is_live, has_crashed, has_joined}
use Rattle.circus_world.specs.Legal.{refusal, unless_live, is_spare}
use Rattle.circus_world.specs.Course as course
use Rattle.circus_world.specs.Course.{Stepped}
use Rattle.circus_world.specs.Boot.{joined_by, then_others, all_booted}
use Rattle.circus_world.specs.Alike.{standing_as, world_as, step_as}

-- an item is changed, and then each is replaced
set_map : {X Y : Type 0} (f : X → Y) (xs : List X) (place : ℕ) (x : X) → map f (slice_set xs place x) ≡ slice_set (map f xs) place (f x)
set_map f [] place x = refl
set_map f (y ∷ ys) zero x = refl
set_map f (y ∷ ys) (suc place) x = ap (λ l. f y ∷ l) (set_map f ys place x)

module _ {M : Type 0} (declared : M → Signature) (turn : M → List ValueTree → ℕ → List ValueTree → List Outcome → NextTurn) (first : M → List ValueTree) where
  abbrev one : Standing M → Standing Behaviour
  one s = standing_as declared turn first s

  abbrev seen : WorldState M → WorldState Behaviour
  seen w = world_as declared turn first w

  -- what is seen of a node that is there
  by_node : {X : Type 0} (f : Standing Behaviour → X) (none : X) (w : WorldState M) (node : ℕ)
      → option_map_or f (slice_get (map one w.nodes) node) none ≡ option_map_or (λ s. f (one s)) (slice_get w.nodes node) none
  by_node f none w node = ap (λ o. option_map_or f o none) (slice_get-map one w.nodes node) ∙ of_option (slice_get w.nodes node)
    where
      of_option : (o : Option (Standing M)) → option_map_or f (option_map one o) none ≡ option_map_or (λ s. f (one s)) o none
      of_option None = refl
      of_option (Some s) = refl

  live_as : (w : WorldState M) (node : ℕ) → is_live (seen w) node ≡ is_live w node
  live_as w node = by_node (λ s. is_none s.crashed) false w node

  crashed_as : (w : WorldState M) (node : ℕ) → has_crashed (seen w) node ≡ has_crashed w node
  crashed_as w node = by_node (λ s. is_some s.crashed) false w node

  joined_as : (w : WorldState M) (node : ℕ) → has_joined (seen w) node ≡ has_joined w node
  joined_as w node = by_node (λ s. s.joins) false w node

  -- ---- which lines may be stepped

  unless_live_as : (w : WorldState M) (node : ℕ) → unless_live (seen w) node ≡ unless_live w node
  unless_live_as w node = ap (λ b. if b then None else Some (cause.NotLive node)) (live_as w node)

  pub refusal_as : (line : Line) (w : WorldState M) → refusal (seen w) line ≡ refusal w line
  refusal_as (Deliver number) w = refl
  refusal_as (Tick node) w = unless_live_as w node
  refusal_as (Crash node) w = unless_live_as w node
  refusal_as (Down node told) w =
      (λ i. if crashed_as w node i then unless_live_as w told i else Some (cause.NotCrashed node))
  refusal_as (Join node) w =
      (λ i. if is_spare w.deployment node
      then (if live_as w node i then (if joined_as w node i then Some (cause.AlreadyJoined node) else None) else Some (cause.NotLive node))
      else Some (cause.NotSpare node))

  -- ---- steps

  concluded_as : (node : ℕ) (s : Standing M) (w : WorldState M) (end : node_step.Ended M)
      → step_as declared turn first (course.conclude_step node s w end) ≡ course.conclude_step node (one s) (seen w) (ended_as declared turn first end)
  concluded_as node s w (Ok ended) =
      let whole : List (Standing Behaviour) → Stepped Behaviour = λ nodes.
      Ok (record (seen w) { nodes = nodes; sent = w.sent ++ map (course.sent_by (w.steps + 1) node) ended.1.gives; steps = w.steps + 1 }) in
      ap whole (set_map one w.nodes node (record s { node = ended.0 }))
  concluded_as node s w (Err peer) = refl

  comes_to_as : (node : ℕ) (event : Event) (w : WorldState M)
      → step_as declared turn first (course.comes_to declared turn node event w) ≡ course.comes_to declared_of turn_of node event (seen w)
  comes_to_as node event w =
      of_option (slice_get w.nodes node)
      ∙ sym (by_node (λ s. course.conclude_step node s (seen w) (node_step.step_node declared_of turn_of (w.steps + 1) event s.node)) (Ok (seen w)) w node)
    where
      of_option : (o : Option (Standing M))
          → step_as declared turn first (option_map_or (λ s. course.conclude_step node s w (node_step.step_node declared turn (w.steps + 1) event s.node)) o (Ok w))
          ≡ option_map_or (λ s. course.conclude_step node (one s) (seen w) (node_step.step_node declared_of turn_of (w.steps + 1) event (one s).node)) o (Ok (seen w))
      of_option None = refl
      of_option (Some s) =
          concluded_as node s w (node_step.step_node declared turn (w.steps + 1) event s.node)
          ∙ ap (course.conclude_step node (one s) (seen w)) (node_stepped_as declared turn first (w.steps + 1) event s.node)

  delivered_as : (sent : Sent) (w : WorldState M) → step_as declared turn first (course.deliver_sent declared turn sent w) ≡ course.deliver_sent declared_of turn_of sent (seen w)
  delivered_as sent w =
      by_test (is_live w sent.to)
      ∙ sym (ap (λ b. if b then course.comes_to declared_of turn_of sent.to (comes.Datagram sent.from sent.bytes) (seen w) else Ok (course.pass_step (seen w))) (live_as w sent.to))
    where
      by_test : (b : Bool)
          → step_as declared turn first (if b then course.comes_to declared turn sent.to (comes.Datagram sent.from sent.bytes) w else Ok (course.pass_step w))
          ≡ (if b then course.comes_to declared_of turn_of sent.to (comes.Datagram sent.from sent.bytes) (seen w) else Ok (course.pass_step (seen w)))
      by_test true = comes_to_as sent.to (comes.Datagram sent.from sent.bytes) w
      by_test false = refl

  -- something is noted of a node
  noted_as : (note : Standing M → Standing M) (also : Standing Behaviour → Standing Behaviour) → ((s : Standing M) → one (note s) ≡ also (one s))
      → (node : ℕ) (w : WorldState M) → seen (course.note_at note node w) ≡ course.note_at also node (seen w)
  noted_as note also same node w =
      let whole : List (Standing Behaviour) → WorldState Behaviour = λ nodes. record (seen w) { nodes = nodes } in
      ap whole (of_option (slice_get w.nodes node) ∙ sym (by_node (λ s. slice_set (map one w.nodes) node (also s)) (map one w.nodes) w node))
    where
      of_option : (o : Option (Standing M))
          → map one (option_map_or (λ s. slice_set w.nodes node (note s)) o w.nodes) ≡ option_map_or (λ s. slice_set (map one w.nodes) node (also (one s))) o (map one w.nodes)
      of_option None = refl
      of_option (Some s) = set_map one w.nodes node (note s) ∙ ap (slice_set (map one w.nodes) node) (same s)

  pub world_stepped_as : (line : Line) (w : WorldState M)
      → step_as declared turn first (course.step_line declared turn line w) ≡ course.step_line declared_of turn_of line (seen w)
  world_stepped_as (Deliver number) w = of_option (slice_get w.sent number)
    where
      of_option : (o : Option Sent) → step_as declared turn first (option_map_or (λ sent. course.deliver_sent declared turn sent w) o (Ok w))
          ≡ option_map_or (λ sent. course.deliver_sent declared_of turn_of sent (seen w)) o (Ok (seen w))
      of_option None = refl
      of_option (Some sent) = delivered_as sent w
  world_stepped_as (Tick node) w = comes_to_as node comes.Tick w
  world_stepped_as (Crash node) w =
      ap (λ (x : WorldState Behaviour). Ok (course.pass_step x))
      (noted_as (λ s. record s { crashed = Some (w.steps + 1) }) (λ s. record s { crashed = Some (w.steps + 1) }) (λ s. refl) node w)
  world_stepped_as (Down node told) w = comes_to_as told (comes.Down node) w
  world_stepped_as (Join node) w =
      comes_to_as node comes.Join (course.told_to_join node w)
      ∙ ap (course.comes_to declared_of turn_of node comes.Join) (noted_as (λ s. record s { joins = true }) (λ s. record s { joins = true }) (λ s. refl) node w)

  -- ---- at boot

  joined_by_as : (w : WorldState M) (end : node_step.Ended M)
      → step_as declared turn first (joined_by w end) ≡ joined_by (seen w) (ended_as declared turn first end)
  joined_by_as w (Ok booted) =
      let whole : List (Standing Behaviour) → ℕ → Stepped Behaviour = λ nodes count.
      Ok (record (seen w) { nodes = nodes; sent = w.sent ++ map (course.sent_by 0 count) booted.1.gives }) in
      ap (λ nodes. whole nodes (length w.nodes)) (map-append one w.nodes (record { node = booted.0; crashed = None; joins = false } ∷ []))
      ∙ ap (whole (map one w.nodes ++ one (record { node = booted.0; crashed = None; joins = false }) ∷ [])) (sym (length-map w.nodes one))
  joined_by_as w (Err peer) = ap (λ count. Err (count, peer)) (sym (length-map w.nodes one))

  -- and then others
  then_others_as : (others : List (Option M))
      → ((w : WorldState M) → step_as declared turn first (all_booted declared turn first others w)
      ≡ all_booted declared_of turn_of first_of (map (option_map (behaviour declared turn first)) others) (seen w))
      → (s : Stepped M) → step_as declared turn first (then_others (all_booted declared turn first others) s)
      ≡ then_others (all_booted declared_of turn_of first_of (map (option_map (behaviour declared turn first)) others)) (step_as declared turn first s)
  then_others_as others same (Ok next) = same next
  then_others_as others same (Err spent) = refl

  pub all_booted_as : (hosted : List (Option M)) (w : WorldState M)
      → step_as declared turn first (all_booted declared turn first hosted w)
      ≡ all_booted declared_of turn_of first_of (map (option_map (behaviour declared turn first)) hosted) (seen w)
  all_booted_as [] w = refl
  all_booted_as (h ∷ others) w =
      let end = booting.boot_node declared turn first w.deployment h (length w.nodes) in
      let rest = map (option_map (behaviour declared turn first)) others in
      then_others_as others (all_booted_as others) (joined_by w end)
      ∙ ap (then_others (all_booted declared_of turn_of first_of rest)) (
      joined_by_as w end
      ∙ ap (joined_by (seen w)) (
      node_booted_as declared turn first w.deployment h (length w.nodes)
      ∙ ap (booting.boot_node declared_of turn_of first_of w.deployment (option_map (behaviour declared turn first) h)) (sym (length-map w.nodes one))))
