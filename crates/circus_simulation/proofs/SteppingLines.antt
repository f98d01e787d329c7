-- What steps and boots of a world keep: its deployment, its nodes' number, and how many lines were stepped.
use Rattle.std.proofs.Common.{◌≡◌, ℕ, ◌+◌, ◌≤◌, Bool, true, false, List, [], ◌∷◌, length, Option, None, Some, Ok, Err, refl, subst, ◌∙◌, arith, length-append, length-set}
use Rattle.std.specs.Prelude.{slice_get, if◌then◌else◌}
use Rattle.std.specs.Option.{option_map_or}
use Rattle.circus_value.specs.ValueTree.{ValueTree}
use Rattle.circus_value.specs.declared.outcome.Outcome.{Outcome}
use Rattle.circus_collate.specs.declared.deployment.Deployment.{Deployment}
use Rattle.circus_model.specs.NextTurn.{NextTurn}
use Rattle.circus_model.specs.declared.signature.Signature.{Signature}
use Rattle.circus_node.specs.declared.event.Event.{Event}
use Rattle.circus_node.specs.declared.event.Event.TheVariants as comes
use Rattle.circus_node.specs.Booting as booting
use Rattle.circus_node.specs.Step as node_step
use Rattle.circus_schedule.specs.declared.line.Line.{Line}
use Rattle.circus_schedule.specs.declared.line.Line.TheVariants.{Deliver, Tick, Crash, Down, Join}
use Rattle.circus_world.specs.Sent.{Sent}
use Rattle.circus_world.specs.WorldState.{WorldState, Standing, is_live}
use Rattle.circus_world.specs.Course.{Stepped, pass_step, note_at, told_to_join, conclude_step, comes_to, deliver_sent, step_line}
use Rattle.circus_world.specs.Boot.{before_any, joined_by, then_others, all_booted}
use Rattle.circus_world.proofs.SoundLemmas.{noted_length}

module _ {M : Type 0} where
  -- a step keeps these, and is at most one more
  pub record Keeps (w next : WorldState M) : Type 0 where
    pub deployment : next.deployment ≡ w.deployment
    pub nodes : length next.nodes ≡ length w.nodes
    pub steps : next.steps ≤ w.steps + 1

  -- if it was made
  abbrev pub KeepsIfOk : WorldState M → Stepped M → Type 0
  KeepsIfOk w (Ok next) = Keeps w next
  KeepsIfOk w (Err nodes) = Unit {0}

  passed_keeps : (w : WorldState M) → Keeps w (pass_step w)
  passed_keeps w = record { deployment = refl; nodes = refl; steps = omega arith }

  still : (w : WorldState M) → Keeps w w
  still w = record { deployment = refl; nodes = refl; steps = omega arith }

  concluded_keeps : (node : ℕ) (s : Standing M) (w : WorldState M) (end : node_step.Ended M) → KeepsIfOk w (conclude_step node s w end)
  concluded_keeps node s w (Ok ended) = record { deployment = refl; nodes = length-set w.nodes node (record s { node = ended.0 }); steps = omega arith }
  concluded_keeps node s w (Err peer) = tt

  -- a step behind a note
  noted_before : (note : Standing M → Standing M) (node : ℕ) (w : WorldState M) (s : Stepped M) → KeepsIfOk (note_at note node w) s → KeepsIfOk w s
  noted_before note node w (Ok next) keeps = record { deployment = keeps.deployment; nodes = keeps.nodes ∙ noted_length note node w; steps = keeps.steps }
  noted_before note node w (Err nodes) keeps = tt

  -- ---- at boot

  -- so many nodes have booted behind those of a world
  pub record HaveJoined (count : ℕ) (w next : WorldState M) : Type 0 where
    pub deployment : next.deployment ≡ w.deployment
    pub nodes : length next.nodes ≡ length w.nodes + count
    pub steps : next.steps ≡ w.steps

  -- if no number was lacking
  abbrev pub JoinIfOk : ℕ → WorldState M → Stepped M → Type 0
  JoinIfOk count w (Ok next) = HaveJoined count w next
  JoinIfOk count w (Err nodes) = Unit {0}

  joined_one : (w : WorldState M) (end : node_step.Ended M) → JoinIfOk 1 w (joined_by w end)
  joined_one w (Ok booted) =
      record { deployment = refl; nodes = length-append w.nodes (record { node = booted.0; crashed = None; joins = false } ∷ []); steps = refl }
  joined_one w (Err peer) = tt

  join_more : (count : ℕ) (w next : WorldState M) (s : Stepped M) → HaveJoined 1 w next → JoinIfOk count next s → JoinIfOk (count + 1) w s
  join_more count w next (Ok last) one more =
      record { deployment = more.deployment ∙ one.deployment; nodes = omega (arith, more.nodes, one.nodes); steps = more.steps ∙ one.steps }
  join_more count w next (Err nodes) one more = tt

module _ {M : Type 0} (declared : M → Signature) (turn : M → List ValueTree → ℕ → List ValueTree → List Outcome → NextTurn) where
  comes_keeps : (node : ℕ) (event : Event) (w : WorldState M) → KeepsIfOk w (comes_to declared turn node event w)
  comes_keeps node event w = by_option (slice_get w.nodes node)
    where
      by_option : (o : Option (Standing M)) → KeepsIfOk w (option_map_or (λ s. conclude_step node s w (node_step.step_node declared turn (w.steps + 1) event s.node)) o (Ok w))
      by_option None = still w
      by_option (Some s) = concluded_keeps node s w (node_step.step_node declared turn (w.steps + 1) event s.node)

  delivered_keeps : (sent : Sent) (w : WorldState M) → KeepsIfOk w (deliver_sent declared turn sent w)
  delivered_keeps sent w = by_test (is_live w sent.to)
    where
      by_test : (b : Bool) → KeepsIfOk w (if b then comes_to declared turn sent.to (comes.Datagram sent.from sent.bytes) w else Ok (pass_step w))
      by_test true = comes_keeps sent.to (comes.Datagram sent.from sent.bytes) w
      by_test false = passed_keeps w

  pub line_keeps : (line : Line) (w : WorldState M) → KeepsIfOk w (step_line declared turn line w)
  line_keeps (Deliver number) w = by_option (slice_get w.sent number)
    where
      by_option : (o : Option Sent) → KeepsIfOk w (option_map_or (λ sent. deliver_sent declared turn sent w) o (Ok w))
      by_option None = still w
      by_option (Some sent) = delivered_keeps sent w
  line_keeps (Tick node) w = comes_keeps node comes.Tick w
  line_keeps (Crash node) w = record { deployment = refl; nodes = noted_length (λ s. record s { crashed = Some (w.steps + 1) }) node w; steps = omega arith }
  line_keeps (Down node told) w = comes_keeps told (comes.Down node) w
  line_keeps (Join node) w =
      noted_before (λ s. record s { joins = true }) node w (comes_to declared turn node comes.Join (told_to_join node w)) (comes_keeps node comes.Join (told_to_join node w))

  pub stepped_keeps : (line : Line) (w next : WorldState M) → step_line declared turn line w ≡ Ok next → Keeps w next
  stepped_keeps line w next is = subst (KeepsIfOk w) is (line_keeps line w)

module _ {M : Type 0} (declared : M → Signature) (turn : M → List ValueTree → ℕ → List ValueTree → List Outcome → NextTurn) (first : M → List ValueTree) where
  all_join : (hosted : List (Option M)) (w : WorldState M) → JoinIfOk (length hosted) w (all_booted declared turn first hosted w)
  all_join [] w = record { deployment = refl; nodes = omega arith; steps = refl }
  all_join (h ∷ others) w =
      by_step (joined_by w (booting.boot_node declared turn first w.deployment h (length w.nodes))) (λ next. all_join others next) (joined_one w (booting.boot_node declared turn first w.deployment h (length w.nodes)))
    where
      by_step : (s : Stepped M) → ((next : WorldState M) → JoinIfOk (length others) next (all_booted declared turn first others next)) → JoinIfOk 1 w s
          → JoinIfOk (length (h ∷ others)) w (then_others (all_booted declared turn first others) s)
      by_step (Ok next) rest one =
          subst (λ k. JoinIfOk k w (all_booted declared turn first others next)) (omega arith)
          (join_more (length others) w next (all_booted declared turn first others next) one (rest next))
      by_step (Err nodes) rest one = tt

  pub booted_joins : (hosted : List (Option M)) (d : Deployment) (modules : List M) (w : WorldState M)
      → all_booted declared turn first hosted (before_any d modules) ≡ Ok w → HaveJoined (length hosted) (before_any d modules) w
  booted_joins hosted d modules w is = subst (JoinIfOk (length hosted) (before_any d modules)) is (all_join hosted (before_any d modules))
