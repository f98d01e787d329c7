-- What a sample of a plan comes to.
use Rattle.std.proofs.Common.{◌≡◌, ℕ, zero, suc, ◌+◌, List, [], ◌∷◌, ◌++◌, length, Ok, Err, refl, sym, ap, subst, ◌∙◌}
use Rattle.std.specs.Prelude.{codes}
use Rattle.std.specs.Option.{option_map_or}
use Rattle.std.specs.Fmt.{decimal}
use Rattle.circus_value.specs.ValueTree.{ValueTree}
use Rattle.circus_value.specs.declared.outcome.Outcome.{Outcome}
use Rattle.circus_collate.specs.declared.deployment.Deployment.{Deployment}
use Rattle.circus_collate.specs.declared.deployment.Host.{Host}
use Rattle.circus_model.specs.NextTurn.{NextTurn}
use Rattle.circus_model.specs.declared.signature.Signature.{Signature}
use Rattle.circus_record.specs.Line as text
use Rattle.circus_record.specs.Naming.{names_of}
use Rattle.circus_node.specs.NodeState.{member_record}
use Rattle.circus_schedule.specs.Sampling.{word_behind, line_drawn}
use Rattle.circus_world.specs.WorldState.{WorldState, Standing}
use Rattle.circus_world.specs.Course.{Stepped, step_line}
use Rattle.circus_world.specs.Boot.{then_others}
use Rattle.circus_world.specs.Alike.{world_as, step_as}
use Rattle.circus_simulation.specs.Sampled.{facts_of, sample_lines}
use Rattle.circus_simulation.specs.Summary.{count_line, count_lines, summary}
use Rattle.circus_simulation.proofs.SamplesAlike.{sampled_as, summary_as}
use Rattle.circus_config.specs.declared.plan.Plan.{Plan}
use Rattle.circus_commands.specs.declared.status.Status.TheVariants.{Done}
use Rattle.circus_commands.specs.Ending.{Ending}
use Rattle.circus_commands.specs.Spent.{end_of_spent}
use Rattle.circus_simulation.specs.Booted.{boot_world, names_in, after_step}
use Rattle.circus_simulation.specs.declared.simulated.Simulated.{Simulated}
use Rattle.circus_simulation.specs.Sample.{end_of_summary, sample_in, sample_of}
use Rattle.circus_simulation.specs.Seen.Simulated.{world_of, IsOfPlan}
use Rattle.circus_simulation.proofs.SteppingLines.{KeepsIfOk, line_keeps}

-- ---- the world that is left

module _ {M : Type 0} where
  -- of the deployment that it began with
  abbrev SameDeployment : WorldState M → Stepped M → Type 0
  SameDeployment w (Ok last) = last.deployment ≡ w.deployment
  SameDeployment w (Err nodes) = Unit {0}

  then_same : (w : WorldState M) (others : WorldState M → Stepped M) (s : Stepped M) → ((next : WorldState M) → SameDeployment next (others next)) → KeepsIfOk w s → SameDeployment w (then_others others s)
  then_same w others (Ok next) each keeps = behind (others next) (each next)
    where
      behind : (s : Stepped M) → SameDeployment next s → SameDeployment w s
      behind (Ok last) same = same ∙ keeps.deployment
      behind (Err nodes) same = tt
  then_same w others (Err nodes) each keeps = tt

module _ {M : Type 0} (declared : M → Signature) (turn : M → List ValueTree → ℕ → List ValueTree → List Outcome → NextTurn) where
  same_deployment : (steps word : ℕ) (w : WorldState M) → SameDeployment w (sample_lines declared turn steps word w)
  same_deployment zero word w = refl
  same_deployment (suc left) word w =
      then_same w (sample_lines declared turn left (word_behind word)) (step_line declared turn (line_drawn (word_behind word) (facts_of w)) w) (same_deployment left (word_behind word))
      (line_keeps declared turn (line_drawn (word_behind word) (facts_of w)) w)

  pub sampled_deployment : (steps word : ℕ) (w last : WorldState M) → sample_lines declared turn steps word w ≡ Ok last → last.deployment ≡ w.deployment
  sampled_deployment steps word w last is = subst (SameDeployment w) is (same_deployment steps word w)

-- ---- its summary names nodes alone

module _ {M : Type 0} where
  counts_named : (hosts : List Host) (modules : List (List ℕ)) (node : ℕ) (nodes : List (Standing M)) → count_lines (names_of hosts []) node nodes ≡ count_lines (names_of hosts modules) node nodes
  counts_named hosts modules node [] = refl
  counts_named hosts modules node (s ∷ nodes) =
      ap (λ l. option_map_or (count_line (names_of hosts modules) node) (member_record s.node.acting) [] ++ l) (counts_named hosts modules (node + 1) nodes)

  pub summary_named : (hosts : List Host) (modules : List (List ℕ)) (steps : ℕ) (w : WorldState M) → summary (names_of hosts []) steps w ≡ summary (names_of hosts modules) steps w
  summary_named hosts modules steps w =
      ap (λ l. text.line (codes "circus sample 1") ++ text.line (codes "lines " ++ decimal steps) ++ text.line (codes "sent " ++ decimal (length w.sent)) ++ l) (counts_named hosts modules 0 w.nodes)

-- ---- by what modules do

module _ {M : Type 0} (declared : M → Signature) (turn : M → List ValueTree → ℕ → List ValueTree → List Outcome → NextTurn) (first : M → List ValueTree) where
  -- what comes of a sample that is drawn to its end
  pub drawn_to_end : (hosts : List Host) (modules : List (List ℕ)) (seed steps : ℕ) (w last : WorldState M) (text : List ℕ)
      → sample_lines declared turn steps seed w ≡ Ok last → w.deployment.nodes ≡ hosts → text ≡ summary (names_of last.deployment.nodes []) steps last
      → ◌≡◌ {A = Ending} (record { status = Done; text = text }) (sample_in (names_of hosts modules) seed steps (world_as declared turn first w))
  drawn_to_end hosts modules seed steps w last text is deployed shown =
      let done : List ℕ → Ending = λ written. record { status = Done; text = written } in
      let names = names_of hosts modules in
      let nodes : last.deployment.nodes ≡ hosts = ap (λ (d : Deployment). d.nodes) (sampled_deployment declared turn steps seed w last is) ∙ deployed in
      ap done (shown ∙ ap (λ (hs : List Host). summary (names_of hs []) steps last) nodes ∙ summary_named hosts modules steps last ∙ sym (summary_as declared turn first names steps last))
      ∙ ap (after_step names (end_of_summary names steps)) (sym (ap (step_as declared turn first) is) ∙ sampled_as declared turn first steps seed w)

  -- and of one that isn't
  pub drawn_to_spent : (hosts : List Host) (modules : List (List ℕ)) (seed steps : ℕ) (w : WorldState M) (nodes : ℕ × ℕ)
      → sample_lines declared turn steps seed w ≡ Err nodes → end_of_spent (names_of hosts []) nodes ≡ sample_in (names_of hosts modules) seed steps (world_as declared turn first w)
  drawn_to_spent hosts modules seed steps w nodes is =
      let names = names_of hosts modules in
      ap (after_step names (end_of_summary names steps)) (sym (ap (step_as declared turn first) is) ∙ sampled_as declared turn first steps seed w)

-- ---- of a plan

pub sample_booted : (plan : Plan) (s : Simulated) (seed steps : ℕ) → IsOfPlan plan s → boot_world plan ≡ Ok (world_of s.world)
    → sample_in (names_of s.hosts s.names) seed steps (world_of s.world) ≡ sample_of plan seed steps
sample_booted plan s seed steps of is =
    (λ i. sample_in (names_of (of.hosts i) (of.names i)) seed steps (world_of s.world)) ∙ ap (after_step (names_in plan) (sample_in (names_in plan) seed steps)) (sym is)
