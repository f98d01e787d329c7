-- What the lines of a sample of a plan come to.
use Rattle.std.proofs.Common.{◌≡◌, ℕ, List, [], All, Result, Ok, Err, IfOk, sym, ap, subst, ◌∙◌}
use Rattle.circus_value.specs.ValueTree.{ValueTree}
use Rattle.circus_value.specs.declared.outcome.Outcome.{Outcome}
use Rattle.circus_collate.specs.declared.deployment.Host.{Host}
use Rattle.circus_model.specs.NextTurn.{NextTurn}
use Rattle.circus_model.specs.declared.signature.Signature.{Signature}
use Rattle.circus_record.specs.Naming.{names_of}
use Rattle.circus_schedule.specs.declared.line.Line.{Line}
use Rattle.circus_schedule.specs.ScheduleText.{IsShort}
use Rattle.circus_world.specs.WorldState.{WorldState}
use Rattle.circus_world.specs.Alike.{world_as, step_as}
use Rattle.circus_simulation.specs.Sampled.{lines_behind, sample_lines, lines_drawn}
use Rattle.circus_simulation.proofs.SamplesAlike.{sampled_as, lines_drawn_as}
use Rattle.circus_config.specs.declared.plan.Plan.{Plan}
use Rattle.circus_commands.specs.declared.ending.Ending as coded
use Rattle.circus_commands.specs.declared.status.Status.TheVariants.{Done, Spent}
use Rattle.circus_commands.specs.Spent.{end_of_spent}
use Rattle.circus_simulation.specs.Booted.{boot_world, names_in, after_step}
use Rattle.circus_simulation.specs.Schedule.{lines_in, lines_of_sample, end_of_drawing, schedule_in, schedule_of}
use Rattle.circus_simulation.specs.declared.simulated.Simulated.{Simulated}
use Rattle.circus_simulation.specs.Seen.Simulated.{world_of, IsOfPlan}

-- ---- by what modules do

module _ {M : Type 0} (declared : M → Signature) (turn : M → List ValueTree → ℕ → List ValueTree → List Outcome → NextTurn) (first : M → List ValueTree) where
  -- the lines that the code has
  pub lines_as : (seed steps : ℕ) (w : WorldState M) (lines : List Line) → lines ≡ lines_drawn declared turn steps seed w
      → lines ≡ lines_in seed steps (world_as declared turn first w)
  lines_as seed steps w lines is = is ∙ sym (lines_drawn_as declared turn first steps seed w)

  -- what comes of them where all were stepped
  pub lines_to_end : (hosts : List Host) (modules : List (List ℕ)) (seed steps : ℕ) (w last : WorldState M) (lines : List Line)
      → lines ≡ lines_drawn declared turn steps seed w → sample_lines declared turn steps seed w ≡ Ok last
      → end_of_drawing (names_of hosts []) lines ≡ schedule_in (names_of hosts modules) seed steps (world_as declared turn first w)
  lines_to_end hosts modules seed steps w last lines is all =
      let names = names_of hosts modules in
      let seen = world_as declared turn first w in
      ap (end_of_drawing names) (lines_as seed steps w lines is)
      ∙ ap (after_step names (λ after. end_of_drawing names (lines_in seed steps seen)))
      (sym (ap (step_as declared turn first) all) ∙ sampled_as declared turn first steps seed w)

  -- and where a node has no number left
  pub lines_to_spent : (hosts : List Host) (modules : List (List ℕ)) (seed steps : ℕ) (w : WorldState M) (nodes : ℕ × ℕ)
      → sample_lines declared turn steps seed w ≡ Err nodes
      → end_of_spent (names_of hosts []) nodes ≡ schedule_in (names_of hosts modules) seed steps (world_as declared turn first w)
  lines_to_spent hosts modules seed steps w nodes is =
      let names = names_of hosts modules in
      let seen = world_as declared turn first w in
      ap (after_step names (λ after. end_of_drawing names (lines_in seed steps seen)))
      (sym (ap (step_as declared turn first) is) ∙ sampled_as declared turn first steps seed w)

-- ---- of a plan

pub schedule_booted : (plan : Plan) (s : Simulated) (seed steps : ℕ) → IsOfPlan plan s → boot_world plan ≡ Ok (world_of s.world)
    → schedule_in (names_of s.hosts s.names) seed steps (world_of s.world) ≡ schedule_of plan seed steps
schedule_booted plan s seed steps of is =
    (λ i. schedule_in (names_of (of.hosts i) (of.names i)) seed steps (world_of s.world)) ∙ ap (after_step (names_in plan) (schedule_in (names_in plan) seed steps)) (sym is)

pub lines_booted : (plan : Plan) (s : Simulated) (seed steps : ℕ) → boot_world plan ≡ Ok (world_of s.world)
    → lines_in seed steps (world_of s.world) ≡ lines_of_sample plan seed steps
lines_booted plan s seed steps is = ap (lines_behind (lines_in seed steps)) (sym is)

-- ---- of an end that is done

pub short_as : {E : Type 0} (r : Result coded.Ending E) (lines other : List Line) → lines ≡ other → IfOk r (λ _. All IsShort lines)
    → IfOk r (λ ending. ending.status ≡ Done → All IsShort other)
short_as (Ok ending) lines other same short = λ done. subst (All IsShort) same short
short_as (Err e) lines other same short = tt

pub spent_not_done : {E : Type 0} (P : Type 0) (r : Result coded.Ending E) → IfOk r (λ ending. ending.status ≡ Spent) → IfOk r (λ ending. ending.status ≡ Done → P)
spent_not_done P (Ok ending) out = λ done. absurd (let clash : Spent ≡ Done = sym out ∙ done in cc)
spent_not_done P (Err e) out = tt
