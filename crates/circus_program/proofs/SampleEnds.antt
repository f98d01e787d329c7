-- How samples end, and their lines.
use Rattle.std.proofs.Common.{◌≡◌, ℕ, ◌⊎◌, inl, inr, refl, ap, ◌∙◌, Ok, Err}
use Rattle.circus_model.specs.Behaviour.{Behaviour}
use Rattle.circus_node.specs.Alike.{declared_of, turn_of}
use Rattle.circus_world.specs.WorldState.{WorldState}
use Rattle.circus_world.specs.Course.{Stepped}
use Rattle.circus_simulation.specs.Sampled.{sample_lines}
use Rattle.circus_config.specs.declared.plan.Plan.{Plan}
use Rattle.circus_commands.specs.declared.status.Status.{Status}
use Rattle.circus_commands.specs.declared.status.Status.TheVariants.{Done, Spent}
use Rattle.circus_simulation.specs.Booted.{boot_world, names_in, after_step}
use Rattle.circus_simulation.specs.Sample.{end_of_summary, sample_in, sample_of}
use Rattle.circus_simulation.specs.Schedule.{lines_in, end_of_drawing, schedule_in, schedule_of}
use Rattle.circus_program.specs.Last.{HasSpentSample}

-- what it comes to behind boot, and behind its last line
abbrev from_boot : Plan → ℕ → ℕ → Stepped Behaviour → Status
from_boot plan seed steps s = (after_step (names_in plan) (sample_in (names_in plan) seed steps) s).status

abbrev from_last : Plan → ℕ → Stepped Behaviour → Status
from_last plan steps s = (after_step (names_in plan) (end_of_summary (names_in plan) steps) s).status

-- it is done, or a node has no number left
abbrev pub IsStatusOfSample : Plan → ℕ → ℕ → Status → Type 0
IsStatusOfSample plan seed steps status = (status ≡ Done) ⊎ ((status ≡ Spent) × HasSpentSample plan seed steps)

drawn_status : (plan : Plan) (seed steps : ℕ) (w : WorldState Behaviour) → boot_world plan ≡ Ok w → IsStatusOfSample plan seed steps (from_boot plan seed steps (Ok w))
drawn_status plan seed steps w is =
    elim (sample_lines declared_of turn_of steps seed w) as (λ s. sample_lines declared_of turn_of steps seed w ≡ s → IsStatusOfSample plan seed steps (from_last plan steps s)) [
      | Ok last ↦ λ whole. inl refl
      | Err nodes ↦ λ spent. inr (refl, inr (w, is, (nodes, spent)))
    ] refl

pub sample_status : (plan : Plan) (seed steps : ℕ) → IsStatusOfSample plan seed steps (sample_of plan seed steps).status
sample_status plan seed steps =
    elim (boot_world plan) as (λ s. boot_world plan ≡ s → IsStatusOfSample plan seed steps (from_boot plan seed steps s)) [
      | Ok w ↦ λ is. drawn_status plan seed steps w is
      | Err nodes ↦ λ is. inr (refl, inl (nodes, is))
    ] refl

pub sample_spent : (plan : Plan) (seed steps : ℕ) → HasSpentSample plan seed steps → (sample_of plan seed steps).status ≡ Spent
sample_spent plan seed steps (inl (nodes, is)) = ap (from_boot plan seed steps) is
sample_spent plan seed steps (inr (w, is, (nodes, spent))) = ap (from_boot plan seed steps) is ∙ ap (from_last plan steps) spent

-- the lines end as the sample does
pub lines_end_alike : (plan : Plan) (seed steps : ℕ) → (schedule_of plan seed steps).status ≡ (sample_of plan seed steps).status
lines_end_alike plan seed steps =
    elim (boot_world plan) as (λ s. (after_step (names_in plan) (schedule_in (names_in plan) seed steps) s).status ≡ from_boot plan seed steps s) [
      | Ok w ↦ behind_boot w (sample_lines declared_of turn_of steps seed w)
      | Err nodes ↦ refl
    ]
  where
    behind_boot : (w : WorldState Behaviour) (s : Stepped Behaviour)
        → (after_step (names_in plan) (λ last. end_of_drawing (names_in plan) (lines_in seed steps w)) s).status ≡ from_last plan steps s
    behind_boot w (Ok last) = refl
    behind_boot w (Err nodes) = refl
