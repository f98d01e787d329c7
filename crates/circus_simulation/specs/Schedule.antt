-- What the schedule that a seed draws comes to.
use Rattle.std.specs.Prelude.{ℕ, List}
use Rattle.circus_model.specs.Behaviour.{Behaviour}
use Rattle.circus_record.specs.Naming.{Names}
use Rattle.circus_schedule.specs.declared.line.Line.{Line}
use Rattle.circus_schedule.specs.ScheduleText.{lines_text}
use Rattle.circus_config.specs.declared.plan.Plan.{Plan}
use Rattle.circus_world.specs.WorldState.{WorldState}
use Rattle.circus_simulation.specs.Sampled.{lines_behind, sample_lines, lines_drawn}
use Rattle.circus_commands.specs.declared.status.Status.TheVariants.{Done}
use Rattle.circus_commands.specs.Ending.{Ending}
use Rattle.circus_simulation.specs.Booted.{boot_world, names_in, after_step}

-- the lines that are stepped in a sample
abbrev pub lines_in : ℕ → ℕ → WorldState Behaviour → List Line
lines_in seed steps w = lines_drawn (λ b. b.declared) (λ b. b.turn) steps seed w

-- from boot on
abbrev pub lines_of_sample : Plan → ℕ → ℕ → List Line
lines_of_sample plan seed steps = lines_behind (lines_in seed steps) (boot_world plan)

-- their text
abbrev pub end_of_drawing : Names → List Line → Ending
end_of_drawing names lines = record { status = Done; text = lines_text names.node lines }

-- so many lines that a seed draws
abbrev pub schedule_in : Names → ℕ → ℕ → WorldState Behaviour → Ending
schedule_in names seed steps w =
    after_step names (λ last. end_of_drawing names (lines_in seed steps w)) (sample_lines (λ b. b.declared) (λ b. b.turn) steps seed w)

-- from boot on
abbrev pub schedule_of : Plan → ℕ → ℕ → Ending
schedule_of plan seed steps = after_step (names_in plan) (schedule_in (names_in plan) seed steps) (boot_world plan)
