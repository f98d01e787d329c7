-- What a sample comes to.
use Rattle.std.specs.Prelude.{ℕ}
use Rattle.circus_model.specs.Behaviour.{Behaviour}
use Rattle.circus_record.specs.Naming.{Names}
use Rattle.circus_config.specs.declared.plan.Plan.{Plan}
use Rattle.circus_world.specs.WorldState.{WorldState}
use Rattle.circus_simulation.specs.Sampled.{sample_lines}
use Rattle.circus_simulation.specs.Summary.{summary}
use Rattle.circus_commands.specs.declared.status.Status.TheVariants.{Done}
use Rattle.circus_commands.specs.Ending.{Ending}
use Rattle.circus_simulation.specs.Booted.{boot_world, names_in, after_step}

-- the summary of a world
abbrev pub end_of_summary : Names → ℕ → WorldState Behaviour → Ending
end_of_summary names steps w = record { status = Done; text = summary names steps w }

-- so many lines that a seed draws
abbrev pub sample_in : Names → ℕ → ℕ → WorldState Behaviour → Ending
sample_in names seed steps w = after_step names (end_of_summary names steps) (sample_lines (λ b. b.declared) (λ b. b.turn) steps seed w)

-- from boot on
abbrev pub sample_of : Plan → ℕ → ℕ → Ending
sample_of plan seed steps = after_step (names_in plan) (sample_in (names_in plan) seed steps) (boot_world plan)
