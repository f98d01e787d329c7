-- What the lines of a sample are good for: a replay of them comes to the world of the sample.
use Rattle.std.specs.Prelude.{ℕ, ◌≡◌, All, Option, List, IfSome}
use Rattle.circus_model.specs.Behaviour.{Behaviour}
use Rattle.circus_schedule.specs.ScheduleText.{IsShort}
use Rattle.circus_world.specs.WorldState.{WorldState}
use Rattle.circus_report.specs.Report.{report_text}
use Rattle.circus_simulation.specs.Summary.{summary}
use Rattle.circus_config.specs.declared.plan.Plan.{Plan}
use Rattle.circus_report.specs.Writing.{Writes}
use Rattle.circus_commands.specs.declared.status.Status.TheVariants.{Done}
use Rattle.circus_simulation.specs.Booted.{names_in}
use Rattle.circus_simulation.specs.Sample.{sample_of}
use Rattle.circus_simulation.specs.Schedule.{lines_of_sample, schedule_of}
use Rattle.circus_program.specs.declared.shown.Shown.TheVariants.{Report}
use Rattle.circus_program.specs.Replay.{IsEndOfReplay}
use Rattle.circus_program.specs.Last.{IsLines}

-- with this text as its schedule, a replay of the plan refuses no line and writes the report of a world; a sample of the plan
-- writes the summary of the same world
pub record IsReplayed (plan : Plan) (seed steps : ℕ) (text : List ℕ) : Type 0 where
  pub last : WorldState Behaviour
  pub replayed : IsEndOfReplay Report plan text (record { status = Done; text = report_text (names_in plan) last })
  pub sampled : sample_of plan seed steps ≡ record { status = Done; text = summary (names_in plan) steps last }

-- datagrams have numbers that a line may have, in lines that are written
abbrev pub AreShort : Plan → ℕ → ℕ → Type 0
AreShort plan seed steps = (schedule_of plan seed steps).status ≡ Done → All IsShort (lines_of_sample plan seed steps)

-- where the shelf tells its contents, and the words ask for lines, what was written is replayed so
abbrev pub WritesReplayed : Option (List ℕ → Option (List ℕ)) → List (List ℕ) → Option (List ℕ) → Option (List ℕ) → Type 0
WritesReplayed shelf words old new =
    IfSome shelf (λ contents. (plan : Plan) (seed steps : ℕ) → IsLines contents words plan seed steps
    → (text : List ℕ) × Writes old new text × IsReplayed plan seed steps text)
