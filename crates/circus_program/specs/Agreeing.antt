-- What it means that the promise of a whole run is kept in what is written of a program: that each node was a node run by what the
-- lines gave to it, and that the copies agree.
use Rattle.std.specs.Prelude.{ℕ, ◌≡◌, ◌⊎◌, Option, List, ◌∷◌, ◌++◌, length, Ok, Err, IfSome}
use Rattle.circus_schedule.specs.declared.line.Line.{Line}
use Rattle.circus_schedule.specs.declared.schedule_fault.ScheduleFault.{ScheduleFault}
use Rattle.circus_schedule.specs.Meaning.{numbers_of}
use Rattle.circus_schedule.specs.Answer.{IsAnswer}
use Rattle.circus_config.specs.declared.plan.Plan.{Plan}
use Rattle.circus_plan_modules.specs.Loaded.{behaviours_in}
use Rattle.circus_report.specs.Writing.{Writes}
use Rattle.circus_headline_theory.specs.Facts.{Facts, sent_text, report_of, summary_of, settled_of}
use Rattle.circus_headline_theory.specs.Headline.{Headline}
use Rattle.circus_commands.specs.declared.status.Status.TheVariants.{Done}
use Rattle.circus_settle.specs.Settled.{first_deliveries}
use Rattle.circus_simulation.specs.Booted.{names_in}
use Rattle.circus_simulation.specs.Schedule.{lines_of_sample}
use Rattle.circus_program.specs.Replay.{replay_of}
use Rattle.circus_program.specs.Last.{IsReplay, IsSample, IsSettle}
use Rattle.circus_program.specs.Worlds.{IsSpentAtBoot, AskForRecords}

-- the report of facts
abbrev pub report_of_facts : Plan → Facts → List ℕ
report_of_facts plan facts = report_of (names_in plan) plan.deployment.nodes facts

-- ---- what is written in full

-- of a replay of these lines
abbrev pub IsReportOf : (List ℕ → Option (List ℕ)) → List (List ℕ) → Plan → List Line → Facts → List ℕ → Type 0
IsReportOf contents words plan lines facts text =
    (schedule : List ℕ) × IsReplay contents words plan schedule × IsAnswer (numbers_of plan.deployment.nodes) schedule (Ok lines) × (text ≡ report_of_facts plan facts)

-- of a sample that draws these lines
abbrev pub IsSummaryOf : (List ℕ → Option (List ℕ)) → List (List ℕ) → Plan → List Line → Facts → List ℕ → Type 0
IsSummaryOf contents words plan lines facts text =
    (seed steps : ℕ) × IsSample contents words plan seed steps × (lines ≡ lines_of_sample plan seed steps) × (text ≡ summary_of (names_in plan) steps facts)

-- of a program that has settled by these lines, a delivery of each datagram
abbrev pub IsSettledOf : (List ℕ → Option (List ℕ)) → List (List ℕ) → Plan → List Line → Facts → List ℕ → Type 0
IsSettledOf contents words plan lines facts text =
    (deliveries : ℕ) × IsSettle contents words plan deliveries × (lines ≡ first_deliveries (length facts.sent))
    × (text ≡ settled_of (names_in plan) plan.deployment.nodes (length facts.sent) facts)

-- of facts that keep the promise of a whole run it is the report, the summary, or what is written of a program that has settled
pub record IsAgreed (contents : List ℕ → Option (List ℕ)) (words : List (List ℕ)) (text : List ℕ) : Type 0 where
  pub plan : Plan
  pub lines : List Line
  pub facts : Facts
  pub headline : Headline plan.deployment (behaviours_in plan) lines facts
  pub written : IsReportOf contents words plan lines facts text
      ⊎ (IsSummaryOf contents words plan lines facts text ⊎ IsSettledOf contents words plan lines facts text)

-- ---- what is written of lines up to one that isn't stepped

-- a replay of the lines before it reports facts that keep the promise; written are their datagrams, and one line more
pub record IsAgreedSoFar (plan : Plan) (lines : List Line) (text : List ℕ) : Type 0 where
  pub before : List Line
  pub line : Line
  pub others : List Line
  pub lines_are : lines ≡ before ++ line ∷ others
  pub facts : Facts
  pub headline : Headline plan.deployment (behaviours_in plan) before facts
  pub reported_is : replay_of plan before ≡ record { status = Done; text = report_of_facts plan facts }
  pub last : List ℕ
  pub written : text ≡ sent_text (names_in plan) facts ++ last

-- the schedule is read as none of lines, nothing was booted, or its lines are written so far
abbrev pub IsCutSoFar : Plan → List ℕ → List ℕ → Type 0
IsCutSoFar plan schedule text =
    ((fault : ScheduleFault) × IsAnswer (numbers_of plan.deployment.nodes) schedule (Err fault))
    ⊎ (IsSpentAtBoot plan text ⊎ ((lines : List Line) × IsAnswer (numbers_of plan.deployment.nodes) schedule (Ok lines) × IsAgreedSoFar plan lines text))

-- ---- of a call

-- where the shelf tells its contents, and the words ask for what tells records, what was written is agreed
abbrev pub WritesAgreed : Option (List ℕ → Option (List ℕ)) → List (List ℕ) → Option (List ℕ) → Option (List ℕ) → Type 0
WritesAgreed shelf words old new =
    IfSome shelf (λ contents. AskForRecords words → (text : List ℕ) × Writes old new text × IsAgreed contents words text)

-- the same of a replay of lines that end too early
abbrev pub WritesAgreedSoFar : Option (List ℕ → Option (List ℕ)) → List (List ℕ) → Option (List ℕ) → Option (List ℕ) → Type 0
WritesAgreedSoFar shelf words old new =
    IfSome shelf (λ contents. (plan : Plan) (schedule : List ℕ) → IsReplay contents words plan schedule → (text : List ℕ) × Writes old new text × IsCutSoFar plan schedule text)
