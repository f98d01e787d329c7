-- The worlds of which texts are written: lines lead to them from boot.
use Rattle.std.specs.Prelude.{ℕ, ◌≡◌, ◌+◌, ◌≤◌, ◌⊎◌, Option, Some, None, List, ◌∷◌, ◌++◌, length, Ok, Err}
use Rattle.circus_model.specs.Behaviour.{Behaviour}
use Rattle.circus_record.specs.Naming.{Names}
use Rattle.circus_schedule.specs.declared.line.Line.{Line}
use Rattle.circus_schedule.specs.Meaning.{numbers_of}
use Rattle.circus_schedule.specs.ScheduleText.{lines_text}
use Rattle.circus_schedule.specs.Answer.{IsAnswer}
use Rattle.circus_world.specs.declared.cause.LineCause.{LineCause}
use Rattle.circus_world.specs.WorldState.{WorldState}
use Rattle.circus_world.specs.Legal.{refusal}
use Rattle.circus_world.specs.Course.{step_line}
use Rattle.circus_world.specs.Lines.{Lead}
use Rattle.circus_report.specs.Report.{first_line, sent_lines, report_text}
use Rattle.circus_simulation.specs.Sampled.{sample_lines}
use Rattle.circus_simulation.specs.Summary.{summary}
use Rattle.circus_settle.specs.Settled.{first_deliveries}
use Rattle.circus_settle.specs.Summary.{settled_text}
use Rattle.circus_config.specs.declared.plan.Plan.{Plan}
use Rattle.circus_picture.specs.Picture.{procedures_in, picture_text}
use Rattle.circus_commands.specs.declared.status.Status.TheVariants.{Done}
use Rattle.circus_commands.specs.Spent.{end_of_spent}
use Rattle.circus_simulation.specs.Booted.{boot_world, names_in}
use Rattle.circus_simulation.specs.Schedule.{lines_of_sample}
use Rattle.circus_program.specs.Form.{CommandForm, stubs, run, replay, picture, node, sample, draw, settle, place, audit, IsOfForm}
use Rattle.circus_program.specs.declared.shown.Shown.TheVariants.{Picture}
use Rattle.circus_program.specs.Replay.{cause_text, refuse_line, replay_of, picture_of}
use Rattle.circus_program.specs.Last.{IsShown, IsReplay, IsSample, IsLines, IsSettle}

-- lines lead from boot to a world
pub record AreLed (plan : Plan) (lines : List Line) (last : WorldState Behaviour) : Type 0 where
  pub begun : WorldState Behaviour
  pub booted_is : boot_world plan ≡ Ok begun
  pub lead : Lead (λ b. b.declared) (λ b. b.turn) lines begun last

-- ---- replays

-- the report of a world as far as its datagrams
abbrev pub sent_text : {M : Type 0} → Names → WorldState M → List ℕ
sent_text names w = first_line ++ sent_lines names 0 w.sent

-- the report of the world to which all lines lead
pub record IsReported (plan : Plan) (lines : List Line) (text : List ℕ) : Type 0 where
  pub last : WorldState Behaviour
  pub led : AreLed plan lines last
  pub written : text ≡ report_text (names_in plan) last

-- a line may not be stepped in the world to which those before it lead: what was sent so far, and why
pub record IsCutByRefusal (plan : Plan) (lines : List Line) (text : List ℕ) : Type 0 where
  pub before : List Line
  pub line : Line
  pub others : List Line
  pub lines_are : lines ≡ before ++ line ∷ others
  pub last : WorldState Behaviour
  pub led : AreLed plan before last
  pub cause : LineCause
  pub refusal_is : refusal last line ≡ Some cause
  pub written : text ≡ sent_text (names_in plan) last ++ (refuse_line (1 + length before) (cause_text (names_in plan) cause)).text

-- a node has no number left in the step of a line in the world to which those before it lead: what was sent so far, and the two
-- nodes
pub record IsCutBySpending (plan : Plan) (lines : List Line) (text : List ℕ) : Type 0 where
  pub before : List Line
  pub line : Line
  pub others : List Line
  pub lines_are : lines ≡ before ++ line ∷ others
  pub last : WorldState Behaviour
  pub led : AreLed plan before last
  pub legal : refusal last line ≡ None
  pub nodes : ℕ × ℕ
  pub stepped_is : step_line (λ b. b.declared) (λ b. b.turn) line last ≡ Err nodes
  pub written : text ≡ sent_text (names_in plan) last ++ (end_of_spent (names_in plan) nodes).text

-- or at boot, where nothing else is written
abbrev pub IsSpentAtBoot : Plan → List ℕ → Type 0
IsSpentAtBoot plan text = (nodes : ℕ × ℕ) × (boot_world plan ≡ Err nodes) × (text ≡ (end_of_spent (names_in plan) nodes).text)

-- ---- pictures

-- the picture and the report of the lines are of the world to which all of them lead
pub record IsPictured (plan : Plan) (lines : List Line) : Type 0 where
  pub last : WorldState Behaviour
  pub led : AreLed plan lines last
  pub pictured : picture_of plan lines ≡ record { status = Done; text = picture_text (names_in plan) (procedures_in plan) lines last }
  pub reported : replay_of plan lines ≡ record { status = Done; text = report_text (names_in plan) last }

-- ---- of words

-- the form is that of a program whose nodes are simulated
abbrev pub IsSimulation : CommandForm → Type 0
IsSimulation (replay _ _) = Unit {0}
IsSimulation (picture _ _) = Unit {0}
IsSimulation (sample _ _ _) = Unit {0}
IsSimulation (draw _ _ _) = Unit {0}
IsSimulation (settle _ _) = Unit {0}
IsSimulation (stubs _) = ⊥
IsSimulation (run _) = ⊥
IsSimulation (node _ _ _) = ⊥
IsSimulation (place _) = ⊥
IsSimulation (audit _ _) = ⊥

-- the words are of such a form
abbrev pub AskToSimulate : List (List ℕ) → Type 0
AskToSimulate words = (form : CommandForm) × IsOfForm words form × IsSimulation form

-- the form is that of one of which the records of members are written
abbrev pub TellsRecords : CommandForm → Type 0
TellsRecords (replay _ _) = Unit {0}
TellsRecords (sample _ _ _) = Unit {0}
TellsRecords (settle _ _) = Unit {0}
TellsRecords (picture _ _) = ⊥
TellsRecords (draw _ _ _) = ⊥
TellsRecords (stubs _) = ⊥
TellsRecords (run _) = ⊥
TellsRecords (node _ _ _) = ⊥
TellsRecords (place _) = ⊥
TellsRecords (audit _ _) = ⊥

-- the words are of such a form
abbrev pub AskForRecords : List (List ℕ) → Type 0
AskForRecords words = (form : CommandForm) × IsOfForm words form × TellsRecords form

-- the lines of the schedule, and the report of the world to which they lead
abbrev pub IsWrittenByReplay : (List ℕ → Option (List ℕ)) → List (List ℕ) → Plan → List Line → WorldState Behaviour → List ℕ → Type 0
IsWrittenByReplay contents words plan lines last text =
    (schedule : List ℕ) × IsReplay contents words plan schedule × IsAnswer (numbers_of plan.deployment.nodes) schedule (Ok lines)
    × (text ≡ report_text (names_in plan) last)

-- the same, and their picture
abbrev pub IsWrittenByPicture : (List ℕ → Option (List ℕ)) → List (List ℕ) → Plan → List Line → WorldState Behaviour → List ℕ → Type 0
IsWrittenByPicture contents words plan lines last text =
    (schedule : List ℕ) × IsShown Picture contents words plan schedule × IsAnswer (numbers_of plan.deployment.nodes) schedule (Ok lines)
    × (text ≡ picture_text (names_in plan) (procedures_in plan) lines last)

-- the lines that the seed draws, so many, and the summary of the world to which they lead
abbrev pub IsWrittenBySample : (List ℕ → Option (List ℕ)) → List (List ℕ) → Plan → List Line → WorldState Behaviour → List ℕ → Type 0
IsWrittenBySample contents words plan lines last text =
    (seed steps : ℕ) × (begun : WorldState Behaviour) × IsSample contents words plan seed steps
    × (lines ≡ lines_of_sample plan seed steps) × (length lines ≡ steps) × (boot_world plan ≡ Ok begun)
    × (sample_lines (λ b. b.declared) (λ b. b.turn) steps seed begun ≡ Ok last) × (text ≡ summary (names_in plan) steps last)

-- the same lines, and their text
abbrev pub IsWrittenByLines : (List ℕ → Option (List ℕ)) → List (List ℕ) → Plan → List Line → WorldState Behaviour → List ℕ → Type 0
IsWrittenByLines contents words plan lines last text =
    (seed steps : ℕ) × (begun : WorldState Behaviour) × IsLines contents words plan seed steps
    × (lines ≡ lines_of_sample plan seed steps) × (length lines ≡ steps) × (boot_world plan ≡ Ok begun)
    × (sample_lines (λ b. b.declared) (λ b. b.turn) steps seed begun ≡ Ok last) × (text ≡ lines_text (names_in plan).node lines)

-- as many deliveries as datagrams were sent, and what is written of the world to which they lead
abbrev pub IsWrittenBySettle : (List ℕ → Option (List ℕ)) → List (List ℕ) → Plan → List Line → WorldState Behaviour → List ℕ → Type 0
IsWrittenBySettle contents words plan lines last text =
    (deliveries : ℕ) × IsSettle contents words plan deliveries × (length last.sent ≤ deliveries) × (lines ≡ first_deliveries (length last.sent))
    × (text ≡ settled_text (names_in plan) (length last.sent) last)

-- what each form writes
abbrev pub IsWrittenBySome : (List ℕ → Option (List ℕ)) → List (List ℕ) → Plan → List Line → WorldState Behaviour → List ℕ → Type 0
IsWrittenBySome contents words plan lines last text =
    IsWrittenByReplay contents words plan lines last text
    ⊎ (IsWrittenBySample contents words plan lines last text
    ⊎ (IsWrittenBySettle contents words plan lines last text
    ⊎ (IsWrittenByLines contents words plan lines last text ⊎ IsWrittenByPicture contents words plan lines last text)))

-- over a shelf with these contents the words ask for a program that means this plan, these lines lead from its boot to this
-- world, and the text is written of it
pub record IsOfWorld (contents : List ℕ → Option (List ℕ)) (words : List (List ℕ)) (plan : Plan) (lines : List Line) (last : WorldState Behaviour) (text : List ℕ) : Type 0 where
  pub led : AreLed plan lines last
  pub written : IsWrittenBySome contents words plan lines last text
