-- What words come to over a shelf that tells its contents, and why.
use Rattle.std.specs.Prelude.{ℕ, ◌≡◌, ◌<◌, ◌⊎◌, Option, Some, None, List, [], ◌∷◌, length, Ok, Err}
use Rattle.circus_model.specs.Behaviour.{Behaviour}
use Rattle.circus_schedule.specs.declared.line.Line.{Line}
use Rattle.circus_schedule.specs.declared.schedule_fault.ScheduleFault.{ScheduleFault}
use Rattle.circus_schedule.specs.Meaning.{numbers_of}
use Rattle.circus_schedule.specs.Answer.{IsAnswer}
use Rattle.circus_world.specs.declared.cause.LineCause.{LineCause}
use Rattle.circus_world.specs.WorldState.{WorldState}
use Rattle.circus_world.specs.Legal.{refusal}
use Rattle.circus_world.specs.Course.{step_line}
use Rattle.circus_commands.specs.declared.status.Status.{Status}
use Rattle.circus_program.specs.Form.{CommandForm, stubs, run, replay, picture, node, sample, draw, settle, place, audit, IsOfForm, second_form}
use Rattle.circus_program.specs.declared.shown.Shown.{Shown}
use Rattle.circus_program.specs.declared.shown.Shown.TheVariants.{Report, Picture}
use Rattle.circus_program.specs.declared.second.Second.{Second}
use Rattle.circus_program.specs.declared.second.Second.TheVariants.{Schedule, NodeRecord}
use Rattle.circus_program.specs.Audit.{IsRefusedRecord}
use Rattle.circus_world.specs.Lines.{Lead}
use Rattle.circus_simulation.specs.Sampled.{sample_lines}
use Rattle.circus_settle.specs.Settled.{first_deliveries, settle_world}
use Rattle.circus_simulation.specs.Booted.{boot_world}
use Rattle.circus_node_command.specs.Named.{IsNamed}
use Rattle.circus_commands.specs.declared.one_file.OneFile.TheVariants.{Stubs, Run, Place}
use Rattle.circus_commands.specs.Ending.{Ending}
use Rattle.circus_commands.specs.Refusal.{IsGood, IsEndOfRefused}
use Rattle.circus_commands.specs.OneFile.{IsEndOf}
use Rattle.circus_config.specs.declared.program_fault.ProgramCause.{ProgramCause}
use Rattle.circus_config.specs.declared.program_fault.ProgramFault.TheVariants.{Refused}
use Rattle.circus_config.specs.declared.plan.Plan.{Plan}
use Rattle.circus_config.specs.Program.{IsProgramOf, IsRefused}
use Rattle.circus_program.specs.Answer.{Due, fetch, finish, serve, IsDue, IsEndOfSecond}

-- nothing is due behind it: an end, a node that is served, or the fetch of a file that the shelf doesn't have
abbrev pub IsLast : (List ℕ → Option (List ℕ)) → Due → Type 0
IsLast contents (fetch name) = contents name ≡ None
IsLast contents (finish ending) = Unit {0}
IsLast contents (serve plan number turns) = Unit {0}

-- what is due of the words at last
pub record IsDueLast (contents : List ℕ → Option (List ℕ)) (words : List (List ℕ)) (due : Due) : Type 0 where
  pub is_due : IsDue (Some contents) words due
  pub last : IsLast contents due

-- it is an end with this status
abbrev pub EndsWith : Status → Due → Type 0
EndsWith status (fetch name) = ⊥
EndsWith status (finish ending) = ending.status ≡ status
EndsWith status (serve plan number turns) = ⊥

-- ---- why

-- a line may not be stepped, once those before it were
abbrev pub HasRefused : List Line → WorldState Behaviour → Type 0
HasRefused [] w = ⊥
HasRefused (line ∷ lines) w =
    ((cause : LineCause) × (refusal w line ≡ Some cause))
    ⊎ ((refusal w line ≡ None) × (next : WorldState Behaviour) × (step_line (λ b. b.declared) (λ b. b.turn) line w ≡ Ok next) × HasRefused lines next)

-- a node has no number left in the step of a line, once those before it were stepped
abbrev pub HasSpent : List Line → WorldState Behaviour → Type 0
HasSpent [] w = ⊥
HasSpent (line ∷ lines) w =
    (refusal w line ≡ None)
    × (((nodes : ℕ × ℕ) × (step_line (λ b. b.declared) (λ b. b.turn) line w ≡ Err nodes))
    ⊎ ((next : WorldState Behaviour) × (step_line (λ b. b.declared) (λ b. b.turn) line w ≡ Ok next) × HasSpent lines next))

-- the first file of a form
abbrev pub file_read : CommandForm → List ℕ
file_read (stubs program) = program
file_read (run program) = program
file_read (replay program _) = program
file_read (picture program _) = program
file_read (place placing) = placing
file_read (node program _ _) = program
file_read (sample program _ _) = program
file_read (draw program _ _) = program
file_read (settle program _) = program
file_read (audit program _) = program

-- it is there, and reading it is to answer
pub record IsToBeRead (contents : List ℕ → Option (List ℕ)) (words : List (List ℕ)) : Type 0 where
  pub form : CommandForm
  pub of_form : IsOfForm words form
  pub bytes : List ℕ
  pub there : contents (file_read form) ≡ Some bytes

-- reading the second file answers, where it is there
abbrev pub IsSecondAnswered : Second → Plan → Option (List ℕ) → Type 0
IsSecondAnswered second plan None = Unit {0}
IsSecondAnswered second plan (Some bytes) = (ending : Ending) × IsEndOfSecond second plan bytes ending

-- reading the program answers, and then the second file
abbrev pub IsTwoAnswered : Second → Option (List ℕ) → List ℕ → Type 0
IsTwoAnswered second file bytes =
    ((plan : Plan) × IsProgramOf bytes plan × IsSecondAnswered second plan file) ⊎ ((ending : Ending) × IsEndOfRefused bytes ending)

-- reading these bytes answers, and of two files the second too: that they are a program or are refused, of a command of one
-- file its end
abbrev pub IsAnswered : (List ℕ → Option (List ℕ)) → CommandForm → List ℕ → Type 0
IsAnswered contents (replay _ schedule) bytes = IsTwoAnswered (Schedule Report) (contents schedule) bytes
IsAnswered contents (picture _ schedule) bytes = IsTwoAnswered (Schedule Picture) (contents schedule) bytes
IsAnswered contents (stubs _) bytes = (ending : Ending) × IsEndOf Stubs bytes ending
IsAnswered contents (run _) bytes = (ending : Ending) × IsEndOf Run bytes ending
IsAnswered contents (place _) bytes = (ending : Ending) × IsEndOf Place bytes ending
IsAnswered contents (node _ _ _) bytes = IsGood bytes ⊎ ((ending : Ending) × IsEndOfRefused bytes ending)
IsAnswered contents (sample _ _ _) bytes = IsGood bytes ⊎ ((ending : Ending) × IsEndOfRefused bytes ending)
IsAnswered contents (draw _ _ _) bytes = IsGood bytes ⊎ ((ending : Ending) × IsEndOfRefused bytes ending)
IsAnswered contents (settle _ _) bytes = IsGood bytes ⊎ ((ending : Ending) × IsEndOfRefused bytes ending)
IsAnswered contents (audit _ «record») bytes = IsTwoAnswered NodeRecord (contents «record») bytes

-- that file where it is a program
abbrev pub program_read : CommandForm → Option (List ℕ)
program_read (stubs program) = Some program
program_read (run program) = Some program
program_read (replay program _) = Some program
program_read (picture program _) = Some program
program_read (place _) = None
program_read (node program _ _) = Some program
program_read (sample program _ _) = Some program
program_read (draw program _ _) = Some program
program_read (settle program _) = Some program
program_read (audit program _) = Some program

-- a program that is refused
pub record IsRefusedProgram (contents : List ℕ → Option (List ℕ)) (words : List (List ℕ)) : Type 0 where
  pub form : CommandForm
  pub of_form : IsOfForm words form
  pub program : List ℕ
  pub program_is : program_read form ≡ Some program
  pub bytes : List ℕ
  pub there : contents program ≡ Some bytes
  pub number : ℕ
  pub cause : ProgramCause
  pub refused : IsRefused bytes (Refused number cause)

-- a node of a program is asked for that has no node of this name
pub record IsNameless (contents : List ℕ → Option (List ℕ)) (words : List (List ℕ)) : Type 0 where
  pub program : List ℕ
  pub name : List ℕ
  pub turns : ℕ
  pub of_form : IsOfForm words (node program name turns)
  pub bytes : List ℕ
  pub there : contents program ≡ Some bytes
  pub plan : Plan
  pub good : IsProgramOf bytes plan
  pub nameless : (number : ℕ) → IsNamed plan.deployment name number → ⊥

-- the words name a program that means this plan, and a second file with these bytes
pub record IsOfTwo (second : Second) (contents : List ℕ → Option (List ℕ)) (words : List (List ℕ)) (plan : Plan) (text : List ℕ) : Type 0 where
  pub program : List ℕ
  pub name : List ℕ
  pub of_form : IsOfForm words (second_form second program name)
  pub bytes : List ℕ
  pub program_is : contents program ≡ Some bytes
  pub good : IsProgramOf bytes plan
  pub second_is : contents name ≡ Some text

-- they ask to show this of the lines of this schedule
abbrev pub IsShown : Shown → (List ℕ → Option (List ℕ)) → List (List ℕ) → Plan → List ℕ → Type 0
IsShown shown contents words plan schedule = IsOfTwo (Schedule shown) contents words plan schedule

-- they are a replay
abbrev pub IsReplay : (List ℕ → Option (List ℕ)) → List (List ℕ) → Plan → List ℕ → Type 0
IsReplay contents words plan schedule = IsShown Report contents words plan schedule

-- a replay or a picture of which a line is refused: it is read as none, or may not be stepped
pub record IsRefusedReplay (contents : List ℕ → Option (List ℕ)) (words : List (List ℕ)) : Type 0 where
  pub shown : Shown
  pub plan : Plan
  pub schedule : List ℕ
  pub replayed : IsShown shown contents words plan schedule
  pub refused : ((fault : ScheduleFault) × IsAnswer (numbers_of plan.deployment.nodes) schedule (Err fault))
      ⊎ ((lines : List Line) × (w : WorldState Behaviour) × IsAnswer (numbers_of plan.deployment.nodes) schedule (Ok lines) × (boot_world plan ≡ Ok w) × HasRefused lines w)

-- a replay or a picture in which a node has no number left for another one, at boot or in the step of a line
pub record IsSpentReplay (contents : List ℕ → Option (List ℕ)) (words : List (List ℕ)) : Type 0 where
  pub shown : Shown
  pub plan : Plan
  pub schedule : List ℕ
  pub replayed : IsShown shown contents words plan schedule
  pub lines : List Line
  pub read : IsAnswer (numbers_of plan.deployment.nodes) schedule (Ok lines)
  pub spent : ((nodes : ℕ × ℕ) × (boot_world plan ≡ Err nodes)) ⊎ ((w : WorldState Behaviour) × (boot_world plan ≡ Ok w) × HasSpent lines w)

-- the words are a sample of a program that means this plan
pub record IsSample (contents : List ℕ → Option (List ℕ)) (words : List (List ℕ)) (plan : Plan) (seed steps : ℕ) : Type 0 where
  pub program : List ℕ
  pub of_form : IsOfForm words (sample program seed steps)
  pub bytes : List ℕ
  pub program_is : contents program ≡ Some bytes
  pub good : IsProgramOf bytes plan

-- a node has no number left for another one, at boot or in a step of so many that a seed draws
abbrev pub HasSpentSample : Plan → ℕ → ℕ → Type 0
HasSpentSample plan seed steps =
    ((nodes : ℕ × ℕ) × (boot_world plan ≡ Err nodes))
    ⊎ ((w : WorldState Behaviour) × (boot_world plan ≡ Ok w) × ((nodes : ℕ × ℕ) × (sample_lines (λ b. b.declared) (λ b. b.turn) steps seed w ≡ Err nodes)))

-- a sample in which a node has no number left for another one
pub record IsSpentSample (contents : List ℕ → Option (List ℕ)) (words : List (List ℕ)) : Type 0 where
  pub plan : Plan
  pub seed : ℕ
  pub steps : ℕ
  pub drawn : IsSample contents words plan seed steps
  pub spent : HasSpentSample plan seed steps

-- the words ask for the lines of a sample of a program that means this plan
pub record IsLines (contents : List ℕ → Option (List ℕ)) (words : List (List ℕ)) (plan : Plan) (seed steps : ℕ) : Type 0 where
  pub program : List ℕ
  pub of_form : IsOfForm words (draw program seed steps)
  pub bytes : List ℕ
  pub program_is : contents program ≡ Some bytes
  pub good : IsProgramOf bytes plan

-- lines in whose steps a node has no number left for another one
pub record IsSpentLines (contents : List ℕ → Option (List ℕ)) (words : List (List ℕ)) : Type 0 where
  pub plan : Plan
  pub seed : ℕ
  pub steps : ℕ
  pub drawn : IsLines contents words plan seed steps
  pub spent : HasSpentSample plan seed steps

-- the words are to settle a program that means this plan, with so many deliveries at most
pub record IsSettle (contents : List ℕ → Option (List ℕ)) (words : List (List ℕ)) (plan : Plan) (deliveries : ℕ) : Type 0 where
  pub program : List ℕ
  pub of_form : IsOfForm words (settle program deliveries)
  pub bytes : List ℕ
  pub program_is : contents program ≡ Some bytes
  pub good : IsProgramOf bytes plan

-- a node has no number left for another one, at boot or in one of so many deliveries
abbrev pub HasSpentSettle : Plan → ℕ → Type 0
HasSpentSettle plan deliveries =
    ((nodes : ℕ × ℕ) × (boot_world plan ≡ Err nodes))
    ⊎ ((w : WorldState Behaviour) × (boot_world plan ≡ Ok w) × ((nodes : ℕ × ℕ) × (settle_world (λ b. b.declared) (λ b. b.turn) deliveries 0 w ≡ Err nodes)))

-- the deliveries in which a node has no number left for another one
pub record IsSpentSettle (contents : List ℕ → Option (List ℕ)) (words : List (List ℕ)) : Type 0 where
  pub plan : Plan
  pub deliveries : ℕ
  pub settles : IsSettle contents words plan deliveries
  pub spent : HasSpentSettle plan deliveries

-- a simulation in which a node has no number left for another one
abbrev pub IsSpent : (List ℕ → Option (List ℕ)) → List (List ℕ) → Type 0
IsSpent contents words =
    IsSpentReplay contents words
    ⊎ (IsSpentSample contents words ⊎ (IsSpentSettle contents words ⊎ IsSpentLines contents words))

-- so many deliveries lead from boot to a world in which datagrams are left
abbrev pub HasLeft : Plan → ℕ → Type 0
HasLeft plan deliveries =
    (w last : WorldState Behaviour) × (boot_world plan ≡ Ok w) × Lead (λ b. b.declared) (λ b. b.turn) (first_deliveries deliveries) w last
    × (deliveries < length last.sent)

-- all deliveries are made, and datagrams are left
pub record IsUnsettled (contents : List ℕ → Option (List ℕ)) (words : List (List ℕ)) : Type 0 where
  pub plan : Plan
  pub deliveries : ℕ
  pub settles : IsSettle contents words plan deliveries
  pub left : HasLeft plan deliveries

-- the words ask for the audit of a record of a program that means this plan
abbrev pub IsAudit : (List ℕ → Option (List ℕ)) → List (List ℕ) → Plan → List ℕ → Type 0
IsAudit contents words plan text = IsOfTwo NodeRecord contents words plan text

-- an audit of a record that is refused
pub record IsRefusedAudit (contents : List ℕ → Option (List ℕ)) (words : List (List ℕ)) : Type 0 where
  pub plan : Plan
  pub text : List ℕ
  pub audits : IsAudit contents words plan text
  pub refused : IsRefusedRecord plan text
