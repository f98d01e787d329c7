-- What is promised of every world that the lines of a simulation lead to, whatever is lost, repeated, reordered, crashed or joined.
use Rattle.std.specs.Prelude.{ℕ, ◌≡◌, ◌≤◌, ◌*◌, ◌⊎◌, All, length, Option, IfSome, List, ◌∷◌, ◌++◌, map, Ok, Err}
use Rattle.circus_model.specs.Behaviour.{Behaviour}
use Rattle.circus_model.specs.Execution.{history_of}
use Rattle.circus_schedule.specs.declared.line.Line.{Line}
use Rattle.circus_schedule.specs.declared.schedule_fault.ScheduleFault.{ScheduleFault}
use Rattle.circus_schedule.specs.Meaning.{numbers_of}
use Rattle.circus_schedule.specs.Answer.{IsAnswer}
use Rattle.circus_node.specs.Alike.{declared_of, turn_of, first_of}
use Rattle.circus_wire.specs.WireActs.{WireActs}
use Rattle.circus_member_rules.specs.declared.occurrence.Purpose.{Purpose}
use Rattle.circus_world.specs.WorldState.{WorldState}
use Rattle.circus_world_theory.specs.Histories.{acts_of}
use Rattle.circus_world_theory.specs.Agreeing.{RecordsStand, AsksAreTrue, ReturnsAreTrue, OthersCiteNothing, NoneDiffer}
use Rattle.circus_world_theory.specs.InTime.{RecordsAreTimely}
use Rattle.circus_headline_theory.specs.Facts.{facts_of}
use Rattle.circus_headline_theory.specs.Headline.{Headline}
use Rattle.circus_world_theory.specs.Done.{AskEnough, RootsAreDone}
use Rattle.circus_world_theory.specs.Enough.{all_segments, AreOnce}
use Rattle.circus_world_theory.specs.Quiet.{IsDelivery, IsQuiet}
use Rattle.circus_config.specs.declared.plan.Plan.{Plan}
use Rattle.circus_plan_modules.specs.Loaded.{behaviours_in, hosted_by}
use Rattle.circus_report.specs.Writing.{Writes}
use Rattle.circus_simulation.specs.Booted.{names_in}
use Rattle.circus_program.specs.Last.{IsReplay}
use Rattle.circus_program.specs.Worlds.{AreLed, AskToSimulate, IsOfWorld, IsSpentAtBoot, sent_text}

-- the modules at the nodes of a plan
abbrev pub hosted_in : Plan → List (Option Behaviour)
hosted_in plan = map (hosted_by (behaviours_in plan)) plan.deployment.nodes

-- no collator of a plan asks for more equal messages than there are founders
abbrev pub CollatorsAskEnough : Plan → Type 0
CollatorsAskEnough plan = AskEnough plan.deployment (map declared_of (behaviours_in plan))

-- twice the segments of the messages that the unreplicated program makes, each to and from each founder
abbrev pub enough_deliveries : Plan → ℕ
enough_deliveries plan = 2 * all_segments plan.deployment (history_of (behaviours_in plan))

module _ (plan : Plan) (lines : List Line) (last : WorldState Behaviour) (led : AreLed plan lines last) where
  -- what each node handed over to each other one
  abbrev pub acts_of_nodes : ℕ → WireActs Purpose
  acts_of_nodes = acts_of declared_of turn_of first_of plan.deployment (hosted_in plan) lines led.begun

  pub record KeepsPromise : Type 0 where
    -- each node is a node run by what the lines gave to it, and sent all that is from it; the copies agree; and the Ringmaster's views
    -- are those of the requests that it accepted
    pub headline : Headline plan.deployment (behaviours_in plan) lines (facts_of last)
    -- each active member performed exactly the next runs of its module in the unreplicated program, each once
    pub stand : RecordsStand (behaviours_in plan) plan.deployment last
    -- each start, answer and activation came in the first step that allows it, and what may come has come
    pub timely : RecordsAreTimely declared_of turn_of plan.deployment (hosted_in plan) lines led.begun last
    -- each call for an ask, each reply and each snapshot is true of the unreplicated program
    pub asks : AsksAreTrue (behaviours_in plan) plan.deployment acts_of_nodes
    pub returns : ReturnsAreTrue (behaviours_in plan) plan.deployment acts_of_nodes
    pub others : OthersCiteNothing plan.deployment acts_of_nodes
    -- no two replies to one ask differ
    pub none_differ : NoneDiffer declared_of turn_of last
    -- where nothing is lost every root ends
    pub ends : IsQuiet last lines → CollatorsAskEnough plan → RootsAreDone plan.deployment last
    -- where no datagram is delivered twice, and nothing else happens, so many are sent at most
    pub few : All IsDelivery lines → AreOnce lines → length last.sent ≤ enough_deliveries plan

-- ---- what is written

-- over a shelf with these contents, a text is written, for words that ask to simulate a program, of a world of which this is kept
pub record IsKept (contents : List ℕ → Option (List ℕ)) (words : List (List ℕ)) (text : List ℕ) : Type 0 where
  pub plan : Plan
  pub lines : List Line
  pub last : WorldState Behaviour
  pub of_world : IsOfWorld contents words plan lines last text
  pub kept : KeepsPromise plan lines last of_world.led

-- it is kept of the world that the lines before one lead to; written are its datagrams, and what is said of the line
pub record IsKeptSoFar (plan : Plan) (lines : List Line) (text : List ℕ) : Type 0 where
  pub before : List Line
  pub line : Line
  pub others : List Line
  pub lines_are : lines ≡ before ++ line ∷ others
  pub last : WorldState Behaviour
  pub led : AreLed plan before last
  pub kept : KeepsPromise plan before last led
  pub said : List ℕ
  pub written : text ≡ sent_text (names_in plan) last ++ said

-- a schedule is read as none of lines, nothing was booted, or its lines are written so far
abbrev pub IsKeptOfSchedule : Plan → List ℕ → List ℕ → Type 0
IsKeptOfSchedule plan schedule text =
    ((fault : ScheduleFault) × IsAnswer (numbers_of plan.deployment.nodes) schedule (Err fault))
    ⊎ (IsSpentAtBoot plan text
    ⊎ ((lines : List Line) × IsAnswer (numbers_of plan.deployment.nodes) schedule (Ok lines) × IsKeptSoFar plan lines text))

-- ---- of a call

-- where the shelf tells its contents, and the words ask to simulate a program
abbrev pub WritesKept : Option (List ℕ → Option (List ℕ)) → List (List ℕ) → Option (List ℕ) → Option (List ℕ) → Type 0
WritesKept shelf words old new =
    IfSome shelf (λ contents. AskToSimulate words → (text : List ℕ) × Writes old new text × IsKept contents words text)

-- the same of a replay of lines that end too early
abbrev pub WritesKeptSoFar : Option (List ℕ → Option (List ℕ)) → List (List ℕ) → Option (List ℕ) → Option (List ℕ) → Type 0
WritesKeptSoFar shelf words old new =
    IfSome shelf (λ contents. (plan : Plan) (schedule : List ℕ) → IsReplay contents words plan schedule
    → (text : List ℕ) × Writes old new text × IsKeptOfSchedule plan schedule text)
