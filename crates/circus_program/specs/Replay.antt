-- What the lines of a schedule come to: the report of the world that they leave, or what was sent before a line that is refused, and
-- why; and their picture.
use Rattle.std.specs.Prelude.{ℕ, ◌≡◌, ◌+◌, List, [], ◌∷◌, ◌++◌, length, codes, Result, Ok, Err}
use Rattle.std.specs.Option.{option_map_or}
use Rattle.std.specs.Fmt.{decimal}
use Rattle.circus_value.specs.ValueTree.{ValueTree}
use Rattle.circus_value.specs.declared.outcome.Outcome.{Outcome}
use Rattle.circus_model.specs.NextTurn.{NextTurn}
use Rattle.circus_model.specs.declared.signature.Signature.{Signature}
use Rattle.circus_record.specs.Line.{line}
use Rattle.circus_record.specs.Naming.{Names}
use Rattle.circus_idl.specs.declared.interface.Procedure.{Procedure}
use Rattle.circus_schedule.specs.declared.line.Line.{Line}
use Rattle.circus_schedule.specs.declared.schedule_fault.ScheduleFault.{ScheduleFault}
use Rattle.circus_schedule.specs.declared.schedule_fault.ScheduleFault.TheVariants as schedule_fault
use Rattle.circus_schedule.specs.Meaning.{numbers_of}
use Rattle.circus_schedule.specs.Answer.{IsAnswer}
use Rattle.circus_config.specs.declared.plan.Plan.{Plan}
use Rattle.circus_world.specs.declared.cause.LineCause.{LineCause}
use Rattle.circus_world.specs.declared.cause.LineCause.TheVariants.{NoDatagram, NotLive, NotCrashed, NotSpare, AlreadyJoined}
use Rattle.circus_world.specs.WorldState.{WorldState}
use Rattle.circus_world.specs.Legal.{refusal}
use Rattle.circus_world.specs.Course.{step_line}
use Rattle.circus_report.specs.Report.{rest_text}
use Rattle.circus_report.specs.Run.{beginning, sent_from}
use Rattle.circus_picture.specs.Picture.{procedures_in, picture_text}
use Rattle.circus_commands.specs.declared.status.Status.TheVariants.{Done, BadSchedule}
use Rattle.circus_commands.specs.Ending.{Ending}
use Rattle.circus_simulation.specs.Booted.{boot_world, names_in, after_step}
use Rattle.circus_program.specs.declared.shown.Shown.{Shown}
use Rattle.circus_program.specs.declared.shown.Shown.TheVariants.{Report, Picture}

-- ---- why it ends before its last line

-- why a line may not be stepped
abbrev pub cause_text : Names → LineCause → List ℕ
cause_text names (NoDatagram number sent) = codes "no datagram " ++ decimal number ++ codes ", " ++ decimal sent ++ codes " sent"
cause_text names (NotLive node) = names.node node ++ codes " is not live"
cause_text names (NotCrashed node) = names.node node ++ codes " has not crashed"
cause_text names (NotSpare node) = names.node node ++ codes " is not a spare"
cause_text names (AlreadyJoined node) = names.node node ++ codes " has joined"

-- the line of this number is refused
abbrev pub refuse_line : ℕ → List ℕ → Ending
refuse_line number cause = record { status = BadSchedule; text = line (codes "schedule line " ++ decimal number ++ codes ": " ++ cause) }

-- this is written in front
abbrev pub behind : List ℕ → Ending → Ending
behind text ending = record { status = ending.status; text = text ++ ending.text }

-- ---- over lines

module _ {M : Type 0} (declared : M → Signature) (turn : M → List ValueTree → ℕ → List ValueTree → List Outcome → NextTurn) where
  -- the lines from this number on, over what was written of the world so far
  abbrev pub replay_lines : Names → ℕ → List Line → WorldState M → Ending
  replay_lines names number [] w = record { status = Done; text = rest_text names w }
  replay_lines names number (next ∷ lines) w =
      option_map_or (λ cause. refuse_line number (cause_text names cause)) (refusal w next)
      (after_step names (λ after. behind (sent_from (length w.sent) after) (replay_lines names (number + 1) lines after)) (step_line declared turn next w))

  -- all lines, from boot on
  abbrev pub replayed_whole : Names → List Line → WorldState M → Ending
  replayed_whole names lines w = behind (beginning w) (replay_lines names 1 lines w)

  -- the lines from this number on, and the end that comes of the world behind them
  abbrev pub follow_lines : Names → (WorldState M → Ending) → ℕ → List Line → WorldState M → Ending
  follow_lines names end number [] w = end w
  follow_lines names end number (next ∷ lines) w =
      option_map_or (λ cause. refuse_line number (cause_text names cause)) (refusal w next)
      (after_step names (follow_lines names end (number + 1) lines) (step_line declared turn next w))

  -- the picture of all lines, from boot on
  abbrev pub picture_lines : Names → List (List Procedure) → List Line → WorldState M → Ending
  picture_lines names procedures lines w =
      follow_lines names (λ last. record { status = Done; text = picture_text names procedures lines last }) 1 lines w

-- ---- of a program

-- a replay of these lines, which writes as it goes
abbrev pub replay_of : Plan → List Line → Ending
replay_of plan lines =
    after_step (names_in plan) (replayed_whole (λ b. b.declared) (λ b. b.turn) (names_in plan) lines) (boot_world plan)

-- their picture, which is drawn once all are stepped
abbrev pub picture_of : Plan → List Line → Ending
picture_of plan lines =
    after_step (names_in plan) (picture_lines (λ b. b.declared) (λ b. b.turn) (names_in plan) (procedures_in plan) lines) (boot_world plan)

-- what is shown of them
abbrev pub shown_of : Shown → Plan → List Line → Ending
shown_of Report plan lines = replay_of plan lines
shown_of Picture plan lines = picture_of plan lines

-- what a schedule comes to that was read so
abbrev pub IsReplayOf : Shown → Plan → Result (List Line) ScheduleFault → Ending → Type 0
IsReplayOf shown plan (Ok lines) ending = ending ≡ shown_of shown plan lines
IsReplayOf shown plan (Err (schedule_fault.BadLine number)) ending = ending ≡ refuse_line number (codes "bad line")
IsReplayOf shown plan (Err (schedule_fault.UnknownNode number name)) ending = ending ≡ refuse_line number (codes "unknown node " ++ name)
IsReplayOf shown plan (Err (schedule_fault.TooManyLines number)) ending = ending ≡ refuse_line number (codes "too many lines")
IsReplayOf shown plan (Err schedule_fault.NoMemory) ending = ⊥

-- the end of a schedule of which this is shown
abbrev pub IsEndOfReplay : Shown → Plan → List ℕ → Ending → Type 0
IsEndOfReplay shown plan schedule ending =
    (read : Result (List Line) ScheduleFault) × IsAnswer (numbers_of plan.deployment.nodes) schedule read × IsReplayOf shown plan read ending
