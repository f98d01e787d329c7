-- What the steps of lines say that are followed to their end.
use Rattle.std.specs.Prelude.{ℕ, ◌≡◌, Option, Some, None, List, Result, Ok, Err}
use Rattle.circus_value.specs.ValueTree.{ValueTree}
use Rattle.circus_value.specs.declared.outcome.Outcome.{Outcome}
use Rattle.circus_model.specs.NextTurn.{NextTurn}
use Rattle.circus_model.specs.declared.signature.Signature.{Signature}
use Rattle.circus_record.specs.Naming.{Names}
use Rattle.circus_schedule.specs.declared.line.Line.{Line}
use Rattle.circus_world.specs.WorldState.{WorldState}
use Rattle.circus_world.specs.Legal.{refusal}
use Rattle.circus_world.specs.Course.{step_line}
use Rattle.circus_report.specs.declared.running.RunFault.{RunFault}
use Rattle.circus_report.specs.declared.running.RunFault.TheVariants as fault
use Rattle.circus_commands.specs.Ending.{Ending}
use Rattle.circus_commands.specs.Spent.{end_of_spent}
use Rattle.circus_program.specs.declared.drawing.Cut.{Cut}
use Rattle.circus_program.specs.Replay.{cause_text, refuse_line, follow_lines}

module _ {M : Type 0} (declared : M → Signature) (turn : M → List ValueTree → ℕ → List ValueTree → List Outcome → NextTurn) where
  -- a line was stepped, or why not
  abbrev pub IsOneStep : Line → WorldState M → Result (WorldState M) RunFault → Type 0
  IsOneStep line w (Ok next) = (refusal w line ≡ None) × (step_line declared turn line w ≡ Ok next)
  IsOneStep line w (Err (fault.Illegal cause)) = refusal w line ≡ Some cause
  IsOneStep line w (Err (fault.Spent node peer)) = (refusal w line ≡ None) × (step_line declared turn line w ≡ Err (node, peer))
  IsOneStep line w (Err fault.SinkFailed) = ⊥
  IsOneStep line w (Err fault.NoMemory) = Unit {0}

  -- whatever comes of the world behind the lines, this comes of them
  abbrev pub Comes : List Line → WorldState M → (Names → (WorldState M → Ending) → Ending) → Type 0
  Comes lines w come = (names : Names) (end : WorldState M → Ending) → follow_lines declared turn names end 1 lines w ≡ come names end

  -- they end at the line of this number, for this fault
  abbrev pub IsCutBy : List Line → WorldState M → ℕ → RunFault → Type 0
  IsCutBy lines w number (fault.Illegal cause) = Comes lines w (λ names end. refuse_line number (cause_text names cause))
  IsCutBy lines w number (fault.Spent node peer) = Comes lines w (λ names end. end_of_spent names (node, peer))
  IsCutBy lines w number fault.SinkFailed = ⊥
  IsCutBy lines w number fault.NoMemory = Unit {0}

  -- all were stepped, or one of them ends them
  abbrev pub IsFollowed : List Line → WorldState M → Result (WorldState M) Cut → Type 0
  IsFollowed lines w (Ok last) = Comes lines w (λ names end. end last)
  IsFollowed lines w (Err cut) = IsCutBy lines w cut.number cut.fault
