-- What the calls of a replay that writes its report answer and write.
use Rattle.std.specs.Prelude.{◌≡◌, ◌⊎◌, ℕ, List, [], length, drop, ◌++◌, Option, Some, None, Result, Ok, Err}
use Rattle.circus_value.specs.ValueTree.{ValueTree}
use Rattle.circus_value.specs.declared.outcome.Outcome.{Outcome}
use Rattle.circus_model.specs.NextTurn.{NextTurn}
use Rattle.circus_model.specs.declared.signature.Signature.{Signature}
use Rattle.circus_record.specs.Naming.{names_of}
use Rattle.circus_schedule.specs.declared.line.Line.{Line}
use Rattle.circus_world.specs.WorldState.{WorldState}
use Rattle.circus_world.specs.Legal.{refusal}
use Rattle.circus_world.specs.Course.{step_line}
use Rattle.circus_report.specs.Report.{first_line, sent_lines}
use Rattle.circus_report.specs.declared.running.RunFault.{RunFault}
use Rattle.circus_report.specs.declared.running.RunFault.TheVariants as fault
use Rattle.circus_report.specs.declared.put.PutFault.{PutFault}
use Rattle.circus_report.specs.declared.put.PutFault.TheVariants as put
use Rattle.circus_report.specs.Writing.{Writes, WritesPart}

-- why a replay ends where not all was written
abbrev pub fault_of : PutFault → RunFault
fault_of put.Sink = fault.SinkFailed
fault_of put.Memory = fault.NoMemory

-- a text was put, or a part of it, and the sink failed or memory ran out
abbrev pub IsPut : {A : Type 0} → List ℕ → Option (List ℕ) → Option (List ℕ) → Result A RunFault → Type 0
IsPut text old new (Ok done) = Writes old new text
IsPut text old new (Err fault.SinkFailed) = WritesPart old new text
IsPut text old new (Err fault.NoMemory) = WritesPart old new text
IsPut text old new (Err (fault.Illegal cause)) = ⊥
IsPut text old new (Err (fault.Spent node peer)) = ⊥

-- the sink's count of faults is as it was, unless the sink failed or memory ran out
abbrev pub IsCounted : {A : Type 0} → Result A RunFault → ℕ → ℕ → Type 0
IsCounted (Ok done) old new = new ≡ old
IsCounted (Err (fault.Illegal cause)) old new = new ≡ old
IsCounted (Err (fault.Spent node peer)) old new = new ≡ old
IsCounted (Err fault.SinkFailed) old new = Unit {0}
IsCounted (Err fault.NoMemory) old new = Unit {0}

module _ {M : Type 0} where
  -- the lines of what was sent from this number on
  abbrev pub sent_from : ℕ → WorldState M → List ℕ
  sent_from number w = sent_lines (names_of w.deployment.nodes []) number (drop number w.sent)

  -- the beginning of the report
  abbrev pub beginning : WorldState M → List ℕ
  beginning w = first_line ++ sent_from 0 w

module _ {M : Type 0} (declared : M → Signature) (turn : M → List ValueTree → ℕ → List ValueTree → List Outcome → NextTurn) where
  -- a part of the lines of what was sent in the step was put
  abbrev pub IsCut : Line → WorldState M → Option (List ℕ) → Option (List ℕ) → Type 0
  IsCut line w old new = (next : WorldState M) × (step_line declared turn line w ≡ Ok next) × WritesPart old new (sent_from (length w.sent) next)

  -- a line was stepped, and the lines of what was sent in it were put; or why not, and a part of them
  abbrev pub IsRun : Line → WorldState M → Option (List ℕ) → Option (List ℕ) → Result (WorldState M) RunFault → Type 0
  IsRun line w old new (Ok next) =
      (refusal w line ≡ None) × (step_line declared turn line w ≡ Ok next) × Writes old new (sent_from (length w.sent) next)
  IsRun line w old new (Err (fault.Illegal cause)) = (refusal w line ≡ Some cause) × (new ≡ old)
  IsRun line w old new (Err (fault.Spent node peer)) = (refusal w line ≡ None) × (step_line declared turn line w ≡ Err (node, peer)) × (new ≡ old)
  IsRun line w old new (Err fault.SinkFailed) = (refusal w line ≡ None) × IsCut line w old new
  IsRun line w old new (Err fault.NoMemory) = (new ≡ old) ⊎ ((refusal w line ≡ None) × IsCut line w old new)
