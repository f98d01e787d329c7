-- What the audit of a node's record comes to.
use Rattle.std.specs.Prelude.{ℕ, ◌≡◌, ◌<◌, ◌⊎◌, List, ◌++◌, codes, length}
use Rattle.std.specs.Fmt.{decimal}
use Rattle.circus_record.specs.Line.{line}
use Rattle.circus_config.specs.declared.plan.Plan.{Plan}
use Rattle.circus_plan_modules.specs.Loaded.{behaviours_in}
use Rattle.circus_audit.specs.declared.given.Given.{Given}
use Rattle.circus_audit.specs.BadLine.{IsBadLine}
use Rattle.circus_audit.specs.RecordText.{IsRecordText}
use Rattle.circus_verdict.specs.declared.verdict.Verdict.{Verdict}
use Rattle.circus_verdict.specs.declared.verdict.Verdict.TheVariants.{Yes, NotARun, Run}
use Rattle.circus_verdict.specs.Verdict.{IsVerdict}
use Rattle.circus_commands.specs.declared.status.Status.TheVariants.{Done, BadRecord}
use Rattle.circus_commands.specs.Ending.{Ending}
use Rattle.circus_simulation.specs.Booted.{names_in}

-- the text, of fewer than 2^32 - 1 bytes, is the record of a node of the program, and says this
abbrev pub IsRecord : Plan → List ℕ → Given → Type 0
IsRecord plan text given = (length text < 4294967295) × IsRecordText plan given text

-- it is none, and this is the number of its first line with which no record goes on
abbrev pub IsBadAt : Plan → List ℕ → ℕ → Type 0
IsBadAt plan text number = IsBadLine plan text number

-- it is a record, and this is so of what it says
pub record IsJudged (plan : Plan) (text : List ℕ) (given : Given) (verdict : Verdict) : Type 0 where
  pub is_record : IsRecord plan text given
  pub verdict_is : IsVerdict plan.deployment (behaviours_in plan) given verdict

-- the end of a record of a node of this name
abbrev pub verdict_end : List ℕ → Verdict → Ending
verdict_end name Yes = record { status = Done; text = line (codes "circus audit 1") ++ line (codes "yes") }
verdict_end name NotARun = record { status = BadRecord; text = line (codes "not a run of " ++ name) }
verdict_end name (Run wrong) = record { status = BadRecord; text = line (codes "run " ++ decimal wrong ++ codes " does not stand") }

-- the end of a text of which no record goes on with the line of this number
abbrev pub bad_line_end : ℕ → Ending
bad_line_end number = record { status = BadRecord; text = line (codes "record line " ++ decimal number ++ codes ": bad line") }

-- the bytes of the record come to this end
abbrev pub IsEndOfAudit : Plan → List ℕ → Ending → Type 0
IsEndOfAudit plan text ending =
    ((given : Given) × (verdict : Verdict) × IsJudged plan text given verdict × (ending ≡ verdict_end ((names_in plan).node given.node) verdict))
    ⊎ ((number : ℕ) × IsBadAt plan text number × (ending ≡ bad_line_end number))

-- ---- why a record is refused

-- it has a line with which no record goes on, it is no run of its node, or it doesn't stand
abbrev pub IsRefusedRecord : Plan → List ℕ → Type 0
IsRefusedRecord plan text =
    ((number : ℕ) × IsBadAt plan text number)
    ⊎ (((given : Given) × IsJudged plan text given NotARun) ⊎ ((given : Given) × (wrong : ℕ) × IsJudged plan text given (Run wrong)))

-- it is a true one
abbrev pub IsTrueRecord : Plan → List ℕ → Type 0
IsTrueRecord plan text = (given : Given) × IsJudged plan text given Yes
