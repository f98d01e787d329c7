-- What a text says as the record of a node of a program, or the number of its first bad line.
use Rattle.std.specs.Prelude.{◌≡◌, ℕ, List, Result, Ok, Err, Option, Some, None}
use Rattle.circus_config.specs.declared.plan.Plan.{Plan}
use Rattle.circus_audit.specs.declared.given.Given.{Given}
use Rattle.circus_audit.specs.declared.fault.RecordFault.{RecordFault}
use Rattle.circus_audit.specs.declared.fault.RecordFault.TheVariants.{BadLine, NoMemory}
use Rattle.circus_audit.specs.Seen.Reading.{record_read}
use Rattle.circus_audit.specs.Seen.Outlook.{bad_line}

abbrev pub or_bad : ℕ → Option Given → Result Given ℕ
or_bad line None = Err line
or_bad line (Some given) = Ok given

abbrev pub record_answer : Plan → List ℕ → Result Given ℕ
record_answer plan text = or_bad (bad_line plan text) (record_read plan text)

-- reading answers just this, or memory ran out
abbrev pub IsAnswer : Result Given RecordFault → Result Given ℕ → Type 0
IsAnswer (Ok given) answer = answer ≡ Ok given
IsAnswer (Err (BadLine line)) answer = answer ≡ Err line
IsAnswer (Err NoMemory) answer = Unit {0}
