-- The answer of reading a record.
use Rattle.std.specs.Prelude.{◌≡◌, ℕ, Result, Ok, Err, Option, Some, None}
use Rattle.circus_audit.specs.declared.given.Given.{Given}
use Rattle.circus_audit.specs.declared.fault.RecordFault.{RecordFault}
use Rattle.circus_audit.specs.declared.fault.RecordFault.TheVariants.{BadLine, NoMemory}

-- it is this one, or memory ran out
abbrev pub IsRead : Result Given RecordFault → Option Given → Type 0
IsRead (Ok given) answer = answer ≡ Some given
IsRead (Err (BadLine line)) answer = answer ≡ None
IsRead (Err NoMemory) answer = Unit {0}

-- a bad line has this number
abbrev pub IsLine : Result Given RecordFault → ℕ → Type 0
IsLine (Ok given) bad = Unit {0}
IsLine (Err (BadLine line)) bad = line ≡ bad
IsLine (Err NoMemory) bad = Unit {0}
