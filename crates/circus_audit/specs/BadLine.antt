-- The first line of a text that no record of a node of a program goes on with.
use Rattle.std.specs.Prelude.{◌≡◌, ℕ, zero, suc, List, take, Result, Ok, Err}
use Rattle.circus_config.specs.declared.plan.Plan.{Plan}
use Rattle.circus_audit.specs.declared.given.Given.{Given}
use Rattle.circus_audit.specs.declared.fault.RecordFault.{RecordFault}
use Rattle.circus_audit.specs.declared.fault.RecordFault.TheVariants.{BadLine, NoMemory}
use Rattle.circus_audit.specs.TextPieces.{pieces}
use Rattle.circus_audit.specs.RecordText.{IsRecordText}

-- a record of a node of the program has the first lines of a text, so many
pub record Begins (plan : Plan) (text : List ℕ) (lines : ℕ) : Type 0 where
  pub given : Given
  pub whole : List ℕ
  pub is_text : IsRecordText plan given whole
  pub same : take lines (pieces whole) ≡ take lines (pieces text)

-- no record has the first lines up to this one, which is counted from 1; but one has those before it. What stands behind the last newline
-- counts as a line, also where it is nothing
abbrev pub IsBadLine : Plan → List ℕ → ℕ → Type 0
IsBadLine plan text zero = ⊥
IsBadLine plan text (suc before) = Begins plan text before × (Begins plan text (suc before) → ⊥)

-- where reading refuses a line, it is the bad one
abbrev pub IsBadIn : Plan → List ℕ → Result Given RecordFault → Type 0
IsBadIn plan text (Ok given) = Unit {0}
IsBadIn plan text (Err (BadLine line)) = IsBadLine plan text line
IsBadIn plan text (Err NoMemory) = Unit {0}
