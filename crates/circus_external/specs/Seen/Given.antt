-- The answer that code gives, as an answer of contracts.
use Rattle.std.specs.Prelude.{◌≡◌, ◌≤◌, ℕ, List, length, drop, slice_range, Result, Ok, Err}
use Rattle.circus_external.specs.declared.fault.ExternalFault.{ExternalFault}
use Rattle.circus_external.specs.declared.fault.ExternalFault.TheVariants as fault
use Rattle.circus_value.specs.ValueTree.{ValueTree}
use Rattle.circus_value.specs.ShapeTree.{ShapeTree}
use Rattle.circus_external.specs.Spelling.{IsSpelling}
use Rattle.circus_external.specs.Answer.{Answer, found, short, not_a_value, bad_pad}

-- the code's answer is this one, or memory ran out
abbrev pub Gives : {X Y : Type 0} → (Y → X) → List ℕ → Result (Y × ℕ) ExternalFault → Answer X → Type 0
Gives tree bytes (Ok r) answer = (r.1 ≤ length bytes) × (answer ≡ found (tree r.0) r.1 (drop r.1 bytes))
Gives tree bytes (Err (fault.Short place)) answer = answer ≡ short place
Gives tree bytes (Err (fault.NotAValue place)) answer = answer ≡ not_a_value place
Gives tree bytes (Err (fault.BadPad place)) answer = answer ≡ bad_pad place
Gives tree bytes (Err fault.NoMemory) answer = Unit {0}

-- the bytes from one place to another are those of a value of the shape
pub record IsReadAt (shape : ShapeTree) (value : ValueTree) (bytes : List ℕ) (at next : ℕ) : Type 0 where
  pub spelling : IsSpelling shape value (slice_range bytes at next)
  pub order : at ≤ next
  pub within : next ≤ length bytes
