-- What the calls of a sink leave.
use Rattle.std.specs.Prelude.{◌≡◌, ℕ, List, [], Option, IfSome, Result, Ok, Err}
use Rattle.circus_outside.specs.Faults.{Rose}
use Rattle.circus_outside.specs.declared.sink.SinkFault.{SinkFault}
use Rattle.circus_outside.specs.declared.sink.SinkFault.TheVariants.{NoMemory, Failed}

-- the count rises in a failed call, and in no other
abbrev pub SinkCounts : {A : Type 0} → Result A SinkFault → ℕ → ℕ → Type 0
SinkCounts (Ok answer) old new = new ≡ old
SinkCounts (Err NoMemory) old new = new ≡ old
SinkCounts (Err Failed) old new = Rose old new

-- where a sink tells what it has gathered, nothing of that is left
abbrev pub HasGivenOn : Option (List ℕ) → Type 0
HasGivenOn gathered = IfSome gathered (λ left. left ≡ [])
