-- The place that code gives, as an answer of contracts of which the value is not kept.
use Rattle.std.specs.Prelude.{ℕ, List, Result, Ok, Err}
use Rattle.circus_external.specs.declared.fault.ExternalFault.{ExternalFault}
use Rattle.circus_external.specs.Answer.{Answer}
use Rattle.circus_external.specs.Seen.Given.{Gives}

-- of some value the code's place is the one behind it in this answer, or the fault is its fault, or memory ran out
abbrev pub EndsAt : {X : Type 0} → List ℕ → Result ℕ ExternalFault → Answer X → Type 0
EndsAt {X} bytes (Ok end) answer = (x : X) × Gives (λ (y : X). y) bytes (Ok (x, end)) answer
EndsAt {X} bytes (Err fault) answer = Gives (λ (y : X). y) bytes (Err fault) answer
