-- The ask at a number comes next where its thread has calls left.
use Rattle.std.proofs.Common.{◌≡◌, ℕ, suc, ◌<◌, ◌≤◌, false, if◌then◌else◌, List, [], ◌∷◌, length, drop, Some, ap, arith, length-drop}
use Rattle.std.specs.Prelude.{unwrap_or}
use Rattle.circus_model.specs.Execution.{is_spent}
use Rattle.circus_record.specs.declared.record.AskRecord.{AskRecord}
use Rattle.circus_dues.specs.Seen.Steps.{next_ask}

next_at : (number : ℕ) (clock : List ℕ) (asks : List AskRecord) → 1 ≤ length asks → is_spent clock ≡ false → next_ask number clock asks ≡ Some number
next_at number clock [] some left = absurd (omega (arith, some))
next_at number clock (ask ∷ asks) some left =
    ap (λ b. if b then next_ask (suc number) (unwrap_or ask.after clock) asks else Some number) left

pub next_there : (number : ℕ) (clock : List ℕ) (asks : List AskRecord) → number < length asks → is_spent clock ≡ false → next_ask number clock (drop number asks) ≡ Some number
next_there number clock asks below left =
    let long = length-drop number asks in
    next_at number clock (drop number asks) (omega (arith, below, long)) left
