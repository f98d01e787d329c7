-- The answer of restoring, by what reading the fields of a snapshot comes to.
use Rattle.std.specs.Prelude.{◌≡◌, ◌≢◌, ℕ, List, [], length, Result, Ok, Err}
use Rattle.circus_value.specs.ValueTree.{ValueTree}
use Rattle.circus_external.specs.Answer.{Answer, found, short, not_a_value, bad_pad}
use Rattle.circus_transfer.specs.Snapshot.{snapshot_values}
use Rattle.circus_transfer.specs.declared.fault.TransferFault.{TransferFault}
use Rattle.circus_transfer.specs.declared.fault.TransferFault.TheVariants.{Short, BadField, NotAValue, BadPad, Excess, NoMemory}

-- values with bytes behind them
pub record HasExcess (place : ℕ) (answer : Answer (List ValueTree)) : Type 0 where
  pub values : List ValueTree
  pub rest : List ℕ
  pub answered : answer ≡ found values place rest
  pub left : rest ≢ []

abbrev pub Restores : List ℕ → Result (List ValueTree × ℕ) TransferFault → Answer (List ValueTree) → Type 0
Restores bytes (Ok r) answer = answer ≡ found (snapshot_values r.1 r.0) (length bytes) []
Restores bytes (Err (Short place)) answer = answer ≡ short place
Restores bytes (Err (BadField place)) answer = (place ≡ 0) × (answer ≡ not_a_value 0)
Restores bytes (Err (NotAValue place)) answer = answer ≡ not_a_value place
Restores bytes (Err (BadPad place)) answer = answer ≡ bad_pad place
Restores bytes (Err (Excess place)) answer = HasExcess place answer
Restores bytes (Err NoMemory) answer = Unit {0}
