-- What bytes are restored to.
use Rattle.std.specs.Prelude.{◌≡◌, ◌≢◌, ℕ, ◌<◌, Bool, true, List, [], Result, Ok, Err}
use Rattle.circus_value.specs.ValueTree.{ValueTree}
use Rattle.circus_value.specs.Fits.{all_fit}
use Rattle.circus_value.specs.declared.shape.Shape.{Shape}
use Rattle.circus_external.specs.Spelling.{pieces_of_all, fields_admit}
use Rattle.circus_external.specs.Refusal.{IsShort, IsNotAValue, IsBadPad, IsFound}
use Rattle.circus_transfer.specs.Snapshot.{snapshot_fields, snapshot_bytes}
use Rattle.circus_transfer.specs.declared.fault.TransferFault.{TransferFault}
use Rattle.circus_transfer.specs.declared.fault.TransferFault.TheVariants.{Short, BadField, NotAValue, BadPad, Excess, NoMemory}

-- values that are a snapshot of these shapes
abbrev pub is_snapshot : List Shape → List ValueTree → Bool
is_snapshot shapes values = fields_admit (snapshot_fields shapes) values

-- bytes are left behind a snapshot
pub record IsExcess (shapes : List Shape) (bytes : List ℕ) (place : ℕ) : Type 0 where
  pub values : List ValueTree
  pub rest : List ℕ
  pub snapshot : IsFound (is_snapshot shapes) pieces_of_all bytes values place rest
  pub left : rest ≢ []

-- the bytes are a snapshot, or this is the first place where they are none
abbrev pub IsRestored : List Shape → List ℕ → Result (List ValueTree × ℕ) TransferFault → Type 0
IsRestored shapes bytes (Ok (state, count)) = (all_fit shapes state ≡ true) × (bytes ≡ snapshot_bytes count state)
IsRestored shapes bytes (Err (Short place)) = IsShort (is_snapshot shapes) pieces_of_all bytes place
IsRestored shapes bytes (Err (BadField place)) = (place ≡ 0) × IsNotAValue (is_snapshot shapes) pieces_of_all bytes place
IsRestored shapes bytes (Err (NotAValue place)) = (0 < place) × IsNotAValue (is_snapshot shapes) pieces_of_all bytes place
IsRestored shapes bytes (Err (BadPad place)) = IsBadPad (is_snapshot shapes) pieces_of_all bytes place
IsRestored shapes bytes (Err (Excess place)) = IsExcess shapes bytes place
IsRestored shapes bytes (Err NoMemory) = Unit {0}
