-- The count of a link's faults behind a part of the code.
use Rattle.std.specs.Prelude.{◌≡◌, ℕ, Result, Ok, Err}
use Rattle.circus_outside.specs.Faults.{Rose}
use Rattle.circus_serve.specs.declared.fault.ServeFault.{ServeFault}
use Rattle.circus_serve.specs.declared.fault.ServeFault.TheVariants as fault

-- it rises where the link failed, and nowhere else
abbrev pub ServeCounts : {A : Type 0} → Result A ServeFault → ℕ → ℕ → Type 0
ServeCounts (Ok answer) old new = new ≡ old
ServeCounts (Err (fault.Spent node)) old new = new ≡ old
ServeCounts (Err fault.LinkFailed) old new = Rose old new
ServeCounts (Err fault.NoMemory) old new = new ≡ old
