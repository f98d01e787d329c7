-- The phase that what happened leads to, as the rules of joining make it.
use Rattle.std.proofs.Common.{◌≡◌, Bool, true, false, ◌&&◌, if◌then◌else◌, refl}
use Rattle.std.specs.Prelude.{ℕ}
use Rattle.circus_collate.specs.declared.table.Table.{Table}
use Rattle.circus_collate.specs.declared.table.RingResult.{RingResult}
use Rattle.circus_collate.specs.declared.table.RingResult.TheVariants.{Done, RootTroupe, NotSpare, Full}
use Rattle.circus_transfer.specs.declared.joiner.Joiner.{Joiner}
use Rattle.circus_transfer.specs.declared.joiner.Joiner.TheVariants.{Outside, Asking, Fetching, Active}
use Rattle.circus_transfer.specs.Joining.{after_join, after_table, after_state}
use Rattle.circus_transfer.specs.Joining as joining
use Rattle.circus_performing.specs.Performing.{is_active, is_fetching}
use Rattle.circus_member_theory.specs.Past.{is_outside, is_asking, is_done, taken_in}

pub once_told : (j : Joiner) → after_join j ≡ (if is_outside j then Asking else j)
once_told Outside = refl
once_told Asking = refl
once_told (Fetching incarnation) = refl
once_told (Active first) = refl

pub once_tabled : (table : Table) (j : Joiner) → after_table table j ≡ (if is_asking j then taken_in table else j)
once_tabled table Outside = refl
once_tabled table Asking = by_result table.result
  where
    by_result : (r : RingResult) → joining.taken_in r table.view.incarnation ≡ (if is_done r then Fetching table.view.incarnation else Outside)
    by_result Done = refl
    by_result RootTroupe = refl
    by_result NotSpare = refl
    by_result Full = refl
once_tabled table (Fetching incarnation) = refl
once_tabled table (Active first) = refl

pub once_restored : (count : ℕ) (j : Joiner) → after_state count j ≡ (if is_fetching j then Active count else j)
once_restored count Outside = refl
once_restored count Asking = refl
once_restored count (Fetching incarnation) = refl
once_restored count (Active first) = refl

-- ---- who isn't active wasn't before

pub inactive_told : (j : Joiner) → is_active (if is_outside j then Asking else j) ≡ false → is_active j ≡ false
inactive_told Outside is = refl
inactive_told Asking is = refl
inactive_told (Fetching incarnation) is = refl
inactive_told (Active first) is = is

pub inactive_tabled : (joins : Bool) (table : Table) (j : Joiner) → is_active (if joins && is_asking j then taken_in table else j) ≡ false → is_active j ≡ false
inactive_tabled true table Outside is = refl
inactive_tabled true table Asking is = refl
inactive_tabled true table (Fetching incarnation) is = refl
inactive_tabled true table (Active first) is = is
inactive_tabled false table j is = is

pub inactive_restored : (count : ℕ) (j : Joiner) → is_active (if is_fetching j then Active count else j) ≡ false → is_active j ≡ false
inactive_restored count Outside is = refl
inactive_restored count Asking is = refl
inactive_restored count (Fetching incarnation) is = refl
inactive_restored count (Active first) is = is
