use Rattle.std.proofs.Common.{◌≡◌, ℕ, ◌<◌, length}
use Rattle.std.specs.Prelude.{◌==◌}
use Rattle.std.specs.List.{list_any}
use Rattle.circus_place.specs.Seen.Table.{flag_at}
use Rattle.circus_place.proofs.choice.present_at.Given as goal

abbrev pub invariant-loop-machine : goal.invariant-loop-machine
invariant-loop-machine l = (length l.present ≡ l.machine)
    × ((m : ℕ) → m < l.machine → flag_at l.present m ≡ list_any (λ n. m == n) l.placing.present)
