use Rattle.std.proofs.Common.{◌≡◌, ℕ, Some, length}
use Rattle.std.specs.Prelude.{nat_lt, ◌&&◌}
use Rattle.std.specs.List.{list_any}
use Rattle.circus_check.specs.Seen.Rows.{says, row_says}
use Rattle.circus_check.proofs.reach.Reach.row.Given as goal

abbrev pub invariant-loop-to : goal.invariant-loop-to
invariant-loop-to l = record {
  long : length l.row ≡ l.to;
  told : (j : ℕ) → row_says (Some l.row) j ≡ (nat_lt j l.to && list_any (λ k. says l.self k j) l.goods);
}
