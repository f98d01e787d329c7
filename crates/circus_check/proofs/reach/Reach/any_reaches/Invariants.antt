use Rattle.std.proofs.Common.{◌≡◌, drop}
use Rattle.std.specs.List.{list_any}
use Rattle.circus_check.specs.Seen.Rows.{says}
use Rattle.circus_check.proofs.reach.Reach.any_reaches.Given as goal

abbrev pub invariant-loop-number : goal.invariant-loop-number
invariant-loop-number l = list_any (λ k. says l.self k l.to) (drop l.number-index l.numbers) ≡ list_any (λ k. says l.self k l.to) l.numbers
