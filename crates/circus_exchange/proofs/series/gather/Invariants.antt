use Rattle.std.proofs.Common.{◌≡◌}
use Rattle.std.specs.BTreeMap.{btree_map_len}
use Rattle.circus_exchange.specs.Seen.Numbered.{map_of_row}
use Rattle.circus_exchange.proofs.series.gather.Given as goal

abbrev pub invariant-loop-row : goal.invariant-loop-row
invariant-loop-row g l = map_of_row l.first l.row.items l.others.entries ≡ map_of_row l.initial.first l.initial.row.items l.initial.others.entries

abbrev pub decreases-loop-row : goal.decreases-loop-row
decreases-loop-row g l = btree_map_len l.others
