use Rattle.std.proofs.Common.{◌≡◌, drop}
use Rattle.circus_fault.specs.Least.{least_from}
use Rattle.circus_fault.specs.Seen.Tables.{known_of}
use Rattle.circus_place.specs.Rank.{rank_of}
use Rattle.circus_place.specs.Faults.{unknown_names}
use Rattle.circus_place.proofs.check.check_unknown.Given as goal

-- the names that are left decide with what is kept
abbrev pub invariant-loop-name : goal.invariant-loop-name
invariant-loop-name l =
    least_from rank_of l.best.fault (unknown_names (known_of l.machines) (drop l.name-index l.names)) ≡ least_from rank_of l.fn.best.fault (unknown_names (known_of l.machines) l.names)
