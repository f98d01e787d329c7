use Rattle.std.proofs.Common.{◌≡◌, drop}
use Rattle.circus_fault.specs.Least.{least_from}
use Rattle.circus_fault.specs.Seen.Tables.{known_of}
use Rattle.circus_idl.specs.Rank.{rank_of}
use Rattle.circus_idl.specs.Faults.{unknown_errors}
use Rattle.circus_idl.proofs.scope.unknown_errors.Given as goal

-- the names that are left decide with what is kept
abbrev pub invariant-loop-name : goal.invariant-loop-name
invariant-loop-name l =
    least_from rank_of l.best.fault (unknown_errors (known_of l.errors) (drop l.name-index l.names))
    ≡ least_from rank_of l.fn.best.fault (unknown_errors (known_of l.errors) l.names)
