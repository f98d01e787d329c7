use Rattle.std.proofs.Common.{◌≡◌, drop}
use Rattle.circus_fault.specs.Least.{least_from}
use Rattle.circus_fault.specs.Known.{nobody}
use Rattle.circus_fault.specs.Seen.Tables.{known_of}
use Rattle.circus_place.specs.Rank.{rank_of}
use Rattle.circus_place.specs.Faults.{repeated_names, attribute_names}
use Rattle.circus_place.proofs.check.attributes.Given as goal

-- the attributes that are left decide with what is kept
abbrev pub invariant-loop-attribute : goal.invariant-loop-attribute
invariant-loop-attribute l =
    least_from rank_of l.best.fault (repeated_names (known_of l.names) (attribute_names (drop l.attribute-index l.attributes)))
    ≡ least_from rank_of l.fn.best.fault (repeated_names nobody (attribute_names l.attributes))
