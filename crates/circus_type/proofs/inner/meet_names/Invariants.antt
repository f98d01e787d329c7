use Rattle.std.proofs.Common.{◌≡◌, drop}
use Rattle.circus_fault.specs.Least.{least_from}
use Rattle.circus_fault.specs.Seen.Tables.{holds_name}
use Rattle.circus_type.specs.Inside.{repeated_names, also_names}
use Rattle.circus_type.proofs.inner.meet_names.Given as goal

-- the names that are left decide with what is kept
abbrev pub invariant-loop-name : goal.invariant-loop-name
invariant-loop-name g l = record {
  found :
      least_from g.C.Cause.rank l.best.fault (repeated_names g.C.WithTypeCauses.embed (holds_name l.names) (drop l.name-index l.group))
      ≡ least_from g.C.Cause.rank l.fn.best.fault (repeated_names g.C.WithTypeCauses.embed (holds_name l.fn.names) l.group);
  added : also_names (drop l.name-index l.group) (holds_name l.names) ≡ also_names l.group (holds_name l.fn.names);
}
