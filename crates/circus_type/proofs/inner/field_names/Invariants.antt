use Rattle.std.proofs.Common.{◌≡◌, drop, map}
use Rattle.circus_syntax.specs.TypeTree.{group_trees}
use Rattle.circus_syntax.specs.TypeOf.{group_of}
use Rattle.circus_fault.specs.Least.{least_from}
use Rattle.circus_fault.specs.Seen.Tables.{holds_name}
use Rattle.circus_type.specs.Inside.{repeated_names, group_names, no_name}
use Rattle.circus_type.proofs.inner.field_names.Given as goal

-- the groups that are left decide with what is kept
abbrev pub invariant-loop-group : goal.invariant-loop-group
invariant-loop-group g l =
    least_from g.C.Cause.rank l.best.fault (repeated_names g.C.WithTypeCauses.embed (holds_name l.names) (group_names (group_trees (map group_of (drop l.group-index l.groups)))))
    ≡ least_from g.C.Cause.rank l.fn.best.fault (repeated_names g.C.WithTypeCauses.embed no_name (group_names (group_trees (map group_of l.groups))))
