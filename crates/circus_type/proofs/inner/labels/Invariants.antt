use Rattle.std.proofs.Common.{◌≡◌, drop}
use Rattle.circus_fault.specs.Least.{least_from}
use Rattle.circus_fault.specs.Known.{no_number}
use Rattle.circus_fault.specs.Seen.Tables.{holds_name, holds_number}
use Rattle.circus_type.specs.Inside.{labels_faults, no_name}
use Rattle.circus_type.proofs.inner.labels.Given as goal

-- the labels that are left decide with what is kept
abbrev pub invariant-loop-label : goal.invariant-loop-label
invariant-loop-label g l =
    least_from g.C.Cause.rank l.best.fault (labels_faults g.C.WithTypeCauses.embed (holds_name l.names) (holds_number l.numbers) (drop l.label-index l.labels))
    ≡ least_from g.C.Cause.rank l.fn.best.fault (labels_faults g.C.WithTypeCauses.embed no_name no_number l.labels)
