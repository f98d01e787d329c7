use Rattle.std.proofs.Common.{◌≡◌, drop, map}
use Rattle.circus_syntax.specs.TypeTree.{arm_trees}
use Rattle.circus_syntax.specs.TypeOf.{arm_of}
use Rattle.circus_fault.specs.Least.{least_from}
use Rattle.circus_fault.specs.Known.{no_number}
use Rattle.circus_fault.specs.Seen.Tables.{holds_name, holds_number}
use Rattle.circus_type.specs.Inside.{labels_faults, arm_labels, no_name}
use Rattle.circus_type.proofs.inner.arm_labels.Given as goal

-- the arms that are left decide with what is kept
abbrev pub invariant-loop-arm : goal.invariant-loop-arm
invariant-loop-arm g l =
    least_from g.C.Cause.rank l.best.fault (labels_faults g.C.WithTypeCauses.embed (holds_name l.names) (holds_number l.numbers) (arm_labels (arm_trees (map arm_of (drop l.arm-index l.arms)))))
    ≡ least_from g.C.Cause.rank l.fn.best.fault (labels_faults g.C.WithTypeCauses.embed no_name no_number (arm_labels (arm_trees (map arm_of l.arms))))
