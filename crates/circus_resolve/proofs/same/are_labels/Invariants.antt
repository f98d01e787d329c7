use Rattle.std.proofs.Common.{◌≡◌, drop}
use Rattle.circus_resolve.specs.Same.{labels_eq}
use Rattle.circus_resolve.proofs.same.are_labels.Given as goal

-- the labels that are left decide
abbrev pub invariant-loop-place : goal.invariant-loop-place
invariant-loop-place l = labels_eq (drop l.place l.one-items) (drop l.place l.against) ≡ labels_eq l.some l.others
