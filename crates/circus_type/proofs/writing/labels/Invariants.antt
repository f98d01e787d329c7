use Rattle.std.proofs.Common.{◌≡◌, ◌++◌, drop, map}
use Rattle.circus_type.specs.InRange.{AreLabelsInRange}
use Rattle.circus_type.specs.Meaning.{label_meant}
use Rattle.circus_type.proofs.writing.labels.Given as goal

-- the labels that are left follow those that are written
abbrev pub invariant-loop-label : goal.invariant-loop-label
invariant-loop-label l = record {
  in_range : AreLabelsInRange (drop l.label-index l.list);
  written : l.labels ++ map label_meant (drop l.label-index l.list) ≡ map label_meant l.list;
}
