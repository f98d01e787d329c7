use Rattle.std.proofs.Common.{◌≡◌, ◌≤◌, List, length, drop}
use Rattle.circus_value.specs.ValueTree.{ValueTree}
use Rattle.circus_external.specs.Reading.{fields_reading}
use Rattle.circus_external.proofs.ReadLemmas.{behind}
use Rattle.circus_transfer.specs.Snapshot.{fields_of}
use Rattle.circus_transfer.proofs.Fields.{left}
use Rattle.circus_transfer.proofs.values.end_of_values.Given as goal

-- some values stand in front of those that are left
abbrev pub invariant-loop-shape : goal.invariant-loop-shape
invariant-loop-shape g l = record {
  within : l.at ≤ length (g.S.ByteSource.octets l.source);
  read : (done : List ValueTree)
      × (fields_reading (fields_of l.shapes) l.from (drop l.from (g.S.ByteSource.octets l.source))
      ≡ behind done (left l.shape-items l.shape-index l.at (drop l.at (g.S.ByteSource.octets l.source))));
}
