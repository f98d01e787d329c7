use Rattle.std.proofs.Common.{◌≡◌, ◌≤◌, length, drop}
use Rattle.circus_external.specs.Reading.{fields_reading}
use Rattle.circus_external.proofs.ReadLemmas.{behind}
use Rattle.circus_transfer.specs.Snapshot.{fields_of}
use Rattle.circus_transfer.proofs.Fields.{left}
use Rattle.circus_transfer.proofs.values.read_values.Given as goal

-- the values so far stand in front of those that are left
abbrev pub invariant-loop-shape : goal.invariant-loop-shape
invariant-loop-shape g l = record {
  within : l.at ≤ length (g.S.ByteSource.octets l.source);
  read :
      fields_reading (fields_of l.shapes) l.from (drop l.from (g.S.ByteSource.octets l.source))
      ≡ behind l.values (left l.shape-items l.shape-index l.at (drop l.at (g.S.ByteSource.octets l.source)));
}
