use Rattle.std.proofs.Common.{[], ◌∷◌, ◌++◌, drop, arith}
use Rattle.circus_value.specs.ValueOf.{tree_of}
use Rattle.circus_external.specs.Reading.{fields_reading}
use Rattle.circus_transfer.specs.Snapshot.{fields_of}
use Rattle.circus_transfer.proofs.Fields.{shapes_more}
use Rattle.circus_transfer.proofs.values.end_of_values.Goals as goal

pub loop-shape-preserved : goal.loop-shape-preserved
loop-shape-preserved g c =
    let octets = g.S.ByteSource.octets c.args.source.now in
    let before = c.loop-shape.invariant.read in
    let shapes = c.as_slice-shape-items.result.now in
    let whole = fields_reading (fields_of c.args.shapes.now) c.args.from (drop c.args.from octets) in
    let t = tree_of c.in_ok-_value._value in
    record {
      within = c.in_ok-_value.ensures.0;
      read = (
        before.0 ++ t ∷ [],
        shapes_more shapes c.loop-shape.shape-index c.loop-shape.at c.in_ok-_value.next (drop c.loop-shape.at octets) (drop c.in_ok-_value.next octets) c.shape-item.result
            before.0 t whole (omega arith) c.shape-item.is c.in_ok-_value.ensures.1 before.1,
      );
    }
