use Rattle.std.proofs.Common.{◌∙◌}
use Rattle.circus_transfer.specs.Snapshot.{fields_of}
use Rattle.circus_transfer.proofs.Fields.{admits}
use Rattle.circus_transfer.proofs.snapshots.snapshot.Goals as goal

pub write_all-requires : goal.write_all-requires
write_all-requires c = (fields_of c.args.shapes.now, admits c.args.shapes.now c.args.state.now ∙ c.requires)
