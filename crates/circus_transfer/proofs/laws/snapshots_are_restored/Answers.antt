use Rattle.std.proofs.lemmas.Bool.{lt-ltb}
use Rattle.circus_transfer.proofs.Answered.{snapshot_restored}
use Rattle.circus_transfer.proofs.laws.snapshots_are_restored.Goals as goal

pub returns : goal.returns
returns c shapes state count result proper fit few restores other = snapshot_restored shapes state count result proper fit (lt-ltb count 4294967296 few) restores other
