use Rattle.std.proofs.lemmas.List.{map-set}
use Rattle.tests_command.proofs.Replacing.{replaced}
use Rattle.tests_command.proofs.tally.put_tally.Goals as goal

pub returns : goal.returns
returns c = rw map-set (replaced _ _ 0 _ c.requires.modules (c.is_no_root.ensures c.if-not-is_no_root.false))
