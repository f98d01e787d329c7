use Rattle.circus_stub.proofs.UnpackLemmas.{all_stand}
use Rattle.circus_stub.proofs.pack.pack_values.Goals as goal

pub write_all-requires : goal.write_all-requires
write_all-requires c =
    (c.requires.0, all_stand c.args.operations.now c.requires.0 c.requires.1, c.requires.2)
