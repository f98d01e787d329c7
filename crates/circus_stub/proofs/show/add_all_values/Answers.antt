use Rattle.circus_stub.proofs.UnpackLemmas.{all_stand}
use Rattle.circus_stub.proofs.show.add_all_values.Goals as goal

pub add_values-requires : goal.add_values-requires
add_values-requires c = (c.requires.0, all_stand c.args.operations.now c.requires.0 c.requires.1)

pub returns : goal.returns
returns c = λ fields flat. c.add_values.ensures fields (all_stand c.args.operations.now fields flat)
