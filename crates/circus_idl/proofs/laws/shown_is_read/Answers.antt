use Rattle.circus_idl.proofs.ShownAgain.{shown_again}
use Rattle.circus_idl.proofs.laws.shown_is_read.Goals as goal

pub returns : goal.returns
returns c = shown_again
