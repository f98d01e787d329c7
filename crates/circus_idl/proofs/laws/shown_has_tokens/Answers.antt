use Rattle.circus_idl.proofs.ShownAgain.{shown_read}
use Rattle.circus_idl.proofs.laws.shown_has_tokens.Goals as goal

pub returns : goal.returns
returns c = shown_read
