use Rattle.circus_text.proofs.Spaced.{spaced_read}
use Rattle.circus_text.proofs.laws.spaced_tokens.Goals as goal

pub returns : goal.returns
returns c = spaced_read
