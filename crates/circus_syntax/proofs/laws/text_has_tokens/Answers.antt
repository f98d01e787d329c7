use Rattle.circus_syntax.proofs.Viewed.{text_tokens}
use Rattle.circus_syntax.proofs.laws.text_has_tokens.Goals as goal

pub returns : goal.returns
returns c = text_tokens
