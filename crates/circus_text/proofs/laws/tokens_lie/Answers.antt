use Rattle.circus_text.proofs.TokensLie.{tokens_in, tokens_in_order}
use Rattle.circus_text.proofs.laws.tokens_lie.Goals as goal

pub returns : goal.returns
returns c = λ text found are. (tokens_in text found are, tokens_in_order text found are)
