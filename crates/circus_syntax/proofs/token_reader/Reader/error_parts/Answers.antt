use Rattle.circus_syntax.specs.Spelling.{most_levels}
use Rattle.circus_syntax.proofs.ByLine.{error_is}
use Rattle.circus_syntax.proofs.token_reader.Reader.error_parts.Goals as goal

pub returns : goal.returns
returns c = error_is most_levels _ _ _ _ _ _ c.word.ensures c.in_ok-arguments.ensures c.number_at_end.ensures
