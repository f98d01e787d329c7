use Rattle.circus_syntax.specs.Spelling.{most_levels}
use Rattle.circus_syntax.proofs.ByLine.{procedure_is}
use Rattle.circus_syntax.proofs.token_reader.Reader.procedure_parts.Goals as goal

pub returns : goal.returns
returns c = procedure_is most_levels _ _ _ _ _ _ _ _ _ _ c.word.ensures c.in_ok-arguments.ensures c.in_ok-results.ensures c.in_ok-reports.ensures c.number_at_end.ensures
