use Rattle.circus_expression.proofs.Stands.{place_is}
use Rattle.circus_expression.proofs.reading.place_text.Goals as goal

pub returns : goal.returns
returns c = place_is c.args.levels c.args.reader.now c.name.new.self c.any_suffixes.new.reader c.in_ok-name.name c.in_ok-suffixes.suffixes c.in_ok-name.ensures c.in_ok-suffixes.ensures
