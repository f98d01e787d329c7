use Rattle.circus_text.proofs.Numbers.{decimal_spelling}
use Rattle.circus_text.proofs.laws.decimal_numbers.Goals as goal

pub returns : goal.returns
returns c = decimal_spelling
