use Rattle.circus_text.proofs.Divisions.{answer_one}
use Rattle.circus_text.proofs.laws.one_answer.Goals as goal

pub returns : goal.returns
returns c = answer_one
