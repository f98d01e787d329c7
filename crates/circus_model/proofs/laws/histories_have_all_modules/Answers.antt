use Rattle.circus_model.proofs.Histories.{history_length}
use Rattle.circus_model.proofs.laws.histories_have_all_modules.Goals as goal

pub returns : goal.returns
returns c = λ program agree lawful. history_length program agree lawful
