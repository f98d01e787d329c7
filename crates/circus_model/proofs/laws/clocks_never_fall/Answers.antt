use Rattle.circus_model.proofs.Histories.{in_history}
use Rattle.circus_model.proofs.laws.clocks_never_fall.Goals as goal

pub returns-clause-within : goal.returns-clause-within
returns-clause-within c = λ program place index run agree lawful is.
    (in_history program agree lawful place index run is).logged.grows

pub returns-clause-between : goal.returns-clause-between
returns-clause-between c = λ program place earlier later one other agree lawful less is_one is_other.
    (in_history program agree lawful place later other is_other).logged.after_others earlier one less is_one
