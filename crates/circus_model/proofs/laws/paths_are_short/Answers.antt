use Rattle.circus_model.proofs.Histories.{in_history}
use Rattle.circus_model.proofs.laws.paths_are_short.Goals as goal

pub returns : goal.returns
returns c = λ program place index run agree lawful is.
    (in_history program agree lawful place index run is).logged.short
