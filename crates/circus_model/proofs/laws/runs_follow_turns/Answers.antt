use Rattle.std.proofs.Common.{◌≡◌, sym, ◌∙◌}
use Rattle.std.proofs.lemmas.Option.{same_Some}
use Rattle.circus_model.proofs.Histories.{in_history}
use Rattle.circus_model.proofs.laws.runs_follow_turns.Goals as goal

pub returns : goal.returns
returns c = λ program place index b run agree lawful at is.
    let l = (in_history program agree lawful place index run is).logged in
    let same : l.behaviour ≡ b = same_Some l.behaviour b (sym l.there ∙ at) in
    rw (← same) l.follows
