use Rattle.circus_model.proofs.Histories.{in_history}
use Rattle.circus_model.proofs.laws.asks_make_runs.Goals as goal

pub returns-clause-answered : goal.returns-clause-answered
returns-clause-answered c = λ program place index number caller ask agree lawful is among.
    let l = (in_history program agree lawful place index caller is).logged in
    rw l.root (l.answered number ask among)

pub returns-clause-callee : goal.returns-clause-callee
returns-clause-callee c = λ program place index number caller ask agree lawful is among.
    (in_history program agree lawful place index caller is).logged.calls number ask among
