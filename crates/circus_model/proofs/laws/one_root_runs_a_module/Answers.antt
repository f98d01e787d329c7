use Rattle.circus_model.proofs.Histories.{root_of}
use Rattle.circus_model.proofs.laws.one_root_runs_a_module.Goals as goal

pub returns-clause-root : goal.returns-clause-root
returns-clause-root c = λ program place index run agree lawful is.
    root_of program agree lawful place index run is

pub returns-clause-alone : goal.returns-clause-alone
returns-clause-alone c = λ program place index elsewhere run other agree lawful is_one is_other.
    let one = root_of program agree lawful place index run is_one in
    let two = root_of program agree lawful place elsewhere other is_other in
    agree.one_root run.root other.root place one.0 two.0 one.1 two.1
