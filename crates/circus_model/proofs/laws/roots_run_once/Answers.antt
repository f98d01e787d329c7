use Rattle.circus_model.proofs.Histories.{root_runs_once}
use Rattle.circus_model.proofs.laws.roots_run_once.Goals as goal

pub returns : goal.returns
returns c = λ program root agree lawful is.
    root_runs_once program agree lawful root is.behaviour is.there is.root
