use Rattle.circus_model.proofs.Paths.{paths_name_runs}
use Rattle.circus_model.proofs.laws.paths_name_runs.Goals as goal

pub returns : goal.returns
returns c = λ program place index other_place other_index run other agree lawful one two root path.
    paths_name_runs program agree lawful place index other_place other_index run other one two root path
