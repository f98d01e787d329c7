use Rattle.circus_serve.proofs.TakesLemmas.{taken_in_all}
use Rattle.circus_serve.proofs.laws.records_have_all_takes.Goals as goal

pub returns : goal.returns
returns g c d own booted gives takes last is = taken_in_all g.M.Module.declared g.M.Module.turn d own booted gives takes last is
