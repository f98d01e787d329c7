use Rattle.circus_serve.proofs.RunLemmas.{run_of_all}
use Rattle.circus_serve.proofs.laws.events_are_the_nodes.Goals as goal

pub returns : goal.returns
returns g c d own booted gives takes last is = run_of_all g.M.Module.declared g.M.Module.turn d own booted gives takes last is
