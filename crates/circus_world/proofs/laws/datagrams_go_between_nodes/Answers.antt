use Rattle.circus_world.proofs.LineLemmas.{go_between}
use Rattle.circus_world.proofs.laws.datagrams_go_between_nodes.Goals as goal

pub returns : goal.returns
returns g c = λ deployment modules lines world last good are is lead.
    go_between g.M.Module.declared g.M.Module.turn g.M.Module.first deployment modules lines world last good are is lead
