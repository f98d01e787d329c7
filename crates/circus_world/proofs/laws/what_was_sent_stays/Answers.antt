use Rattle.circus_world.proofs.LineLemmas.{sent_stays}
use Rattle.circus_world.proofs.laws.what_was_sent_stays.Goals as goal

pub returns : goal.returns
returns g c = λ lines world last lead. sent_stays g.M.Module.declared g.M.Module.turn lines world last lead
