use Rattle.circus_world_theory.proofs.Boots.{world_stands}
use Rattle.circus_world_theory.proofs.talk_laws.pairs_stand_for_their_acts.Goals as goal

pub returns : goal.returns
returns g c = λ d modules hosted lines booted last node s good are hosts is lead at.
    (world_stands g.M.Module.declared g.M.Module.turn g.M.Module.first d hosted modules lines booted last good are hosts is lead).stands node s at
