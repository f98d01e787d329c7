use Rattle.circus_world.proofs.LineLemmas.{steps_counted, steps_rise}
use Rattle.circus_world.proofs.laws.steps_never_fall.Goals as goal

pub returns-clause-steps : goal.returns-clause-steps
returns-clause-steps g c = λ deployment modules lines world last is lead.
    steps_counted g.M.Module.declared g.M.Module.turn g.M.Module.first deployment modules lines world last is lead

pub returns-clause-past : goal.returns-clause-past
returns-clause-past g c = λ deployment modules lines world last is lead.
    (steps_rise g.M.Module.declared g.M.Module.turn g.M.Module.first deployment modules lines world last is lead).past

pub returns-clause-order : goal.returns-clause-order
returns-clause-order g c = λ deployment modules lines world last is lead.
    (steps_rise g.M.Module.declared g.M.Module.turn g.M.Module.first deployment modules lines world last is lead).order
