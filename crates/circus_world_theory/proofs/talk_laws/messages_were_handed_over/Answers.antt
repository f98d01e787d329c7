use Rattle.circus_world_theory.specs.Histories.{acts_of}
use Rattle.circus_world_theory.proofs.Boots.{world_stands}
use Rattle.circus_world_theory.proofs.Messages.{call_handed, return_handed}
use Rattle.circus_world_theory.proofs.talk_laws.messages_were_handed_over.Goals as goal

pub returns-clause-calls : goal.returns-clause-calls
returns-clause-calls g c = λ d modules hosted lines booted last number sent s caller message good are hosts is lead there at heard.
    call_handed d (acts_of g.M.Module.declared g.M.Module.turn g.M.Module.first d hosted lines booted) last
    (world_stands g.M.Module.declared g.M.Module.turn g.M.Module.first d hosted modules lines booted last good are hosts is lead) number sent s there at caller message heard

pub returns-clause-returns : goal.returns-clause-returns
returns-clause-returns g c = λ d modules hosted lines booted last number sent s call purpose message good are hosts is lead there at heard.
    return_handed d (acts_of g.M.Module.declared g.M.Module.turn g.M.Module.first d hosted lines booted) last
    (world_stands g.M.Module.declared g.M.Module.turn g.M.Module.first d hosted modules lines booted last good are hosts is lead) number sent s there at call purpose message heard
