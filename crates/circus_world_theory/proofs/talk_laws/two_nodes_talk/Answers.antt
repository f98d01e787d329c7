use Rattle.circus_world_theory.proofs.Boots.{world_stands}
use Rattle.circus_world_theory.proofs.Talks.{agree}
use Rattle.circus_world_theory.proofs.talk_laws.two_nodes_talk.Goals as goal

pub returns-clause-talk : goal.returns-clause-talk
returns-clause-talk g c = λ d modules hosted lines booted last node other good are hosts is lead below other_below differ.
    let talks = (world_stands g.M.Module.declared g.M.Module.turn g.M.Module.first d hosted modules lines booted last good are hosts is lead).talks node other below other_below differ in
    (talks.talk, talks.is, talks.at_here, talks.at_there)

pub returns-clause-agree : goal.returns-clause-agree
returns-clause-agree g c = λ d modules hosted lines booted last node other good are hosts is lead below other_below differ.
    agree d.format _ _ good.format
    ((world_stands g.M.Module.declared g.M.Module.turn g.M.Module.first d hosted modules lines booted last good are hosts is lead).talks node other below other_below differ)
