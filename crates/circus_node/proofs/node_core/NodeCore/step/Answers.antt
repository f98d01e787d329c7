use Rattle.circus_node.proofs.NodeLemmas.{step_is_of, step_goes}
use Rattle.circus_node.proofs.TraceLemmas.{step_stands}
use Rattle.circus_node.proofs.node_core.NodeCore.step.Goals as goal

pub follow-requires : goal.follow-requires
follow-requires g c = c.requires

pub returns-clause-stepped : goal.returns-clause-stepped
returns-clause-stepped g c = c.follow.ensures.ended

pub returns-clause-node : goal.returns-clause-node
returns-clause-node g c = step_is_of g.M.Module.declared g.M.Module.turn c.follow.result c.args.at c.args.event c.args.self c.follow.ensures.ended

pub returns-clause-others : goal.returns-clause-others
returns-clause-others g c = step_goes g.M.Module.declared g.M.Module.turn c.follow.result c.args.at c.args.event c.args.self c.follow.ensures.ended

pub returns-clause-trace : goal.returns-clause-trace
returns-clause-trace g c =
    step_stands g.M.Module.declared g.M.Module.turn g.M.Module.first c.follow.result c.args.at c.args.event c.args.self c.follow.ensures.ended
