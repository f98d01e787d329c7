use Rattle.circus_node.specs.declared.event.Event.{Event}
use Rattle.circus_node.specs.declared.event.Event.TheVariants.{Datagram}
use Rattle.circus_node.proofs.NodeLemmas.{step_is_of, step_goes}
use Rattle.circus_node.proofs.TraceLemmas.{step_stands}
use Rattle.circus_node.proofs.node_core.NodeCore.hear.Goals as goal

pub returns-clause-stepped : goal.returns-clause-stepped
returns-clause-stepped g c = c.receive.ensures.ended

pub returns-clause-node : goal.returns-clause-node
returns-clause-node g c =
    let event : Event = Datagram c.args.from c.args.datagram.now in
    step_is_of g.M.Module.declared g.M.Module.turn c.receive.result c.args.at event c.args.self c.receive.ensures.ended

pub returns-clause-others : goal.returns-clause-others
returns-clause-others g c =
    let event : Event = Datagram c.args.from c.args.datagram.now in
    step_goes g.M.Module.declared g.M.Module.turn c.receive.result c.args.at event c.args.self c.receive.ensures.ended

pub returns-clause-trace : goal.returns-clause-trace
returns-clause-trace g c =
    let event : Event = Datagram c.args.from c.args.datagram.now in
    step_stands g.M.Module.declared g.M.Module.turn g.M.Module.first c.receive.result c.args.at event c.args.self c.receive.ensures.ended
