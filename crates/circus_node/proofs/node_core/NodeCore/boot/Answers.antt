use Rattle.circus_node.proofs.NodeLemmas.{boot_is_of, boot_goes}
use Rattle.circus_node.proofs.TraceLemmas.{boot_stands}
use Rattle.circus_node.proofs.node_core.NodeCore.boot.Goals as goal

pub begin-requires : goal.begin-requires
begin-requires g c = c.requires

pub returns-clause-booted : goal.returns-clause-booted
returns-clause-booted g c = c.begin.ensures.ended

pub returns-clause-node : goal.returns-clause-node
returns-clause-node g c =
    boot_is_of g.M.Module.declared g.M.Module.turn g.M.Module.first c.begin.result c.args.deployment.now c.args.module c.args.node c.requires c.begin.ensures.ended

pub returns-clause-others : goal.returns-clause-others
returns-clause-others g c =
    boot_goes g.M.Module.declared g.M.Module.turn g.M.Module.first c.begin.result c.args.deployment.now c.args.module c.args.node c.requires c.begin.ensures.ended

pub returns-clause-trace : goal.returns-clause-trace
returns-clause-trace g c =
    boot_stands g.M.Module.declared g.M.Module.turn g.M.Module.first c.begin.result c.args.deployment.now c.args.module c.args.node c.begin.ensures.ended
