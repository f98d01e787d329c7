use Rattle.std.proofs.Common.{◌∙◌, ap}
use Rattle.circus_fault.specs.Least.{least_from}
use Rattle.circus_deployment.specs.Rank.{rank_of}
use Rattle.circus_deployment.specs.Nodes.{spares_of}
use Rattle.circus_deployment.specs.Faults.{nodes_faults, behind_nodes}
use Rattle.circus_deployment.specs.Seen.{before_of, as_counted}
use Rattle.circus_deployment.proofs.NodesMore.{then_nodes, then_behind}
use Rattle.circus_deployment.proofs.nodes.SeenNodes.hosts.Goals as goal

pub returns-clause-found : goal.returns-clause-found
returns-clause-found c =
    let before = before_of c.args.self.now in
    let best = c.args.best.now.fault in
    then_nodes before (before_of c.nodes.new.self) best c.nodes.new.best.fault c.spares.new.best.fault c.args.troupe.now.members (spares_of c.args.troupe.now)
    (c.in_ok-nodes.ensures.found ∙ ap (λ hs. least_from rank_of best (nodes_faults before hs)) c.as_slice.ensures) (c.in_ok-nodes.ensures.behind ∙ ap (λ hs. as_counted (behind_nodes before hs)) c.as_slice.ensures) c.in_ok-spares.ensures.found

pub returns-clause-behind : goal.returns-clause-behind
returns-clause-behind c =
    let before = before_of c.args.self.now in
    then_behind before (before_of c.nodes.new.self) (before_of c.spares.new.self) c.args.troupe.now.members (spares_of c.args.troupe.now)
    (c.in_ok-nodes.ensures.behind ∙ ap (λ hs. as_counted (behind_nodes before hs)) c.as_slice.ensures) c.in_ok-spares.ensures.behind
