use Rattle.std.proofs.Common.{◌+◌, drop, sym, ◌∙◌, ap}
use Rattle.circus_fault.specs.Least.{least_from}
use Rattle.circus_fault.proofs.LeastMore.{least_step}
use Rattle.circus_type.proofs.Dropped.{drop_more}
use Rattle.circus_deployment.specs.Rank.{rank_of}
use Rattle.circus_deployment.specs.Faults.{node_faults, behind_node, nodes_faults, behind_nodes}
use Rattle.circus_deployment.specs.Seen.{before_of, as_counted}
use Rattle.circus_deployment.proofs.NodesMore.{counted_faults, counted_nodes}
use Rattle.circus_deployment.proofs.nodes.SeenNodes.nodes.Goals as goal

pub loop-host-preserved : goal.loop-host-preserved
loop-host-preserved c =
    let i = c.loop-host.host-index in
    let h = c.host-item.result in
    let before = before_of c.loop-host.self in
    let best = c.loop-host.best.fault in
    let new = c.node.new.best.fault in
    let rest = drop (i + 1) c.args.hosts.now in
    let left = drop_more c.args.hosts.now i h c.loop-host-test.true c.host-item.is in
    record {
      found =
          ap (λ b. least_from rank_of new (nodes_faults b rest)) c.in_ok-node.ensures.behind
          ∙ ap (least_from rank_of new) (counted_faults (behind_node before h.name h.port) rest)
          ∙ least_step rank_of new best _ (node_faults before h.name h.port) (nodes_faults (behind_node before h.name h.port) rest) c.in_ok-node.ensures.found
          (ap (λ hs. least_from rank_of best (nodes_faults before hs)) (sym left) ∙ c.loop-host.invariant.found);
      behind =
          ap (λ b. as_counted (behind_nodes b rest)) c.in_ok-node.ensures.behind ∙ counted_nodes (behind_node before h.name h.port) rest
          ∙ ap (λ hs. as_counted (behind_nodes before hs)) (sym left) ∙ c.loop-host.invariant.behind;
    }
