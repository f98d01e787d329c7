use Rattle.std.proofs.Common.{◌+◌, drop, sym, ◌∙◌, ap}
use Rattle.std.specs.List.{flat_map}
use Rattle.circus_fault.specs.Least.{least_from}
use Rattle.circus_fault.proofs.LeastMore.{least_step}
use Rattle.circus_type.proofs.Dropped.{drop_more}
use Rattle.circus_deployment.specs.Rank.{rank_of}
use Rattle.circus_deployment.specs.Nodes.{hosts_of}
use Rattle.circus_deployment.specs.Faults.{nodes_faults, behind_nodes}
use Rattle.circus_deployment.specs.Seen.{before_of}
use Rattle.circus_deployment.proofs.NodesMore.{nodes_more, same_faults}
use Rattle.circus_deployment.proofs.nodes.SeenNodes.troupes.Goals as goal

pub loop-troupe-preserved : goal.loop-troupe-preserved
loop-troupe-preserved c =
    let i = c.loop-troupe.troupe-index in
    let t = c.troupe-item.result in
    let before = before_of c.loop-troupe.self in
    let best = c.loop-troupe.best.fault in
    let new = c.hosts.new.best.fault in
    let rest = flat_map hosts_of (drop (i + 1) c.args.troupes.now) in
    let left = ap (flat_map hosts_of) (drop_more c.args.troupes.now i t c.loop-troupe-test.true c.troupe-item.is) in
    ap (least_from rank_of new) (same_faults (before_of c.hosts.new.self) (behind_nodes before (hosts_of t)) rest c.in_ok-hosts.ensures.behind)
    ∙ least_step rank_of new best _ (nodes_faults before (hosts_of t)) (nodes_faults (behind_nodes before (hosts_of t)) rest) c.in_ok-hosts.ensures.found
    (ap (least_from rank_of best) (sym (nodes_more before (hosts_of t) rest)) ∙ ap (λ hs. least_from rank_of best (nodes_faults before hs)) (sym left) ∙ c.loop-troupe.invariant)
