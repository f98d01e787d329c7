use Rattle.std.proofs.Common.{ℕ, ◌≡◌, ◌∙◌, ap, sym, subst, refl, Err, List, get_or, rules}
use Rattle.std.proofs.lemmas.Result.{err_from_is_err_and}
use Rattle.std.proofs.lemmas.List.{get_or_default}
use Rattle.circus_node.specs.Node.{IsNodeOf}
use Rattle.circus_serve.specs.Outside.{Tells, tells_of}
use Rattle.circus_serve.specs.Serving.{Served, all_declared}
use Rattle.circus_serve.specs.Seen.Counting.{ServeCounts}
use Rattle.circus_serve.specs.declared.serving.Serving.{Serving}
use Rattle.circus_serve.specs.Seen.Going.{served_of, HasGone}
use Rattle.circus_serve.proofs.EventLemmas.{if_fault, fault_counts}
use Rattle.circus_serve.proofs.GoneLemmas.{gone_none, declared_fault, declared_more, declared_all}
use Rattle.circus_serve.proofs.SuspectLemmas.{own_node, still_other}
use Rattle.circus_serve.proofs.serving.Serving.declare_all.Goals as goal

pub loop-node-init : goal.loop-node-init
loop-node-init g c =
    let L = g.L.Link in
    let old : Tells = tells_of (L.bound c.args.link.now) (L.taken c.args.link.now) (L.given c.args.link.now) in
    record {
      node = c.requires.node;
      declared = record { left = refl; gone = gone_none served_of c.args.deployment.now old c.args.self };
      counts = refl;
    }

pub offset_bounds-nodes-node-index : goal.offset_bounds-nodes-node-index
offset_bounds-nodes-node-index g c = search rules

pub step-requires-clause-node : goal.step-requires-clause-node
step-requires-clause-node g c = own_node c.args.deployment.now c.args.self.core.wire.own c.loop-node.serving.core c.loop-node.invariant.node

pub step-requires-clause-event : goal.step-requires-clause-event
step-requires-clause-event g c =
    let i = c.loop-node.node-index in
    still_other c.args.deployment.now c.args.self.core.wire.own c.args.self.core c.loop-node.serving.core (get_or c.args.nodes.now i 0) c.requires.node c.loop-node.invariant.node
    (c.requires.others i 0 c.loop-node-test.true)

pub returns-in_err-next : goal.returns-in_err-next
returns-in_err-next g c =
    let M = g.M.Module in
    let L = g.L.Link in
    let d = c.args.deployment.now in
    let s : Served g.row.M.Denot = served_of c.args.self in
    let old : Tells = tells_of (L.bound c.args.link.now) (L.taken c.args.link.now) (L.given c.args.link.now) in
    let mid : Tells = tells_of (L.bound c.loop-node.link) (L.taken c.loop-node.link) (L.given c.loop-node.link) in
    let new : Tells = tells_of (L.bound c.step.new.link) (L.taken c.step.new.link) (L.given c.step.new.link) in
    let i = c.loop-node.node-index in
    let r = c.from_residual.result in
    let p = err_from_is_err_and r c.from_residual.ensures.1 in
    let f = c.in_err-next.field-0.0 in
    let is : r ≡ Err f = p.1 ∙ ap Err p.2 in
    record {
      node = if_fault r f _ is;
      gone = subst (λ x. HasGone served_of d old new s.happened (all_declared M.declared M.turn c.args.nodes.now s) x) (sym is)
          (declared_fault M.declared M.turn d c.args.nodes.now s old mid new i (get_or c.args.nodes.now i 0) c.loop-node.serving f c.loop-node.invariant.declared c.loop-node-test.true
          (get_or_default c.args.nodes.now i 0 (get_or c.args.nodes.now i 0) c.loop-node-test.true) c.in_err-next.ensures.gone);
      counts = subst (λ x. ServeCounts x (L.faults c.args.link.now) (L.faults c.step.new.link)) (sym is)
          (subst (λ count. ServeCounts {A = Serving g.row.M.Denot g.row.M-Paused.Denot} (Err f) count (L.faults c.step.new.link)) c.loop-node.invariant.counts
          (fault_counts (Serving g.row.M.Denot g.row.M-Paused.Denot × List ℕ) (Serving g.row.M.Denot g.row.M-Paused.Denot) f (L.faults c.loop-node.link) (L.faults c.step.new.link)
          c.in_err-next.ensures.counts));
    }

pub loop-node-preserved : goal.loop-node-preserved
loop-node-preserved g c =
    let M = g.M.Module in
    let L = g.L.Link in
    let d = c.args.deployment.now in
    let s : Served g.row.M.Denot = served_of c.args.self in
    let old : Tells = tells_of (L.bound c.args.link.now) (L.taken c.args.link.now) (L.given c.args.link.now) in
    let mid : Tells = tells_of (L.bound c.loop-node.link) (L.taken c.loop-node.link) (L.given c.loop-node.link) in
    let new : Tells = tells_of (L.bound c.step.new.link) (L.taken c.step.new.link) (L.given c.step.new.link) in
    let i = c.loop-node.node-index in
    record {
      node = subst (λ k. IsNodeOf d k c.in_ok-next.next.core) c.loop-node.invariant.node.own c.in_ok-next.ensures.node;
      declared = declared_more M.declared M.turn d c.args.nodes.now s old mid new i (get_or c.args.nodes.now i 0) c.loop-node.serving c.in_ok-next.next c.in_ok-next.field-0-1
          c.loop-node.invariant.declared c.loop-node-test.true (get_or_default c.args.nodes.now i 0 (get_or c.args.nodes.now i 0) c.loop-node-test.true) c.in_ok-next.ensures.gone;
      counts = c.in_ok-next.ensures.counts ∙ c.loop-node.invariant.counts;
    }

pub returns : goal.returns
returns g c =
    let M = g.M.Module in
    let L = g.L.Link in
    let old : Tells = tells_of (L.bound c.args.link.now) (L.taken c.args.link.now) (L.given c.args.link.now) in
    let new : Tells = tells_of (L.bound c.loop-node.link) (L.taken c.loop-node.link) (L.given c.loop-node.link) in
    record {
      node = c.loop-node.invariant.node;
      gone = declared_all M.declared M.turn c.args.deployment.now c.args.nodes.now (served_of c.args.self) old new c.loop-node.node-index c.loop-node.serving c.loop-node.invariant.declared
          c.loop-node-test.false;
      counts = c.loop-node.invariant.counts;
    }
