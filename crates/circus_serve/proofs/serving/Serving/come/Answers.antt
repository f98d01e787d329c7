use Rattle.std.proofs.Common.{ℕ, ◌≡◌, ◌∙◌, ap, sym, subst, All, Err, List}
use Rattle.std.proofs.lemmas.Result.{err_from_is_err_and, IfOk-weaker}
use Rattle.circus_wire.specs.Wire.{IsOther}
use Rattle.circus_node.specs.Node.{IsNodeOf}
use Rattle.circus_node.specs.NodeState.{NodeState}
use Rattle.circus_serve.specs.Outside.{Tells, tells_of}
use Rattle.circus_serve.specs.Serving.{Served, event_comes, suspects_by, all_declared, comes}
use Rattle.circus_serve.specs.Seen.Counting.{ServeCounts}
use Rattle.circus_serve.specs.declared.serving.Serving.{Serving}
use Rattle.circus_serve.specs.Seen.Going.{served_of, HasGone}
use Rattle.circus_serve.proofs.HappenedLemmas.{declared_extends}
use Rattle.circus_serve.proofs.EventLemmas.{if_fault, fault_counts, then_counts}
use Rattle.circus_serve.proofs.GoneLemmas.{gone_then, gone_fault}
use Rattle.circus_serve.proofs.SuspectLemmas.{own_node, suspects_others}
use Rattle.circus_serve.proofs.serving.Serving.come.Goals as goal

pub step-requires-clause-node : goal.step-requires-clause-node
step-requires-clause-node g c = c.requires.node

pub step-requires-clause-event : goal.step-requires-clause-event
step-requires-clause-event g c = c.requires.event

pub returns-in_err-serving : goal.returns-in_err-serving
returns-in_err-serving g c =
    let M = g.M.Module in
    let L = g.L.Link in
    let d = c.args.deployment.now in
    let s : Served g.row.M.Denot = served_of c.args.self in
    let state : Serving g.row.M.Denot g.row.M-Paused.Denot × List ℕ → Served g.row.M.Denot = λ stepped. served_of stepped.0 in
    let old : Tells = tells_of (L.bound c.args.link.now) (L.taken c.args.link.now) (L.given c.args.link.now) in
    let new : Tells = tells_of (L.bound c.step.new.link) (L.taken c.step.new.link) (L.given c.step.new.link) in
    let r = c.from_residual.result in
    let p = err_from_is_err_and r c.from_residual.ensures.1 in
    let f = c.in_err-serving.field-0.0 in
    let is : r ≡ Err f = p.1 ∙ ap Err p.2 in
    record {
      node = if_fault r f _ is;
      gone = subst (λ x. HasGone served_of d old new s.happened (comes M.declared M.turn c.args.event s) x) (sym is)
          (gone_fault state served_of d old new s.happened (event_comes M.declared M.turn c.args.event s) (all_declared M.declared M.turn (suspects_by M.declared M.turn c.args.event s)) f
          (declared_extends M.declared M.turn (suspects_by M.declared M.turn c.args.event s)) c.in_err-serving.ensures.gone);
      counts = subst (λ x. ServeCounts x (L.faults c.args.link.now) (L.faults c.step.new.link)) (sym is)
          (fault_counts (Serving g.row.M.Denot g.row.M-Paused.Denot × List ℕ) (Serving g.row.M.Denot g.row.M-Paused.Denot) f (L.faults c.args.link.now) (L.faults c.step.new.link)
          c.in_err-serving.ensures.counts);
    }

pub declare_all-requires-clause-node : goal.declare_all-requires-clause-node
declare_all-requires-clause-node g c = own_node c.args.deployment.now c.args.self.core.wire.own c.in_ok-serving.serving.core c.in_ok-serving.ensures.node

pub declare_all-requires-clause-others : goal.declare_all-requires-clause-others
declare_all-requires-clause-others g c =
    let M = g.M.Module in
    let s : Served g.row.M.Denot = served_of c.args.self in
    let core : NodeState g.row.M.Denot = c.in_ok-serving.serving.core in
    subst (All (IsOther core.wire)) (sym c.as_slice.ensures)
    (suspects_others M.declared M.turn c.args.deployment.now c.args.self.core.wire.own c.args.event s core c.in_ok-serving.suspects c.requires.node c.in_ok-serving.ensures.node
    c.in_ok-serving.ensures.suspects)

pub returns : goal.returns
returns g c =
    let M = g.M.Module in
    let L = g.L.Link in
    let d = c.args.deployment.now in
    let own = c.args.self.core.wire.own in
    let s : Served g.row.M.Denot = served_of c.args.self in
    let state : Serving g.row.M.Denot g.row.M-Paused.Denot × List ℕ → Served g.row.M.Denot = λ stepped. served_of stepped.0 in
    let old : Tells = tells_of (L.bound c.args.link.now) (L.taken c.args.link.now) (L.given c.args.link.now) in
    let mid : Tells = tells_of (L.bound c.step.new.link) (L.taken c.step.new.link) (L.given c.step.new.link) in
    let new : Tells = tells_of (L.bound c.declare_all.new.link) (L.taken c.declare_all.new.link) (L.given c.declare_all.new.link) in
    let serving : Serving g.row.M.Denot g.row.M-Paused.Denot = c.in_ok-serving.serving in
    let suspects : List ℕ = c.in_ok-serving.suspects in
    let same = c.as_slice.ensures ∙ c.in_ok-serving.ensures.suspects in
    record {
      node = IfOk-weaker c.declare_all.result _ _ (λ t node. subst (λ k. IsNodeOf d k t.core) c.in_ok-serving.ensures.node.own node) c.declare_all.ensures.node;
      gone = gone_then state served_of d old mid new s.happened (event_comes M.declared M.turn c.args.event s) (serving, suspects)
          (all_declared M.declared M.turn (suspects_by M.declared M.turn c.args.event s)) c.declare_all.result c.in_ok-serving.ensures.gone
          (subst (λ nodes. HasGone served_of d mid new serving.log.happened (all_declared M.declared M.turn nodes (served_of serving)) c.declare_all.result) same c.declare_all.ensures.gone);
      counts = then_counts c.declare_all.result (L.faults c.args.link.now) (L.faults c.step.new.link) (L.faults c.declare_all.new.link) c.in_ok-serving.ensures.counts c.declare_all.ensures.counts;
    }
