use Rattle.std.proofs.Common.{sym, subst}
use Rattle.std.proofs.lemmas.Result.{IfOk-weaker}
use Rattle.circus_outside.specs.declared.link.TakenFrom.{TakenFrom}
use Rattle.circus_node.specs.Node.{IsNodeOf}
use Rattle.circus_serve.specs.Outside.{Tells, tells_of}
use Rattle.circus_serve.specs.Serving.{Served, take_comes}
use Rattle.circus_serve.specs.Seen.Going.{served_of, HasGone}
use Rattle.circus_serve.proofs.SuspectLemmas.{own_node}
use Rattle.circus_serve.proofs.serving.Serving.take.Goals as goal

pub hear-requires-clause-deployment : goal.hear-requires-clause-deployment
hear-requires-clause-deployment g c = c.requires.deployment

pub hear-requires-clause-node : goal.hear-requires-clause-node
hear-requires-clause-node g c = c.requires.node

pub returns-in-From : goal.returns-in-From
returns-in-From g c =
    let M = g.M.Module in
    let L = g.L.Link in
    let d = c.args.deployment.now in
    let s : Served g.row.M.Denot = served_of c.args.self in
    let old : Tells = tells_of (L.bound c.args.link.now) (L.taken c.args.link.now) (L.given c.args.link.now) in
    let new : Tells = tells_of (L.bound c.hear.new.link) (L.taken c.hear.new.link) (L.given c.hear.new.link) in
    record {
      node = c.hear.ensures.node;
      gone = subst (λ (taken : TakenFrom). HasGone served_of d old new s.happened (take_comes M.declared M.turn d c.args.node taken s) c.hear.result) (sym c.in-From.is) c.hear.ensures.gone;
      counts = c.hear.ensures.counts;
    }

pub come-requires-clause-node : goal.come-requires-clause-node
come-requires-clause-node g c = own_node c.args.deployment.now c.args.node c.args.self.core c.requires.node

pub returns-in-Nothing : goal.returns-in-Nothing
returns-in-Nothing g c =
    let M = g.M.Module in
    let L = g.L.Link in
    let d = c.args.deployment.now in
    let s : Served g.row.M.Denot = served_of c.args.self in
    let old : Tells = tells_of (L.bound c.args.link.now) (L.taken c.args.link.now) (L.given c.args.link.now) in
    let new : Tells = tells_of (L.bound c.come.new.link) (L.taken c.come.new.link) (L.given c.come.new.link) in
    record {
      node = IfOk-weaker c.come.result _ _ (λ t node. subst (λ k. IsNodeOf d k t.core) c.requires.node.own node) c.come.ensures.node;
      gone = subst (λ (taken : TakenFrom). HasGone served_of d old new s.happened (take_comes M.declared M.turn d c.args.node taken s) c.come.result) (sym c.in-Nothing.is) c.come.ensures.gone;
      counts = c.come.ensures.counts;
    }
