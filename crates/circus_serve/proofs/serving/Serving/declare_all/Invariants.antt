use Rattle.std.proofs.Common.{◌≡◌}
use Rattle.circus_node.specs.Node.{IsNodeOf}
use Rattle.circus_serve.specs.Outside.{tells_of}
use Rattle.circus_serve.specs.Seen.Going.{served_of}
use Rattle.circus_serve.proofs.GoneLemmas.{HasDeclared}
use Rattle.circus_serve.proofs.serving.Serving.declare_all.Given as goal

-- the nodes so far were declared
abbrev pub invariant-loop-node : goal.invariant-loop-node
invariant-loop-node g l =
    let M = g.M.Module in
    let L = g.L.Link in
    let old = l.initial.link in
    record {
      node : IsNodeOf l.deployment l.fn.self.core.wire.own l.serving.core;
      declared : HasDeclared M.declared M.turn l.deployment l.nodes (served_of l.fn.self)
          (tells_of (L.bound old) (L.taken old) (L.given old))
          (tells_of (L.bound l.link) (L.taken l.link) (L.given l.link))
          l.node-index l.serving;
      counts : L.faults l.link ≡ L.faults old;
    }
