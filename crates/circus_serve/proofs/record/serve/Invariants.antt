use Rattle.std.proofs.Common.{◌≡◌}
use Rattle.circus_node.specs.Node.{IsNodeOf}
use Rattle.circus_serve.specs.Outside.{tells_of}
use Rattle.circus_serve.proofs.ServedLemmas.{HasServed}
use Rattle.circus_serve.proofs.record.serve.Given as goal

-- so many takes were made
abbrev pub invariant-loop-turn : goal.invariant-loop-turn
invariant-loop-turn g l =
    let M = g.M.Module in
    let L = g.L.Link in
    let old = l.fn.link in
    record {
      node : IsNodeOf l.deployment l.node l.serving.core;
      served : HasServed M.declared M.turn l.deployment l.node l.fn.core l.fn.gives
          (tells_of (L.bound old) (L.taken old) (L.given old))
          (tells_of (L.bound l.link) (L.taken l.link) (L.given l.link))
          l._turn l.serving;
      counts : L.faults l.link ≡ L.faults old;
    }
