use Rattle.std.proofs.Common.{◌<◌, length, take, ap, sym, inl, inr, arith}
use Rattle.std.proofs.lemmas.Option.{slice_get_cases}
use Rattle.circus_picture.specs.Deeds.{deeds_of}
use Rattle.circus_picture.proofs.KeptLemmas.{kept-as}
use Rattle.circus_picture.proofs.WorldLemmas.{deeds-more}
use Rattle.circus_picture.proofs.deeds.deeds_of.Goals as goal

pub loop-node-preserved : goal.loop-node-preserved
loop-node-preserved g c =
    let nodes = c.args.world.now.nodes in
    let node = c.loop-node.node in
    let low : node < length nodes =
    omega (arith, c.loop-node-test.true, c.len-node-end.ensures, ap (λ d. length d.nodes) c.deployment.ensures.value, c.deployment.ensures.all) in
    elim (slice_get_cases nodes node).1 [
      | inl there ↦
          let s = there.0 in
          kept-as c.args.count _ _ _ (sym (deeds-more nodes node s there.2))
          (c.in_ok-note_node.ensures c.args.count (deeds_of 0 (take node nodes)) s there.2 c.loop-node.invariant)
      | inr past ↦ absurd (omega (arith, past.0, low))
    ]
