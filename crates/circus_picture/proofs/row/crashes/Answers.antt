use Rattle.std.proofs.Common.{◌<◌, [], ◌∷◌, ◌++◌, length, map, take, sym, ap, ◌∙◌, inl, inr, arith}
use Rattle.std.proofs.lemmas.Option.{slice_get_cases}
use Rattle.circus_picture.proofs.WorldLemmas.{crashes-more}
use Rattle.circus_picture.proofs.row.crashes.Goals as goal

pub loop-node-preserved : goal.loop-node-preserved
loop-node-preserved g c =
    let nodes = c.args.world.now.nodes in
    let node = c.loop-node.node in
    let low : node < length nodes =
    omega (arith, c.loop-node-test.true, c.len-node-end.ensures, ap (λ d. length d.nodes) c.deployment.ensures.value, c.deployment.ensures.all) in
    elim (slice_get_cases nodes node).1 [
      | inl there ↦
          c.in_ok-push.ensures.ok
          ∙ ap (λ l. l ++ c.crashed.result ∷ []) c.loop-node.invariant
          ∙ ap (λ o. map (λ s. s.crashed) (take node nodes) ++ o ∷ []) c.crashed.ensures
          ∙ sym (crashes-more nodes node there.0 there.2)
      | inr past ↦ absurd (omega (arith, past.0, low))
    ]
