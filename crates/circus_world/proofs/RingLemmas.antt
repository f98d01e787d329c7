-- The first node of a world is the Ringmaster's.
use Rattle.std.proofs.Common.{◌≡◌, ◌<◌, length, Option, None, Some, refl, ap, subst, ◌∙◌, arith}
use Rattle.std.specs.Prelude.{IsSome, slice_get, option_map, option_and_then}
use Rattle.circus_collate.specs.Deployment.{IsDeployment}
use Rattle.circus_collate.specs.declared.deployment.Deployment.{Deployment}
use Rattle.circus_collate.specs.declared.deployment.Host.{Host}
use Rattle.circus_node.specs.Accepting.{troupe_at}
use Rattle.circus_node.specs.NodeState.{NodeState, ring_views}
use Rattle.circus_world.specs.WorldState.{WorldState, Standing}
use Rattle.circus_world.specs.Seen.Sound.{IsSound}
use Rattle.circus_world.proofs.SlotLemmas.{get_there}

hosts_none : (d : Deployment) → IsDeployment d → troupe_at d 0 ≡ None
hosts_none d is =
    let found = get_there d.nodes 0 (omega (arith, is.some_nodes)) in
    ap (λ (o : Option Host). option_and_then (λ (h : Host). h.module) o) found.1 ∙ (is.nodes 0 found.0 found.1).ringmaster.1 refl

module _ {M : Type 0} where
  pub some_node : (w : WorldState M) → IsSound w → 0 < length w.nodes
  some_node w sound = omega (arith, sound.all, sound.deployment.some_nodes)

  -- its views are those of a node there
  pub rings : (w : WorldState M) (n : NodeState M) → IsSound w → option_map (λ (s : Standing M). s.node) (slice_get w.nodes 0) ≡ Some n → IsSome (ring_views n.acting)
  rings w n sound at = by_node (slice_get w.nodes 0) refl at
    where
      by_node : (o : Option (Standing M)) → slice_get w.nodes 0 ≡ o → option_map (λ (s : Standing M). s.node) o ≡ Some n → IsSome (ring_views n.acting)
      by_node None is found = absurd (let clash : ◌≡◌ {A = Option (NodeState M)} None (Some n) = found in cc)
      by_node (Some s) is found =
          let same : s.node ≡ n = cc in
          subst (λ (m : NodeState M). IsSome (ring_views m.acting)) same ((sound.nodes 0 s is).ringmaster (hosts_none w.deployment sound.deployment))

  -- what is seen of a node is seen of it in the world
  pub seen : {X : Type 0} (f : NodeState M → Option X) (o : Option (Standing M)) (n : NodeState M) → option_map (λ (s : Standing M). s.node) o ≡ Some n
      → option_and_then (λ (s : Standing M). f s.node) o ≡ f n
  seen f None n found = absurd (let clash : ◌≡◌ {A = Option (NodeState M)} None (Some n) = found in cc)
  seen f (Some s) n found = let same : s.node ≡ n = cc in ap f same
