use Rattle.std.proofs.Common.{◌≡◌, ◌<◌, length, true, false, Option, None, Some, sym, ap, subst, ◌∙◌, arith}
use Rattle.std.specs.Prelude.{slice_get, is_some, option_map}
use Rattle.circus_node.specs.NodeState.{NodeState, ring_views}
use Rattle.circus_world.specs.WorldState.{WorldState}
use Rattle.circus_world.specs.Seen.Slots.{AreFull}
use Rattle.circus_world.specs.Seen.Sound.{IsSound}
use Rattle.circus_world.specs.Seen.Inside.{inside_of}
use Rattle.circus_world.proofs.RingLemmas.{seen, rings, some_node}
use Rattle.circus_world.proofs.SlotLemmas.{slot_at, length_full, full_at, core_of}
use Rattle.circus_world.proofs.world.World.ring_views.Goals as goal

pub unreachable-requires : goal.unreachable-requires
unreachable-requires g c =
    let i = c.deref.result.now in
    let full = subst (λ h. AreFull h.slots.items) (sym c.deref.ensures) c.self.invariant.0 in
    let sound = subst (λ h. IsSound (inside_of h)) (sym c.deref.ensures) c.self.invariant.1 in
    let some : 0 < length i.slots.items = omega (arith, some_node _ sound, length_full i.slots.items full) in
    let there = slot_at i.slots.items 0 c.index.result.now some c.index.ensures in
    let core = full_at i.slots.items 0 c.index.result.now full there in
    let clash : ◌≡◌ {A = Option (NodeState g.row.M.Denot)} None (Some core.0) = sym c.in_default.is ∙ core.1 in
    cc

pub unreachable-requires-in-None : goal.unreachable-requires-in-None
unreachable-requires-in-None g c =
    let i = c.deref.result.now in
    let full = subst (λ h. AreFull h.slots.items) (sym c.deref.ensures) c.self.invariant.0 in
    let sound = subst (λ h. IsSound (inside_of h)) (sym c.deref.ensures) c.self.invariant.1 in
    let some : 0 < length i.slots.items = omega (arith, some_node _ sound, length_full i.slots.items full) in
    let there = slot_at i.slots.items 0 c.index.result.now some c.index.ensures in
    let views = rings _ c.in-Some.core sound (core_of i.slots.items 0 c.index.result.now c.in-Some.core full there c.in-Some.is) in
    let clash : false ≡ true = ap (λ o. is_some o) c.in-None.ensures ∙ views in
    cc

pub returns : goal.returns
returns g c =
    let i = c.deref.result.now in
    let full = subst (λ h. AreFull h.slots.items) (sym c.deref.ensures) c.self.invariant.0 in
    let is = ap (λ h. inside_of h) c.deref.ensures ∙ c.self.view_is in
    let sound = subst (λ h. IsSound (inside_of h)) (sym c.deref.ensures) c.self.invariant.1 in
    let some : 0 < length i.slots.items = omega (arith, some_node _ sound, length_full i.slots.items full) in
    let there = slot_at i.slots.items 0 c.index.result.now some c.index.ensures in
    let core = subst (λ (w : WorldState g.row.M.Denot). option_map (λ s. s.node) (slice_get w.nodes 0) ≡ Some c.in-Some.core) is
    (core_of i.slots.items 0 c.index.result.now c.in-Some.core full there c.in-Some.is) in
    seen (λ (n : NodeState g.row.M.Denot). ring_views n.acting) (slice_get c.args.self.now.nodes 0) c.in-Some.core core ∙ sym c.in-Some-ring_views.ensures
