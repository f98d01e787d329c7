use Rattle.std.proofs.Common.{◌≡◌, ℕ, Option, None, Some, sym, ap, ◌∙◌, arith, subst}
use Rattle.std.specs.Prelude.{slice_get, option_map}
use Rattle.circus_node.specs.NodeState.{NodeState}
use Rattle.circus_world.specs.WorldState.{WorldState}
use Rattle.circus_world.specs.declared.slot.Slot.{Slot}
use Rattle.circus_world.specs.Seen.Slots.{AreFull}
use Rattle.circus_world.specs.Seen.Inside.{inside_of}
use Rattle.circus_world.proofs.SlotLemmas.{core_of, full_at}
use Rattle.circus_world.proofs.WorldLemmas.{slot_below, slot_in}
use Rattle.circus_world.proofs.world.World.core.Goals as goal

pub index-requires : goal.index-requires
index-requires g c =
    let i = c.deref.result.now in
    let full = subst (λ h. AreFull h.slots.items) (sym c.deref.ensures) c.self.invariant.0 in
    let is = ap (λ h. inside_of h) c.deref.ensures ∙ c.self.view_is in
    omega (arith, slot_below i.deployment i.modules.items i.slots.items i.sent i.steps c.args.self.now c.args.node is full c.requires, c.from.ensures, i.slots.ok.0)

pub unreachable-requires : goal.unreachable-requires
unreachable-requires g c =
    let i = c.deref.result.now in
    let full = subst (λ h. AreFull h.slots.items) (sym c.deref.ensures) c.self.invariant.0 in
    let is = ap (λ h. inside_of h) c.deref.ensures ∙ c.self.view_is in
    let slot : Slot g.row.M.Denot g.row.M-Paused.Denot = c.index.result.now in
    let there = slot_in i.deployment i.modules.items i.slots.items i.sent i.steps c.args.self.now c.args.node c.from.result slot is full c.requires c.from.ensures c.index.ensures in
    let core = full_at i.slots.items c.from.result slot full there in
    let clash : ◌≡◌ {A = Option (NodeState g.row.M.Denot)} None (Some core.0) = sym c.in-None.is ∙ core.1 in
    cc

pub returns : goal.returns
returns g c =
    let i = c.deref.result.now in
    let full = subst (λ h. AreFull h.slots.items) (sym c.deref.ensures) c.self.invariant.0 in
    let is = ap (λ h. inside_of h) c.deref.ensures ∙ c.self.view_is in
    let slot : Slot g.row.M.Denot g.row.M-Paused.Denot = c.index.result.now in
    let there = slot_in i.deployment i.modules.items i.slots.items i.sent i.steps c.args.self.now c.args.node c.from.result slot is full c.requires c.from.ensures c.index.ensures in
    let seen : ℕ → WorldState g.row.M.Denot → Option (NodeState g.row.M.Denot) = λ k w. option_map (λ s. s.node) (slice_get w.nodes k) in
    sym (ap (λ k. seen k c.args.self.now) c.from.ensures)
    ∙ sym (ap (λ w. seen c.from.result w) is)
    ∙ core_of i.slots.items c.from.result slot c.in-Some.core full there c.in-Some.is
