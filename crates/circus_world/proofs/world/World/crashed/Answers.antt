use Rattle.std.proofs.Common.{ℕ, Option, ap, ◌∙◌, arith, sym, subst}
use Rattle.std.specs.Prelude.{slice_get, option_and_then}
use Rattle.circus_world.specs.WorldState.{WorldState, Standing}
use Rattle.circus_world.specs.declared.slot.Slot.{Slot}
use Rattle.circus_world.specs.Seen.Slots.{AreFull}
use Rattle.circus_world.specs.Seen.Inside.{inside_of}
use Rattle.circus_world.proofs.SlotLemmas.{crashed_of}
use Rattle.circus_world.proofs.WorldLemmas.{slot_below, slot_in}
use Rattle.circus_world.proofs.world.World.crashed.Goals as goal

pub index-requires : goal.index-requires
index-requires g c =
    let i = c.deref.result.now in
    let full = subst (λ h. AreFull h.slots.items) (sym c.deref.ensures) c.self.invariant.0 in
    let is = ap (λ h. inside_of h) c.deref.ensures ∙ c.self.view_is in
    omega (arith, slot_below i.deployment i.modules.items i.slots.items i.sent i.steps c.args.self.now c.args.node is full c.requires, c.from.ensures, i.slots.ok.0)

pub returns : goal.returns
returns g c =
    let i = c.deref.result.now in
    let full = subst (λ h. AreFull h.slots.items) (sym c.deref.ensures) c.self.invariant.0 in
    let is = ap (λ h. inside_of h) c.deref.ensures ∙ c.self.view_is in
    let slot : Slot g.row.M.Denot g.row.M-Paused.Denot = c.index.result.now in
    let there = slot_in i.deployment i.modules.items i.slots.items i.sent i.steps c.args.self.now c.args.node c.from.result slot is full c.requires c.from.ensures c.index.ensures in
    let seen : ℕ → WorldState g.row.M.Denot → Option ℕ = λ k w. option_and_then (λ (s : Standing g.row.M.Denot). s.crashed) (slice_get w.nodes k) in
    crashed_of i.slots.items c.from.result slot full there
    ∙ ap (λ w. seen c.from.result w) is
    ∙ ap (λ k. seen k c.args.self.now) c.from.ensures
