use Rattle.std.proofs.Common.{◌≡◌, true, false, sym, ap, ◌∙◌, arith, subst}
use Rattle.circus_world.specs.WorldState.{WorldState, is_live, has_joined}
use Rattle.circus_world.specs.Legal.{is_spare}
use Rattle.circus_world.specs.declared.slot.Slot.{Slot}
use Rattle.circus_world.specs.Seen.Slots.{AreFull}
use Rattle.circus_world.specs.Seen.Inside.{inside_of}
use Rattle.circus_world.proofs.SlotLemmas.{joins_of}
use Rattle.circus_world.proofs.ComeLemmas.{live_then}
use Rattle.circus_world.proofs.LegalLemmas.{may_join}
use Rattle.circus_world.proofs.WorldLemmas.{slot_below, slot_in}
use Rattle.circus_world.proofs.world.World.unless_may_join.Goals as goal

pub index-requires : goal.index-requires
index-requires g c =
    let i = c.deref-2.result.now in
    let full = subst (λ h. AreFull h.slots.items) (sym c.deref-2.ensures) c.self.invariant.0 in
    let is = ap (λ h. inside_of h) c.deref-2.ensures ∙ c.self.view_is in
    omega (arith, slot_below i.deployment i.modules.items i.slots.items i.sent i.steps c.args.self.now c.args.node is full c.requires, c.from.ensures, i.slots.ok.0)

pub returns-then-index : goal.returns-then-index
returns-then-index g c =
    let i = c.deref-2.result.now in
    let full = subst (λ h. AreFull h.slots.items) (sym c.deref-2.ensures) c.self.invariant.0 in
    let is = ap (λ h. inside_of h) c.deref-2.ensures ∙ c.self.view_is in
    let w = c.args.self.now in
    let slot : Slot g.row.M.Denot g.row.M-Paused.Denot = c.index.result.now in
    let there = slot_in i.deployment i.modules.items i.slots.items i.sent i.steps w c.args.node c.from.result slot is full c.requires c.from.ensures c.index.ensures in
    let spare : is_spare w.deployment c.args.node ≡ true = ap (λ (v : WorldState g.row.M.Denot). is_spare v.deployment c.args.node) (sym (ap (λ h. inside_of h) c.deref.ensures ∙ c.self.view_is)) ∙ sym c.if-not-is_spare.ensures in
    let live : is_live w c.args.node ≡ true = live_then (is_live w c.args.node) c.args.node (sym c.unless_live.ensures ∙ c.in_default.is) in
    let joined : has_joined w c.args.node ≡ true =
    ap (λ k. has_joined w k) (sym c.from.ensures)
    ∙ ap (λ (v : WorldState g.row.M.Denot). has_joined v c.from.result) (sym is)
    ∙ sym (joins_of i.slots.items c.from.result slot full there)
    ∙ c.if-index.true in
    sym (may_join w c.args.node true spare live joined)

pub returns : goal.returns
returns g c =
    let i = c.deref-2.result.now in
    let full = subst (λ h. AreFull h.slots.items) (sym c.deref-2.ensures) c.self.invariant.0 in
    let is = ap (λ h. inside_of h) c.deref-2.ensures ∙ c.self.view_is in
    let w = c.args.self.now in
    let slot : Slot g.row.M.Denot g.row.M-Paused.Denot = c.index.result.now in
    let there = slot_in i.deployment i.modules.items i.slots.items i.sent i.steps w c.args.node c.from.result slot is full c.requires c.from.ensures c.index.ensures in
    let spare : is_spare w.deployment c.args.node ≡ true = ap (λ (v : WorldState g.row.M.Denot). is_spare v.deployment c.args.node) (sym (ap (λ h. inside_of h) c.deref.ensures ∙ c.self.view_is)) ∙ sym c.if-not-is_spare.ensures in
    let live : is_live w c.args.node ≡ true = live_then (is_live w c.args.node) c.args.node (sym c.unless_live.ensures ∙ c.in_default.is) in
    let joined : has_joined w c.args.node ≡ false =
    ap (λ k. has_joined w k) (sym c.from.ensures)
    ∙ ap (λ (v : WorldState g.row.M.Denot). has_joined v c.from.result) (sym is)
    ∙ sym (joins_of i.slots.items c.from.result slot full there)
    ∙ c.if-index.false in
    sym (may_join w c.args.node false spare live joined)
