use Rattle.std.proofs.Common.{refl, sym, ap, subst, ◌∙◌, arith, true}
use Rattle.circus_world.specs.WorldState.{WorldState, Standing}
use Rattle.circus_world.specs.Course.{told_to_join}
use Rattle.circus_world.specs.declared.slot.Slot.{Slot}
use Rattle.circus_world.specs.Seen.Slots.{AreFull}
use Rattle.circus_world.specs.Seen.Sound.{IsSound}
use Rattle.circus_world.specs.Seen.Inside.{inside_of}
use Rattle.circus_world.proofs.SoundLemmas.{noted_sound}
use Rattle.circus_world.proofs.WorldLemmas.{slot_below, slot_in, noted_full, noted_is}
use Rattle.circus_world.proofs.world.World.tell_to_join.Goals as goal

pub index_mut-requires : goal.index_mut-requires
index_mut-requires g c =
    let i = c.deref_mut-own.result.now in
    let full = subst (λ h. AreFull h.slots.items) (sym c.deref_mut-own.ensures.value) c.self.invariant.0 in
    let is = ap (λ h. inside_of h) c.deref_mut-own.ensures.value ∙ c.self.view_is in
    omega (arith, slot_below i.deployment i.modules.items i.slots.items i.sent i.steps c.args.self c.args.node is full c.requires, c.from.ensures, i.slots.ok.0)

pub invariant_of-result : goal.invariant_of-result
invariant_of-result g c =
    let i = c.deref_mut-own.result.now in
    let full = subst (λ h. AreFull h.slots.items) (sym c.deref_mut-own.ensures.value) c.self.invariant.0 in
    let sound = subst (λ h. IsSound (inside_of h)) (sym c.deref_mut-own.ensures.value) c.self.invariant.1 in
    let is = ap (λ h. inside_of h) c.deref_mut-own.ensures.value ∙ c.self.view_is in
    let slot : Slot g.row.M.Denot g.row.M-Paused.Denot = c.index_mut.result.now in
    let note : Standing g.row.M.Denot → Standing g.row.M.Denot = λ s. record s { joins = true } in
    let next : Slot g.row.M.Denot g.row.M-Paused.Denot = record slot { joins = true } in
    let there = slot_in i.deployment i.modules.items i.slots.items i.sent i.steps c.args.self c.args.node c.from.result slot is full c.requires c.from.ensures c.index_mut.ensures.value in
    let noted = noted_is i.deployment i.modules.items i.slots.items i.sent i.steps c.from.result slot next note full there refl (λ n. refl) in
    (noted_full i.slots.items c.from.result slot next full there refl, subst (λ (w : WorldState g.row.M.Denot). IsSound w) (sym noted) (noted_sound note c.from.result _ (λ s. refl) sound))

pub returns : goal.returns
returns g c =
    let i = c.deref_mut-own.result.now in
    let full = subst (λ h. AreFull h.slots.items) (sym c.deref_mut-own.ensures.value) c.self.invariant.0 in
    let is = ap (λ h. inside_of h) c.deref_mut-own.ensures.value ∙ c.self.view_is in
    let slot : Slot g.row.M.Denot g.row.M-Paused.Denot = c.index_mut.result.now in
    let note : Standing g.row.M.Denot → Standing g.row.M.Denot = λ s. record s { joins = true } in
    let next : Slot g.row.M.Denot g.row.M-Paused.Denot = record slot { joins = true } in
    let there = slot_in i.deployment i.modules.items i.slots.items i.sent i.steps c.args.self c.args.node c.from.result slot is full c.requires c.from.ensures c.index_mut.ensures.value in
    let noted = noted_is i.deployment i.modules.items i.slots.items i.sent i.steps c.from.result slot next note full there refl (λ n. refl) in
    noted
    ∙ ap (λ w. told_to_join c.from.result w) is
    ∙ ap (λ k. told_to_join k c.args.self) c.from.ensures
