use Rattle.std.proofs.Common.{List, get_or, set, Err, sym, ap, subst, ◌∙◌, arith}
use Rattle.circus_world.specs.declared.slot.Slot.{Slot}
use Rattle.circus_world.specs.Seen.MadeAt.{IsMadeAt}
use Rattle.circus_world.proofs.SlotLemmas.{slot_at}
use Rattle.circus_world.proofs.WorldLemmas.{lost_at}
use Rattle.circus_world.proofs.world.make_at.Goals as goal

pub make_step-requires : goal.make_step-requires
make_step-requires g c =
    let slots = c.args.slots.now in
    let slot : Slot g.row.M.Denot g.row.M-Paused.Denot = c.index_mut.result.now in
    let there = slot_at slots.items c.args.node slot (omega (arith, c.requires.node, slots.ok.0)) (c.index_mut.ensures.value ∙ ap (λ k. get_or slots.items k slot) c.from.ensures) in
    c.requires.can slot there

pub returns-in-Err : goal.returns-in-Err
returns-in-Err g c =
    let M = g.M.Module in
    let slots = c.args.slots.now in
    let slot : Slot g.row.M.Denot g.row.M-Paused.Denot = c.index_mut.result.now in
    let there = slot_at slots.items c.args.node slot (omega (arith, c.requires.node, slots.ok.0)) (c.index_mut.ensures.value ∙ ap (λ k. get_or slots.items k slot) c.from.ensures) in
    let new : List (Slot g.row.M.Denot g.row.M-Paused.Denot) = set slots.items c.from.result c.make_step.new.self in
    subst (λ l. IsMadeAt M.declared M.turn c.args.at c.args.node c.args.event slots.items new (Err l)) (sym c.of.ensures)
    (lost_at M.declared M.turn c.args.at c.args.node c.args.event slots.items new slot c.make_step.new.self c.in-Err.fault there c.in-Err.ensures)

pub returns-in-Ok : goal.returns-in-Ok
returns-in-Ok g c =
    let slots = c.args.slots.now in
    let slot : Slot g.row.M.Denot g.row.M-Paused.Denot = c.index_mut.result.now in
    let there = slot_at slots.items c.args.node slot (omega (arith, c.requires.node, slots.ok.0)) (c.index_mut.ensures.value ∙ ap (λ k. get_or slots.items k slot) c.from.ensures) in
    record {
      slot = slot;
      there = there;
      next = c.make_step.new.self;
      made = c.in-Ok.ensures;
      new_is = ap (λ k. set c.args.slots.now.items k c.make_step.new.self) c.from.ensures;
    }
