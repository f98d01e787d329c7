use Rattle.std.proofs.Common.{List, get_or, set, Err, sym, ap, subst, ◌∙◌, arith}
use Rattle.circus_node.specs.declared.event.Event.TheVariants.{Datagram}
use Rattle.circus_world.specs.declared.slot.Slot.{Slot}
use Rattle.circus_world.specs.Seen.MadeAt.{IsMadeAt}
use Rattle.circus_world.proofs.SlotLemmas.{slot_at}
use Rattle.circus_world.proofs.WorldLemmas.{lost_at}
use Rattle.circus_world.proofs.world.hear_at.Goals as goal

pub hear-requires : goal.hear-requires
hear-requires g c =
    let slots = c.args.slots.now in
    let slot : Slot g.row.M.Denot g.row.M-Paused.Denot = c.index_mut.result.now in
    let there = slot_at slots.items c.args.node slot (omega (arith, c.requires.node, slots.ok.0)) (c.index_mut.ensures.value ∙ ap (λ k. get_or slots.items k slot) c.from.ensures) in
    c.requires.can slot there

pub returns-in-Err : goal.returns-in-Err
returns-in-Err g c =
    let M = g.M.Module in
    let slots = c.args.slots.now in
    let slot : Slot g.row.M.Denot g.row.M-Paused.Denot = c.index_mut.result.now in
    let there = slot_at slots.items c.args.node slot (omega (arith, c.requires.node, slots.ok.0)) (c.index_mut.ensures.value ∙ ap (λ k. get_or slots.items k slot) c.from.ensures) in
    let new : List (Slot g.row.M.Denot g.row.M-Paused.Denot) = set slots.items c.from.result c.hear.new.self in
    subst (λ l. IsMadeAt M.declared M.turn c.args.at c.args.node (Datagram c.args.from c.args.datagram.now) slots.items new (Err l)) (sym c.of.ensures)
    (lost_at M.declared M.turn c.args.at c.args.node (Datagram c.args.from c.args.datagram.now) slots.items new slot c.hear.new.self c.in-Err.fault there c.in-Err.ensures)

pub returns-in-Ok : goal.returns-in-Ok
returns-in-Ok g c =
    let slots = c.args.slots.now in
    let slot : Slot g.row.M.Denot g.row.M-Paused.Denot = c.index_mut.result.now in
    let there = slot_at slots.items c.args.node slot (omega (arith, c.requires.node, slots.ok.0)) (c.index_mut.ensures.value ∙ ap (λ k. get_or slots.items k slot) c.from.ensures) in
    record {
      slot = slot;
      there = there;
      next = c.hear.new.self;
      made = c.in-Ok.ensures;
      new_is = ap (λ k. set c.args.slots.now.items k c.hear.new.self) c.from.ensures;
    }
