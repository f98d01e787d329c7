use Rattle.std.proofs.Common.{◌≡◌, ◌+◌, [], ◌∷◌, ◌++◌, length, nat_eq, if◌then◌else◌, sym, ap, ◌∙◌, arith, length-append, Some}
use Rattle.circus_gather.specs.Gathering.{is_of_index}
use Rattle.circus_gather.specs.Seen.Slots.{slots_of_index, places_from}
use Rattle.circus_gather.proofs.Standing.{places-append, so_far, stay_more, stay_none, so_far_few}
use Rattle.circus_gather.proofs.places.places_without.Goals as goal
use Rattle.circus_gather.proofs.places.places_without.Goals.{in-Some+in_ok-note, in_default}

pub overflow_add-place : goal.overflow_add-place
overflow_add-place c =
    omega (arith, c.loop-slot.invariant.behind, so_far_few c.args.module c.args.group c.args.slots.now c.loop-slot.slot-index)

pub loop-slot-preserved : goal.loop-slot-preserved
loop-slot-preserved c =
    let m = c.args.module in
    let slots = c.args.slots.now in
    let i = c.loop-slot.slot-index in
    let before = so_far m c.args.group slots i in
    elim c.match-call_outside.branch [
      | in-Some+in_ok-note w ↦
          let call = w.in-Some.call.now in
          let more = stay_more m c.args.group slots i c.slot-item.result call c.loop-slot-test.true c.slot-item.is w.in-Some.ensures in
          let place : c.loop-slot.place ≡ 0 + length before = omega (arith, c.loop-slot.invariant.behind) in
          record {
            are_found = λ q.
                (λ j. slots_of_index (w.places-is j).entries q) ∙ w.in_ok-note.ensures.ok q
                ∙ ap (λ ps. ps ++ (if nat_eq w.index_of.result q then c.loop-slot.place ∷ [] else [])) (c.loop-slot.invariant.are_found q)
                ∙ ap (λ n. places_from (is_of_index m q) 0 before ++ (if nat_eq n q then c.loop-slot.place ∷ [] else [])) w.index_of.ensures
                ∙ sym (places-append (is_of_index m q) 0 c.loop-slot.place before call place)
                ∙ ap (places_from (is_of_index m q) 0) (sym more);
            behind = w.place-is ∙ omega (arith, c.loop-slot.invariant.behind, ap length more, length-append before (Some call ∷ []));
          }
      | in_default w ↦
          let none = stay_none m c.args.group slots i c.slot-item.result c.loop-slot-test.true c.slot-item.is w.in_default.ensures in
          record {
            are_found = λ q. (λ j. slots_of_index (w.places-is j).entries q) ∙ c.loop-slot.invariant.are_found q ∙ ap (places_from (is_of_index m q) 0) (sym none);
            behind = w.place-is ∙ c.loop-slot.invariant.behind ∙ ap length (sym none);
          }
    ]
