use Rattle.std.proofs.Common.{◌≡◌, true, ◌++◌, OnOk, sym, ap, ◌∙◌, subst, arith, append_assoc}
use Rattle.circus_value.specs.ValueOf as values
use Rattle.circus_value.specs.ValueTree.{value_trees}
use Rattle.circus_value.specs.Fits.{fits, every, fields_fit, arm_fits}
use Rattle.circus_value.proofs.FitLemmas.{count_of-value_trees}
use Rattle.circus_external.specs.Octets.{word}
use Rattle.circus_external.specs.Spelling.{spelling_of_all}
use Rattle.circus_external.proofs.ShapesAlike.{and_both}
use Rattle.circus_stub.specs.Seen.Standing.{FieldsStand}
use Rattle.circus_stub.proofs.StandLemmas.{stands_as}
use Rattle.circus_stub.proofs.WriterLemmas.{item_passes, fields_go, written_more, sequence_bounded, chosen_fits, chosen_exists, same_fits}
use Rattle.circus_stub.proofs.writer.+writing.Goals as goal

-- ---- one value

pub write_value-truth-requires : goal.write_value-truth-requires
write_value-truth-requires t c =
    subst (λ s. fits s (values.tree_of c.args.value.now) ≡ true) (stands_as c.requires.1 c.index-operations-place.is c.in-Boolean.is) c.requires.2

pub write_value-cardinal-requires : goal.write_value-cardinal-requires
write_value-cardinal-requires t c =
    subst (λ s. fits s (values.tree_of c.args.value.now) ≡ true) (stands_as c.requires.1 c.index-operations-place.is c.in-Cardinal.is) c.requires.2

pub write_value-long_cardinal-requires : goal.write_value-long_cardinal-requires
write_value-long_cardinal-requires t c =
    subst (λ s. fits s (values.tree_of c.args.value.now) ≡ true) (stands_as c.requires.1 c.index-operations-place.is c.in-LongCardinal.is) c.requires.2

pub write_value-integer-requires : goal.write_value-integer-requires
write_value-integer-requires t c =
    subst (λ s. fits s (values.tree_of c.args.value.now) ≡ true) (stands_as c.requires.1 c.index-operations-place.is c.in-Integer.is) c.requires.2

pub write_value-long_integer-requires : goal.write_value-long_integer-requires
write_value-long_integer-requires t c =
    subst (λ s. fits s (values.tree_of c.args.value.now) ≡ true) (stands_as c.requires.1 c.index-operations-place.is c.in-LongInteger.is) c.requires.2

pub write_value-text-requires : goal.write_value-text-requires
write_value-text-requires t c =
    subst (λ s. fits s (values.tree_of c.args.value.now) ≡ true) (stands_as c.requires.1 c.index-operations-place.is c.in-Text.is) c.requires.2

pub write_value-label-requires : goal.write_value-label-requires
write_value-label-requires t c =
    let e = stands_as c.requires.1 c.index-operations-place.is c.in-Enumeration.is in
    (e.0, subst (λ s. fits s (values.tree_of c.args.value.now) ≡ true) e.1 c.requires.2)

pub write_value-unreachable-requires : goal.write_value-unreachable-requires
write_value-unreachable-requires t c =
    stands_as c.requires.1 c.index-operations-place.is c.in-Arm.is

pub write_value-array-requires : goal.write_value-array-requires
write_value-array-requires t c =
    let st = stands_as c.requires.1 c.index-operations-place.is c.in-Array.is in
    (c.in-Array.len, fits st.0, subst (λ s. fits s (values.tree_of c.args.value.now) ≡ true) st.1 c.requires.2)

pub write_value-write_items-requires : goal.write_value-write_items-requires
write_value-write_items-requires t c =
    let st = stands_as c.requires.1 c.index-operations-place.is c.in-Array.is in
    let fit = same_fits c.requires.0 _ (values.tree_of c.args.value.now) _ st.1 c.array.ensures c.requires.2 in
    (omega (arith, c.requires.1.within, c.decreases), (st.0, st.2, (and_both _ (every (fits st.0) (value_trees c.array.result.now)) fit).1))

pub write_value-sequence-requires : goal.write_value-sequence-requires
write_value-sequence-requires t c =
    let st = stands_as c.requires.1 c.index-operations-place.is c.in-Sequence.is in
    (c.in-Sequence.bound, fits st.0, subst (λ s. fits s (values.tree_of c.args.value.now) ≡ true) st.1 c.requires.2)

pub write_value-write_sequence-requires : goal.write_value-write_sequence-requires
write_value-write_sequence-requires t c =
    let st = stands_as c.requires.1 c.index-operations-place.is c.in-Sequence.is in
    (omega (arith, c.requires.1.within, c.decreases), (st.0, st.2, same_fits c.requires.0 _ (values.tree_of c.args.value.now) _ st.1 c.sequence.ensures c.requires.2))

pub write_value-parts-requires : goal.write_value-parts-requires
write_value-parts-requires t c =
    let st = stands_as c.requires.1 c.index-operations-place.is c.in-Record.is in
    (fields_fit st.0, subst (λ s. fits s (values.tree_of c.args.value.now) ≡ true) st.1 c.requires.2)

pub write_value-write_values-requires : goal.write_value-write_values-requires
write_value-write_values-requires t c =
    let st = stands_as c.requires.1 c.index-operations-place.is c.in-Record.is in
    (omega (arith, c.requires.1.within, c.decreases), (st.0, st.2, same_fits c.requires.0 _ (values.tree_of c.args.value.now) _ st.1 c.parts.ensures c.requires.2))

pub write_value-choice-number-requires : goal.write_value-choice-number-requires
write_value-choice-number-requires t c =
    let st = stands_as c.requires.1 c.index-operations-place.is c.in-Choice.is in
    (arm_fits st.0, subst (λ s. fits s (values.tree_of c.args.value.now) ≡ true) st.1 c.requires.2)

pub write_value-write_choice-requires : goal.write_value-write_choice-requires
write_value-write_choice-requires t c =
    let st = stands_as c.requires.1 c.index-operations-place.is c.in-Choice.is in
    (omega (arith, c.requires.1.within, c.decreases), (st.0, st.2, same_fits c.requires.0 _ (values.tree_of c.args.value.now) _ st.1 c.choice-number.ensures c.requires.2))

-- ---- sequences

pub write_sequence-prove-unreachable-requires : goal.write_sequence-prove-unreachable-requires
write_sequence-prove-unreachable-requires t c =
    omega (arith, sequence_bounded c.args.bound (fits c.requires.0) c.args.items.now c.requires.2, c.len-count.ensures, c.from.ensures)

pub write_sequence-returns : goal.write_sequence-returns
write_sequence-returns t c =
    let items = c.args.items.now in
    let before = c.args.out.now in
    let count : c.len-count.result ≡ _ = c.len-count.ensures ∙ sym (count_of-value_trees items) in
    let all = ap (λ out. out ++ spelling_of_all items) c.in_ok-write_word.ensures.ok ∙ append_assoc before (word c.len-count.result) (spelling_of_all items)
    ∙ ap (λ n. before ++ (word n ++ spelling_of_all items)) count in
    subst (λ bytes. OnOk c.write_items.result (c.write_items.new.out ≡ bytes)) all c.write_items.ensures

-- ---- items

pub write_items-write_value-requires : goal.write_items-write_value-requires
write_items-write_value-requires t c =
    let fit = item_passes (fits c.requires.0) c.as_slice-item-items.result.now c.loop-item.item-index c.item-item.result c.loop-item-test.true c.item-item.is (subst (λ ts. every (fits c.requires.0) (value_trees ts) ≡ true) (sym c.as_slice-item-items.ensures) c.requires.2) in
    (omega (arith, c.decreases), (c.requires.0, c.requires.1, fit))

-- ---- one value behind another

pub write_values-prove-unreachable-requires : goal.write_values-prove-unreachable-requires
write_values-prove-unreachable-requires t c =
    let left = c.loop-value.invariant.left in
    let go = fields_go c.args.operations.now c.loop-value.operation c.args.end left.0 c.as_slice-value-items.result.now c.loop-value.value-index c.value-item.result c.loop-value-test.true c.value-item.is left.1 left.2 in
    omega (arith, go.before)

pub write_values-write_value-requires : goal.write_values-write_value-requires
write_values-write_value-requires t c =
    let left = c.loop-value.invariant.left in
    let go = fields_go c.args.operations.now c.loop-value.operation c.args.end left.0 c.as_slice-value-items.result.now c.loop-value.value-index c.value-item.result c.loop-value-test.true c.value-item.is left.1 left.2 in
    (omega (arith, c.loop-value.invariant.further, c.decreases), (go.shape, go.stand, go.admitted))

pub write_values-place_behind-operation-requires : goal.write_values-place_behind-operation-requires
write_values-place_behind-operation-requires t c =
    let left = c.loop-value.invariant.left in
    let go = fields_go c.args.operations.now c.loop-value.operation c.args.end left.0 c.as_slice-value-items.result.now c.loop-value.value-index c.value-item.result c.loop-value-test.true c.value-item.is left.1 left.2 in
    (go.shape, go.stand)

pub write_values-loop-value-preserved : goal.write_values-loop-value-preserved
write_values-loop-value-preserved t c =
    let items = c.as_slice-value-items.result.now in
    let left = c.loop-value.invariant.left in
    let go = fields_go c.args.operations.now c.loop-value.operation c.args.end left.0 items c.loop-value.value-index c.value-item.result c.loop-value-test.true c.value-item.is left.1 left.2 in
    let next = c.place_behind-operation.ensures go.shape go.stand in
    record {
      written = written_more items c.loop-value.value-index c.value-item.result c.loop-value.out _ _ c.loop-value-test.true c.value-item.is c.in_ok-write_value.ensures c.loop-value.invariant.written;
      further = omega (arith, c.loop-value.invariant.further, next);
      left = (go.others, subst (λ k. FieldsStand c.args.operations.now k c.args.end go.others) (sym next) go.later, go.rest);
    }

-- ---- a number and a value of its arm

pub write_choice-write_value-requires : goal.write_choice-write_value-requires
write_choice-write_value-requires t c =
    let part = c.in-Some.ensures c.requires.0 c.requires.1 in
    (omega (arith, part.0, c.decreases), (part.1.0, part.1.2, chosen_fits c.requires.0 c.args.number (values.tree_of c.args.value.now) part.1.0 part.1.1 c.requires.2))

pub write_choice-unreachable-requires : goal.write_choice-unreachable-requires
write_choice-unreachable-requires t c =
    chosen_exists c.requires.0 c.args.number (values.tree_of c.args.value.now) (c.in-None.ensures c.requires.0 c.requires.1) c.requires.2
