use Rattle.std.proofs.Common.{◌≡◌, ◌++◌, ◌<◌, length, sym, subst, ◌∙◌, arith, rules}
use Rattle.std.specs.Prelude.{codes, OnOk}
use Rattle.std.specs.Fmt.{decimal}
use Rattle.circus_stub.specs.Seen.Standing.{FieldsStand}
use Rattle.circus_stub.specs.StubsText.{part_words, shape_words, field_words, arm_words}
use Rattle.circus_stub.proofs.StandLemmas.{stands_as, fields_first, fields_last, arms_first, arms_last, arm_at, one_operation}
use Rattle.circus_stub.proofs.ShowLemmas.{both, field_shown, fields_shown, arm_shown, arms_shown}
use Rattle.circus_stub.proofs.show.+showing.Goals as goal

-- ---- one value

pub add_value-bounds-operations-place : goal.add_value-bounds-operations-place
add_value-bounds-operations-place t c = c.requires.1.within

pub add_value-returns-in-Boolean : goal.add_value-returns-in-Boolean
add_value-returns-in-Boolean t c = λ shape standing.
    rw (stands_as standing c.index-operations-place.is c.in-Boolean.is) c.append.ensures.ok

pub add_value-returns-in-Cardinal : goal.add_value-returns-in-Cardinal
add_value-returns-in-Cardinal t c = λ shape standing.
    rw (stands_as standing c.index-operations-place.is c.in-Cardinal.is) c.append-in-Cardinal.ensures.ok

pub add_value-returns-in-LongCardinal : goal.add_value-returns-in-LongCardinal
add_value-returns-in-LongCardinal t c = λ shape standing.
    rw (stands_as standing c.index-operations-place.is c.in-LongCardinal.is) c.append-in-LongCardinal.ensures.ok

pub add_value-returns-in-Integer : goal.add_value-returns-in-Integer
add_value-returns-in-Integer t c = λ shape standing.
    rw (stands_as standing c.index-operations-place.is c.in-Integer.is) c.append-in-Integer.ensures.ok

pub add_value-returns-in-LongInteger : goal.add_value-returns-in-LongInteger
add_value-returns-in-LongInteger t c = λ shape standing.
    rw (stands_as standing c.index-operations-place.is c.in-LongInteger.is) c.append-in-LongInteger.ensures.ok

pub add_value-returns-in-Text : goal.add_value-returns-in-Text
add_value-returns-in-Text t c = λ shape standing.
    rw (stands_as standing c.index-operations-place.is c.in-Text.is) c.append-in-Text.ensures.ok

pub add_value-returns-in-Enumeration : goal.add_value-returns-in-Enumeration
add_value-returns-in-Enumeration t c = λ shape standing.
    let e = stands_as standing c.index-operations-place.is c.in-Enumeration.is in
    rw e.1 (rw (c.as_slice.ensures ∙ e.2) at c.add_enumeration.ensures)

pub add_value-unreachable-requires : goal.add_value-unreachable-requires
add_value-unreachable-requires t c =
    stands_as c.requires.1 c.index-operations-place.is c.in-Arm.is

pub add_value-add_part-requires : goal.add_value-add_part-requires
add_value-add_part-requires t c =
    let st = stands_as c.requires.1 c.index-operations-place.is c.in-Array.is in
    (omega (arith, c.requires.1.within, c.decreases), (st.0, st.2))

pub add_value-returns-in-Array : goal.add_value-returns-in-Array
add_value-returns-in-Array t c = λ shape standing.
    let st = stands_as standing c.index-operations-place.is c.in-Array.is in
    rw st.1 (rw c.from.ensures at (c.add_part.ensures st.0 st.2))

pub add_value-add_part-requires-in-Sequence : goal.add_value-add_part-requires-in-Sequence
add_value-add_part-requires-in-Sequence t c =
    let st = stands_as c.requires.1 c.index-operations-place.is c.in-Sequence.is in
    (omega (arith, c.requires.1.within, c.decreases), (st.0, st.2))

pub add_value-returns-in-Sequence : goal.add_value-returns-in-Sequence
add_value-returns-in-Sequence t c = λ shape standing.
    let st = stands_as standing c.index-operations-place.is c.in-Sequence.is in
    rw st.1 (rw c.from-in-Sequence.ensures at (c.add_part-in-Sequence.ensures st.0 st.2))

pub add_value-add_record-requires : goal.add_value-add_record-requires
add_value-add_record-requires t c =
    let st = stands_as c.requires.1 c.index-operations-place.is c.in-Record.is in
    (omega (arith, c.requires.1.within, c.decreases), (st.0, st.2))

pub add_value-returns-in-Record : goal.add_value-returns-in-Record
add_value-returns-in-Record t c = λ shape standing.
    let st = stands_as standing c.index-operations-place.is c.in-Record.is in
    rw st.1 (subst (λ n. OnOk c.add_record.result (c.add_record.new.text ≡ c.args.text.now ++ (codes " record" ++ part_words n (field_words st.0)))) st.3 (c.add_record.ensures st.0 st.2))

pub add_value-add_choice-requires : goal.add_value-add_choice-requires
add_value-add_choice-requires t c =
    let st = stands_as c.requires.1 c.index-operations-place.is c.in-Choice.is in
    (omega (arith, c.requires.1.within, c.decreases), (st.0, st.2))

pub add_value-returns-in-Choice : goal.add_value-returns-in-Choice
add_value-returns-in-Choice t c = λ shape standing.
    let st = stands_as standing c.index-operations-place.is c.in-Choice.is in
    rw st.1 (subst (λ n. OnOk c.add_choice.result (c.add_choice.new.text ≡ c.args.text.now ++ (codes " choice" ++ part_words n (arm_words st.0)))) st.3 (c.add_choice.ensures st.0 st.2))

pub add_part-add_value-requires : goal.add_part-add_value-requires
add_part-add_value-requires t c = (omega (arith, c.decreases), c.requires)

pub add_part-returns : goal.add_part-returns
add_part-returns t c = λ shape standing.
    let open_words = codes " " ++ decimal c.args.number ++ codes " (" in
    let inner = both c.append.new.self _ _ open_words (shape_words shape) c.in_ok-add_open.ensures (c.in_ok-add_value.ensures shape standing) in
    let part = both c.append.new.self _ _ (open_words ++ (shape_words shape)) (codes " )") inner c.in_ok-append-2.ensures.ok in
    both c.args.text.now _ _ c.args.word.now (open_words ++ (shape_words shape) ++ codes " )") c.in_ok-append.ensures.ok part

pub add_record-add_values-requires : goal.add_record-add_values-requires
add_record-add_values-requires t c = (omega (arith, c.decreases), c.requires)

pub add_record-returns : goal.add_record-returns
add_record-returns t c = λ fields standing.
    let open_words = codes " " ++ decimal c.args.number ++ codes " (" in
    let inner = both c.append.new.self _ _ open_words (field_words fields) c.in_ok-add_open.ensures (c.in_ok-add_values.ensures fields standing) in
    let part = both c.append.new.self _ _ (open_words ++ (field_words fields)) (codes " )") inner c.in_ok-append-2.ensures.ok in
    both c.args.text.now _ _ (codes " record") (open_words ++ (field_words fields) ++ codes " )") c.in_ok-append.ensures.ok part

pub add_choice-add_arms-requires : goal.add_choice-add_arms-requires
add_choice-add_arms-requires t c = (omega (arith, c.decreases), c.requires)

pub add_choice-returns : goal.add_choice-returns
add_choice-returns t c = λ arms standing.
    let open_words = codes " " ++ decimal c.args.number ++ codes " (" in
    let inner = both c.append.new.self _ _ open_words (arm_words arms) c.in_ok-add_open.ensures (c.in_ok-add_arms.ensures arms standing) in
    let part = both c.append.new.self _ _ (open_words ++ (arm_words arms)) (codes " )") inner c.in_ok-append-2.ensures.ok in
    both c.args.text.now _ _ (codes " choice") (open_words ++ (arm_words arms) ++ codes " )") c.in_ok-append.ensures.ok part

-- ---- fields

pub add_values-add_value-requires : goal.add_values-add_value-requires
add_values-add_value-requires t c =
    let left = c.loop-here.invariant.left c.requires.0 c.requires.1 in
    let first = fields_first left.0 c.loop-here-test.true left.1 in
    (omega (arith, c.loop-here.invariant.further, c.decreases), (first.shape, first.stand))

pub add_values-place_behind-here-requires : goal.add_values-place_behind-here-requires
add_values-place_behind-here-requires t c =
    let left = c.loop-here.invariant.left c.requires.0 c.requires.1 in
    let first = fields_first left.0 c.loop-here-test.true left.1 in
    (first.shape, first.stand)

pub add_values-loop-here-smaller : goal.add_values-loop-here-smaller
add_values-loop-here-smaller t c =
    let left = c.loop-here.invariant.left c.requires.0 c.requires.1 in
    let first = fields_first left.0 c.loop-here-test.true left.1 in
    omega (arith, c.place_behind-here.ensures first.shape first.stand, one_operation first.shape, c.loop-here-test.true)

pub add_values-loop-here-preserved : goal.add_values-loop-here-preserved
add_values-loop-here-preserved t c =
    let all = c.loop-here.invariant.left c.requires.0 c.requires.1 in
    let some = fields_first all.0 c.loop-here-test.true all.1 in
    record {
      further = omega (arith, c.loop-here.invariant.further, c.place_behind-here.ensures some.shape some.stand);
      left = λ fields standing.
          let left = c.loop-here.invariant.left fields standing in
          let first = fields_first left.0 c.loop-here-test.true left.1 in
          (first.others, subst (λ k. FieldsStand c.args.operations.now k c.args.end first.others) (sym (c.place_behind-here.ensures first.shape first.stand)) first.later, field_shown first _ _ _ (c.in_ok-add_value.ensures first.shape first.stand) left.2);
    }

pub add_values-returns : goal.add_values-returns
add_values-returns t c = λ fields standing.
    let left = c.loop-here.invariant.left fields standing in
    let none = fields_last left.0 c.loop-here-test.false left.1 in
    fields_shown left.0 _ _ none left.2

-- ---- arms

pub add_arms-bounds-operations-here : goal.add_arms-bounds-operations-here
add_arms-bounds-operations-here t c =
    let left = c.loop-here.invariant.left c.requires.0 c.requires.1 in
    (arms_first left.0 c.loop-here-test.true left.1).within

pub add_arms-offset_bounds-operations-here : goal.add_arms-offset_bounds-operations-here
add_arms-offset_bounds-operations-here t c =
    let left = c.loop-here.invariant.left c.requires.0 c.requires.1 in
    let within : c.loop-here.here < length c.args.operations.now = (arms_first left.0 c.loop-here-test.true left.1).within in
    search rules

pub add_arms-add_part-requires : goal.add_arms-add_part-requires
add_arms-add_part-requires t c =
    let left = c.loop-here.invariant.left c.requires.0 c.requires.1 in
    let first = arms_first left.0 c.loop-here-test.true left.1 in
    (omega (arith, c.loop-here.invariant.further, first.within, c.decreases), (first.shape, first.stand))

pub add_arms-loop-here-smaller : goal.add_arms-loop-here-smaller
add_arms-loop-here-smaller t c =
    let left = c.loop-here.invariant.left c.requires.0 c.requires.1 in
    let further = (arm_at c.loop-here-test.true left.1 c.index-operations-here.is c.in-Arm.is).further in
    omega (arith, further, c.loop-here-test.true)

pub add_arms-loop-here-preserved : goal.add_arms-loop-here-preserved
add_arms-loop-here-preserved t c =
    let all = c.loop-here.invariant.left c.requires.0 c.requires.1 in
    let further = (arm_at c.loop-here-test.true all.1 c.index-operations-here.is c.in-Arm.is).further in
    record {
      further = omega (arith, c.loop-here.invariant.further, further);
      left = λ arms standing.
          let left = c.loop-here.invariant.left arms standing in
          let arm = arm_at c.loop-here-test.true left.1 c.index-operations-here.is c.in-Arm.is in
          (arm.others, arm.later, arm_shown arm _ _ _ (rw c.from.ensures at (c.in_ok-add_part-in-Arm.ensures arm.shape arm.stand)) left.2);
    }

pub add_arms-unreachable-requires : goal.add_arms-unreachable-requires
add_arms-unreachable-requires t c =
    let left = c.loop-here.invariant.left c.requires.0 c.requires.1 in
    let first = arms_first left.0 c.loop-here-test.true left.1 in
    c.in_default.not-Arm _ _ (c.index-operations-here.is ∙ first.head c.index-operations-here.result)

pub add_arms-returns : goal.add_arms-returns
add_arms-returns t c = λ arms standing.
    let left = c.loop-here.invariant.left arms standing in
    let none = arms_last left.0 c.loop-here-test.false left.1 in
    arms_shown left.0 _ _ none left.2
