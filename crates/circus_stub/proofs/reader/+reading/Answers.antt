use Rattle.std.proofs.Common.{◌+◌, ◌-◌, drop, sym, subst, ◌∙◌, arith, ap}
use Rattle.std.proofs.lemmas.Result.{err_from_is_err_and}
use Rattle.circus_value.specs.ValueOf as values
use Rattle.circus_value.specs.ValueTree as V
use Rattle.circus_value.specs.ValueTree.{value_trees}
use Rattle.circus_external.specs.Answer.{found}
use Rattle.circus_external.specs.Reading.{answer_map, one_word, items_read, sequence_read, reading, fields_reading, choice_read}
use Rattle.circus_external.proofs.ReadLemmas.{behind, fault_mapped, items_more, items_fault}
use Rattle.circus_stub.specs.Seen.Standing.{FieldsStand, listed_value}
use Rattle.circus_stub.proofs.StandLemmas.{stands_as, fields_first, fields_last, one_operation}
use Rattle.circus_stub.proofs.ReaderLemmas.{fields_more, fields_all, fields_fault, chosen_read, unchosen_read, listed_value-label_numbers}
use Rattle.circus_stub.proofs.reader.+reading.Goals as goal

-- ---- one value

pub read_value-returns-in-Boolean : goal.read_value-returns-in-Boolean
read_value-returns-in-Boolean g t c = λ shape standing.
    rw (stands_as standing c.index-operations-place.is c.in-Boolean.is) c.read_from.ensures

pub read_value-returns-in-Cardinal : goal.read_value-returns-in-Cardinal
read_value-returns-in-Cardinal g t c = λ shape standing.
    rw (stands_as standing c.index-operations-place.is c.in-Cardinal.is) c.read_from-in-Cardinal.ensures

pub read_value-returns-in-LongCardinal : goal.read_value-returns-in-LongCardinal
read_value-returns-in-LongCardinal g t c = λ shape standing.
    rw (stands_as standing c.index-operations-place.is c.in-LongCardinal.is) c.read_from-in-LongCardinal.ensures

pub read_value-returns-in-Integer : goal.read_value-returns-in-Integer
read_value-returns-in-Integer g t c = λ shape standing.
    rw (stands_as standing c.index-operations-place.is c.in-Integer.is) c.read_from-in-Integer.ensures

pub read_value-returns-in-LongInteger : goal.read_value-returns-in-LongInteger
read_value-returns-in-LongInteger g t c = λ shape standing.
    rw (stands_as standing c.index-operations-place.is c.in-LongInteger.is) c.read_from-in-LongInteger.ensures

pub read_value-returns-in-Text : goal.read_value-returns-in-Text
read_value-returns-in-Text g t c = λ shape standing.
    rw (stands_as standing c.index-operations-place.is c.in-Text.is) c.read_from-in-Text.ensures

pub read_value-returns-in-Enumeration : goal.read_value-returns-in-Enumeration
read_value-returns-in-Enumeration g t c = λ shape standing.
    let bytes = g.S.ByteSource.octets c.args.source.now in
    let e = stands_as standing c.index-operations-place.is c.in-Enumeration.is in
    let same = ap (λ m. one_word m c.args.at (drop c.args.at bytes)) (ap listed_value (c.as_slice.ensures ∙ e.2) ∙ listed_value-label_numbers e.0) in
    rw e.1 (rw same at c.read_listed.ensures)

pub read_value-unreachable-requires : goal.read_value-unreachable-requires
read_value-unreachable-requires g t c =
    let standing = c.requires.standing in
    stands_as standing.1 c.index-operations-place.is c.in-Arm.is

pub read_value-read_items-requires : goal.read_value-read_items-requires
read_value-read_items-requires g t c κs within =
    let standing = c.requires.standing in
    let st = stands_as standing.1 c.index-operations-place.is c.in-Array.is in
    (omega (arith, standing.1.within, c.decreases), (within, (c.requires.within, (st.0, st.2))))

pub read_value-returns-in_err-items-in-Array : goal.read_value-returns-in_err-items-in-Array
read_value-returns-in_err-items-in-Array g t c = λ shape standing.
    let p = err_from_is_err_and c.from_residual.result c.from_residual.ensures.1 in
    let bytes = g.S.ByteSource.octets c.args.source.now in
    let st = stands_as standing c.index-operations-place.is c.in-Array.is in
    rw (p.1, p.2)
    (fault_mapped (λ ts. ts) values.tree_of bytes c.in_err-items-in-Array.field-0.0 (items_read (reading st.0) c.in-Array.len c.args.at (drop c.args.at bytes)) (reading shape c.args.at (drop c.args.at bytes)) (λ ts. V.array (value_trees ts)) (c.in_err-items-in-Array.ensures st.0 st.2) (ap (λ s. reading s c.args.at (drop c.args.at bytes)) st.1))

pub read_value-returns-in_ok-items-in-Array : goal.read_value-returns-in_ok-items-in-Array
read_value-returns-in_ok-items-in-Array g t c = λ shape standing.
    let bytes = g.S.ByteSource.octets c.args.source.now in
    let st = stands_as standing c.index-operations-place.is c.in-Array.is in
    let items = c.in_ok-items-in-Array.ensures st.0 st.2 in
    (items.0, ap (λ s. reading s c.args.at (drop c.args.at bytes)) st.1 ∙ ap (answer_map (λ ts. V.array (value_trees ts))) items.1)

pub read_value-read_sequence-requires : goal.read_value-read_sequence-requires
read_value-read_sequence-requires g t c κs within =
    let standing = c.requires.standing in
    let st = stands_as standing.1 c.index-operations-place.is c.in-Sequence.is in
    (omega (arith, standing.1.within, c.decreases), (within, (c.requires.within, (st.0, st.2))))

pub read_value-returns-in_err-items-in-Sequence : goal.read_value-returns-in_err-items-in-Sequence
read_value-returns-in_err-items-in-Sequence g t c = λ shape standing.
    let p = err_from_is_err_and c.from_residual-in_err-items-in-Sequence.result c.from_residual-in_err-items-in-Sequence.ensures.1 in
    let bytes = g.S.ByteSource.octets c.args.source.now in
    let st = stands_as standing c.index-operations-place.is c.in-Sequence.is in
    rw (p.1, p.2)
    (fault_mapped (λ ts. ts) values.tree_of bytes c.in_err-items-in-Sequence.field-0.0 (sequence_read (reading st.0) c.in-Sequence.bound c.args.at (drop c.args.at bytes)) (reading shape c.args.at (drop c.args.at bytes)) (λ ts. V.sequence (value_trees ts)) (c.in_err-items-in-Sequence.ensures st.0 st.2) (ap (λ s. reading s c.args.at (drop c.args.at bytes)) st.1))

pub read_value-returns-in_ok-items-in-Sequence : goal.read_value-returns-in_ok-items-in-Sequence
read_value-returns-in_ok-items-in-Sequence g t c = λ shape standing.
    let bytes = g.S.ByteSource.octets c.args.source.now in
    let st = stands_as standing c.index-operations-place.is c.in-Sequence.is in
    let items = c.in_ok-items-in-Sequence.ensures st.0 st.2 in
    (items.0, ap (λ s. reading s c.args.at (drop c.args.at bytes)) st.1 ∙ ap (answer_map (λ ts. V.sequence (value_trees ts))) items.1)

pub read_value-read_values-requires : goal.read_value-read_values-requires
read_value-read_values-requires g t c κs within =
    let standing = c.requires.standing in
    let st = stands_as standing.1 c.index-operations-place.is c.in-Record.is in
    (omega (arith, standing.1.within, c.decreases), (within, (c.requires.within, (st.0, st.2))))

pub read_value-returns-in_err-items-in-Record : goal.read_value-returns-in_err-items-in-Record
read_value-returns-in_err-items-in-Record g t c = λ shape standing.
    let p = err_from_is_err_and c.from_residual-in_err-items-in-Record.result c.from_residual-in_err-items-in-Record.ensures.1 in
    let bytes = g.S.ByteSource.octets c.args.source.now in
    let st = stands_as standing c.index-operations-place.is c.in-Record.is in
    rw (p.1, p.2)
    (fault_mapped (λ ts. ts) values.tree_of bytes c.in_err-items-in-Record.field-0.0 (fields_reading st.0 c.args.at (drop c.args.at bytes)) (reading shape c.args.at (drop c.args.at bytes)) (λ ts. V.«record» (value_trees ts)) (c.in_err-items-in-Record.ensures st.0 st.2) (ap (λ s. reading s c.args.at (drop c.args.at bytes)) st.1))

pub read_value-returns-in_ok-items-in-Record : goal.read_value-returns-in_ok-items-in-Record
read_value-returns-in_ok-items-in-Record g t c = λ shape standing.
    let bytes = g.S.ByteSource.octets c.args.source.now in
    let st = stands_as standing c.index-operations-place.is c.in-Record.is in
    let items = c.in_ok-items-in-Record.ensures st.0 st.2 in
    (items.0, ap (λ s. reading s c.args.at (drop c.args.at bytes)) st.1 ∙ ap (answer_map (λ ts. V.«record» (value_trees ts))) items.1)

pub read_value-read_choice-requires : goal.read_value-read_choice-requires
read_value-read_choice-requires g t c κs within =
    let standing = c.requires.standing in
    let st = stands_as standing.1 c.index-operations-place.is c.in-Choice.is in
    (omega (arith, standing.1.within, c.decreases), (within, (c.requires.within, (st.0, st.2))))

pub read_value-returns-in-Choice : goal.read_value-returns-in-Choice
read_value-returns-in-Choice g t c = λ shape standing.
    let st = stands_as standing c.index-operations-place.is c.in-Choice.is in
    rw st.1 (c.read_choice.ensures st.0 st.2)

-- ---- items

pub read_items-returns-in_err-item : goal.read_items-returns-in_err-item
read_items-returns-in_err-item g t c = λ shape standing.
    let p = err_from_is_err_and c.from_residual.result c.from_residual.ensures.1 in
    let bytes = g.S.ByteSource.octets c.args.source.now in
    rw (p.1, p.2)
    (items_fault values.tree_of bytes c.in_err-item.field-0.0 (reading shape) c.args.count c.loop.counter c.loop.here (drop c.loop.here bytes) c.loop.items _ c.loop-test.true (c.in_err-item.ensures shape standing) (c.loop.invariant.read shape standing))

pub read_items-loop-preserved : goal.read_items-loop-preserved
read_items-loop-preserved g t c =
    let bytes = g.S.ByteSource.octets c.args.source.now in
    record {
      within = (c.in_ok-item.ensures c.requires.standing.0 c.requires.standing.1).0;
      read = λ shape standing.
          let item = c.in_ok-item.ensures shape standing in
          let more = items_more (reading shape) c.args.count c.loop.counter c.loop.here c.in_ok-item.next (drop c.loop.here bytes) (drop c.in_ok-item.next bytes) c.loop.items (values.tree_of c.in_ok-item.item) _ c.loop-test.true item.1 (c.loop.invariant.read shape standing) in
          more ∙ ap (λ ts. behind ts (items_read (reading shape) (c.args.count - (c.loop.counter + 1)) c.in_ok-item.next (drop c.in_ok-item.next bytes))) (sym c.in_ok-push.ensures.ok);
    }

-- ---- one value behind another

pub read_values-read_value-requires : goal.read_values-read_value-requires
read_values-read_value-requires g t c κs within =
    let left = c.loop-operation.invariant.left c.requires.standing.0 c.requires.standing.1 in
    let first = fields_first left.0 c.loop-operation-test.true left.1 in
    (omega (arith, c.loop-operation.invariant.further, c.decreases), (within, (c.loop-operation.invariant.within, (first.shape, first.stand))))

pub read_values-returns-in_err-item : goal.read_values-returns-in_err-item
read_values-returns-in_err-item g t c = λ fields standing.
    let p = err_from_is_err_and c.from_residual.result c.from_residual.ensures.1 in
    let bytes = g.S.ByteSource.octets c.args.source.now in
    let left = c.loop-operation.invariant.left fields standing in
    let first = fields_first left.0 c.loop-operation-test.true left.1 in
    rw (p.1, p.2)
    (fields_fault values.tree_of bytes c.in_err-item.field-0.0 c.loop-operation.here (drop c.loop-operation.here bytes) first c.loop-operation.items _ (c.in_err-item.ensures first.shape first.stand) left.2)

pub read_values-place_behind-operation-requires : goal.read_values-place_behind-operation-requires
read_values-place_behind-operation-requires g t c =
    let left = c.loop-operation.invariant.left c.requires.standing.0 c.requires.standing.1 in
    let first = fields_first left.0 c.loop-operation-test.true left.1 in
    (first.shape, first.stand)

pub read_values-loop-operation-smaller : goal.read_values-loop-operation-smaller
read_values-loop-operation-smaller g t c =
    let left = c.loop-operation.invariant.left c.requires.standing.0 c.requires.standing.1 in
    let first = fields_first left.0 c.loop-operation-test.true left.1 in
    omega (arith, c.place_behind-operation.ensures first.shape first.stand, one_operation first.shape, c.loop-operation-test.true)

pub read_values-loop-operation-preserved : goal.read_values-loop-operation-preserved
read_values-loop-operation-preserved g t c =
    let bytes = g.S.ByteSource.octets c.args.source.now in
    let all = c.loop-operation.invariant.left c.requires.standing.0 c.requires.standing.1 in
    let some = fields_first all.0 c.loop-operation-test.true all.1 in
    record {
      within = (c.in_ok-item.ensures some.shape some.stand).0;
      further = omega (arith, c.loop-operation.invariant.further, c.place_behind-operation.ensures some.shape some.stand);
      left = λ fields standing.
          let left = c.loop-operation.invariant.left fields standing in
          let first = fields_first left.0 c.loop-operation-test.true left.1 in
          let item = c.in_ok-item.ensures first.shape first.stand in
          let more = fields_more c.loop-operation.here c.in_ok-item.next (drop c.loop-operation.here bytes) (drop c.in_ok-item.next bytes) first c.loop-operation.items (values.tree_of c.in_ok-item.item) _ item.1 left.2 in
          (first.others, subst (λ k. FieldsStand c.args.operations.now k c.args.end first.others) (sym (c.place_behind-operation.ensures first.shape first.stand)) first.later, more ∙ ap (λ ts. behind ts (fields_reading first.others c.in_ok-item.next (drop c.in_ok-item.next bytes))) (sym c.in_ok-push.ensures.ok));
    }

pub read_values-returns : goal.read_values-returns
read_values-returns g t c = λ fields standing.
    let bytes = g.S.ByteSource.octets c.args.source.now in
    let left = c.loop-operation.invariant.left fields standing in
    let none = fields_last left.0 c.loop-operation-test.false left.1 in
    (c.loop-operation.invariant.within, fields_all c.loop-operation.here (drop c.loop-operation.here bytes) left.0 c.loop-operation.items _ none left.2)

-- ---- a number and a value of its arm

pub read_choice-read_value-requires : goal.read_choice-read_value-requires
read_choice-read_value-requires g t c κs within =
    let part = c.in-Some.ensures c.requires.standing.0 c.requires.standing.1 in
    (omega (arith, part.0, c.decreases), (within, (c.in_ok-number.ensures.0, (part.1.0, part.1.2))))

pub read_choice-returns-in_err-value-in-Some : goal.read_choice-returns-in_err-value-in-Some
read_choice-returns-in_err-value-in-Some g t c = λ arms standing.
    let p = err_from_is_err_and c.from_residual-in_err-value-in-Some.result c.from_residual-in_err-value-in-Some.ensures.1 in
    let bytes = g.S.ByteSource.octets c.args.source.now in
    let part = c.in-Some.ensures arms standing in
    let chosen = chosen_read arms c.in_ok-number.number c.args.at c.in_ok-number.next (drop c.args.at bytes) (drop c.in_ok-number.next bytes) part.1.0 c.in_ok-number.ensures.1 part.1.1 in
    rw (p.1, p.2)
    (fault_mapped values.tree_of values.tree_of bytes c.in_err-value-in-Some.field-0.0 (reading part.1.0 c.in_ok-number.next (drop c.in_ok-number.next bytes)) (choice_read arms c.args.at (drop c.args.at bytes)) (λ u. V.choice c.in_ok-number.number u) (c.in_err-value-in-Some.ensures part.1.0 part.1.2) chosen)

pub read_choice-returns-in_ok-new-in-Some : goal.read_choice-returns-in_ok-new-in-Some
read_choice-returns-in_ok-new-in-Some g t c = λ arms standing.
    let bytes = g.S.ByteSource.octets c.args.source.now in
    let part = c.in-Some.ensures arms standing in
    let chosen = chosen_read arms c.in_ok-number.number c.args.at c.in_ok-number.next (drop c.args.at bytes) (drop c.in_ok-number.next bytes) part.1.0 c.in_ok-number.ensures.1 part.1.1 in
    let item = c.in_ok-value-in-Some.ensures part.1.0 part.1.2 in
    let value = ap (answer_map (λ u. V.choice c.in_ok-number.number u)) item.1 in
    let kept = ap (λ u. found (V.choice c.in_ok-number.number u) c.in_ok-value-in-Some.behind (drop c.in_ok-value-in-Some.behind bytes)) (sym c.in_ok-new-in-Some.ensures) in
    (item.0, chosen ∙ value ∙ kept)

pub read_choice-returns-in-None : goal.read_choice-returns-in-None
read_choice-returns-in-None g t c = λ arms standing.
    let bytes = g.S.ByteSource.octets c.args.source.now in
    unchosen_read arms c.in_ok-number.number c.args.at c.in_ok-number.next (drop c.args.at bytes) (drop c.in_ok-number.next bytes) c.in_ok-number.ensures.1 (c.in-None.ensures arms standing)
