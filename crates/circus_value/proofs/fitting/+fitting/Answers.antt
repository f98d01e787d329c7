use Rattle.std.proofs.Common.{◌≡◌, ◌<◌, ◌≤◌, ◌+◌, ◌&&◌, map, drop, length, arith, sym, ap, ◌∙◌}
use Rattle.std.proofs.lemmas.Bool.{ne_eqb, lt-leb}
use Rattle.std.proofs.Math.ListN.{length-map}
use Rattle.circus_value.specs.ValueTree.{value_trees}
use Rattle.circus_value.specs.ShapeTree.{field_trees}
use Rattle.circus_value.specs.Seen.ValueWeight.{weights}
use Rattle.circus_value.specs.ValueOf.{tree_of}
use Rattle.circus_value.specs.ShapeOf as shapes
use Rattle.circus_value.specs.Fits.{fits, every, fields_fit}
use Rattle.circus_value.proofs.FitLemmas.{weight-item, array_passes, array_fails, sequence_passes, sequence_fails, fields_differ, fields_step, choice_passes, choice_fails}
use Rattle.circus_value.proofs.fitting.+fitting.Goals as goal

pub all_fit-fits-requires : goal.all_fit-fits-requires
all_fit-fits-requires t c =
    let light = weight-item c.as_slice-item-items.result.now c.loop-item.item-index c.item-item.result c.loop-item-test.true c.item-item.is in
    (omega (arith, light, ap (λ ts. weights (value_trees ts)) c.as_slice-item-items.ensures, c.decreases), tt)

pub fields_fit-fits-requires : goal.fields_fit-fits-requires
fields_fit-fits-requires t c =
    let light = weight-item c.as_slice-item-items.result.now c.loop-place.place c.item-item.result c.loop-place-test.true c.item-item.is in
    (omega (arith, light, ap (λ ts. weights (value_trees ts)) c.as_slice-item-items.ensures, c.decreases), tt)

pub fields_fit-returns-then-len : goal.fields_fit-returns-then-len
fields_fit-returns-then-len t c =
    sym (fields_differ c.args.fields.now c.args.items.now (λ same. c.if-len.true (c.len.ensures ∙ same ∙ sym c.len-2.ensures)))

pub fields_fit-returns-then-not-fits : goal.fields_fit-returns-then-not-fits
fields_fit-returns-then-not-fits t c =
    let vs = c.as_slice-item-items.result.now in
    let gs = c.as_slice.result.now in
    let i = c.loop-place.place in
    let few : i < length gs = omega (arith, c.loop-place-test.true, ap length c.as_slice-item-items.ensures, ap length c.as_slice.ensures, length-map vs tree_of, length-map gs shapes.field_of, c.len.ensures, c.len-2.ensures, c.if-len.false) in
    let step = fields_step gs c.args.fields.now vs i c.index-as_slice-place.result c.item-item.result c.as_slice.ensures few c.loop-place-test.true c.item-item.is in
    let rest = fields_fit (field_trees (drop (i + 1) c.args.fields.now)) (value_trees (map tree_of (drop (i + 1) vs))) in
    sym (sym c.loop-place.invariant ∙ step ∙ ap (λ b. b && rest) (sym c.if-not-fits.ensures))

pub fields_fit-loop-place-preserved : goal.fields_fit-loop-place-preserved
fields_fit-loop-place-preserved t c =
    let vs = c.as_slice-item-items.result.now in
    let gs = c.as_slice.result.now in
    let i = c.loop-place.place in
    let few : i < length gs = omega (arith, c.loop-place-test.true, ap length c.as_slice-item-items.ensures, ap length c.as_slice.ensures, length-map vs tree_of, length-map gs shapes.field_of, c.len.ensures, c.len-2.ensures, c.if-len.false) in
    let step = fields_step gs c.args.fields.now vs i c.index-as_slice-place.result c.item-item.result c.as_slice.ensures few c.loop-place-test.true c.item-item.is in
    let rest = fields_fit (field_trees (drop (i + 1) c.args.fields.now)) (value_trees (map tree_of (drop (i + 1) vs))) in
    ap (λ b. b && rest) c.if-not-fits.ensures ∙ sym step ∙ c.loop-place.invariant

pub fits-returns-then-len-from : goal.fits-returns-then-len-from
fits-returns-then-len-from t c =
    let count : length c.in-Array-Array.items ≡ c.in-Array-Array.len = omega (arith, c.len.ensures, c.from.ensures, c.if-len-from.true) in
    rw (c.in-Array-Array.is-0, c.in-Array-Array.is-1) (c.all_fit.ensures ∙ ap (λ s. every (fits s) (value_trees c.in-Array-Array.items)) c.shape.ensures ∙ array_passes c.in-Array-Array.len (fits c.in-Array-Array.element) c.in-Array-Array.items count)

pub fits-returns-else-len-from : goal.fits-returns-else-len-from
fits-returns-else-len-from t c =
    let fails = array_fails c.in-Array-Array.len (fits c.in-Array-Array.element) c.in-Array-Array.items (λ same. c.if-len-from.false (c.len.ensures ∙ same ∙ sym c.from.ensures)) in
    rw (c.in-Array-Array.is-0, c.in-Array-Array.is-1) (ne_eqb c.len.result c.from.result c.if-len-from.false ∙ sym fails)

pub fits-returns-then-len-from-2 : goal.fits-returns-then-len-from-2
fits-returns-then-len-from-2 t c =
    let count : length c.in-Sequence-Sequence.items ≤ c.in-Sequence-Sequence.bound = omega (arith, c.len-in-Sequence-Sequence.ensures, c.from-in-Sequence-Sequence.ensures, c.if-len-from-2.true) in
    rw (c.in-Sequence-Sequence.is-0, c.in-Sequence-Sequence.is-1) (c.all_fit-then-len-from-2.ensures ∙ ap (λ s. every (fits s) (value_trees c.in-Sequence-Sequence.items)) c.shape-then-len-from-2.ensures ∙ sequence_passes c.in-Sequence-Sequence.bound (fits c.in-Sequence-Sequence.element) c.in-Sequence-Sequence.items count)

pub fits-returns-else-len-from-2 : goal.fits-returns-else-len-from-2
fits-returns-else-len-from-2 t c =
    let many : c.in-Sequence-Sequence.bound < length c.in-Sequence-Sequence.items = omega (arith, c.len-in-Sequence-Sequence.ensures, c.from-in-Sequence-Sequence.ensures, c.if-len-from-2.false) in
    let fails = sequence_fails c.in-Sequence-Sequence.bound (fits c.in-Sequence-Sequence.element) c.in-Sequence-Sequence.items many in
    rw (c.in-Sequence-Sequence.is-0, c.in-Sequence-Sequence.is-1) (lt-leb c.len-in-Sequence-Sequence.result c.from-in-Sequence-Sequence.result c.if-len-from-2.false ∙ sym fails)

pub fits-returns-in-Some : goal.fits-returns-in-Some
fits-returns-in-Some t c =
    let small : c.in-Choice-Choice.number < 65536 = omega (arith, c.if-prove-6.false) in
    rw (c.in-Choice-Choice.is-0, c.in-Choice-Choice.is-1) (c.fits.ensures ∙ ap (fits (shapes.tree_of c.in-Some.shape.now)) c.value.ensures ∙ choice_passes c.in-Choice-Choice.arms c.in-Choice-Choice.number c.in-Choice-Choice.chosen (shapes.tree_of c.in-Some.shape.now) small (sym c.in-Some.ensures))

pub fits-returns-in-None : goal.fits-returns-in-None
fits-returns-in-None t c =
    rw (c.in-Choice-Choice.is-0, c.in-Choice-Choice.is-1) (sym (choice_fails c.in-Choice-Choice.arms c.in-Choice-Choice.number c.in-Choice-Choice.chosen (sym c.in-None.ensures)))
