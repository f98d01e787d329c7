use Rattle.std.proofs.Common.{◌≡◌, ◌+◌, Some, None, Ok, Err, slice_get, option_map, option_copied, drop, sym, ap, ◌∙◌}
use Rattle.circus_value.specs.ValueOf.{tree_of}
use Rattle.circus_machine.specs.Storing.{stored_over}
use Rattle.circus_machine.specs.Meaning.{Going, then_does, assign_value, fill_places}
use Rattle.circus_evaluate.specs.Given.{given_as}
use Rattle.circus_machine.specs.Seen.Running.{going_of, nothing}
use Rattle.circus_machine.specs.declared.execution.Execution.{Execution}
use Rattle.circus_machine.proofs.Moving.{then_goes, filled_none, filled_step, drop_past, does_from, does_not, stops, change_does}
use Rattle.circus_machine.proofs.execution.Execution.fill.Goals as goal

pub returns-in_default : goal.returns-in_default
returns-in_default c =
    let states = c.args.self.now.variables.states in
    let places = drop c.loop-place.place-index c.args.places.now in
    let none : slice_get c.args.values.now c.loop-place.place-index ≡ None =
    ap (slice_get c.args.values.now) (sym c.loop-place.invariant.number) ∙ sym c.get.ensures ∙ ap (λ o. option_map tree_of (option_copied o)) c.in_default.is in (
      c.loop-place.invariant.keeps,
      λ replies.
          sym (c.loop-place.invariant.rest replies) ∙ ap (λ ts. fill_places c.args.limit states places ts (going_of c.loop-place.self replies)) (drop_past c.args.values.now c.loop-place.place-index none)
          ∙ filled_none c.args.limit states places (going_of c.loop-place.self replies),
    )

pub returns-in_err-change : goal.returns-in_err-change
returns-in_err-change c =
    let states = c.args.self.now.variables.states in
    let i = c.loop-place.place-index in
    let mid = c.loop-place.self in
    let kept = c.loop-place.invariant.keeps in
    let p = c.place-item.result in
    let given = given_as c.in_ok-given.given in
    let e = c.in_err-change.field-0.0 in
    let more = fill_places c.args.limit states (drop (i + 1) c.args.places.now) (drop (i + 1) c.args.values.now) in
    let there : slice_get c.args.values.now i ≡ Some (tree_of c.in-Some.value.now) =
    ap (slice_get c.args.values.now) (sym c.loop-place.invariant.number) ∙ sym c.get.ensures ∙ ap (λ o. option_map tree_of (option_copied o)) c.in-Some.is in
    let new : Execution = record { variables = c.change.new.self; steps = mid.steps; asks = mid.asks } in
    stops nothing (fill_places c.args.limit states c.args.places.now c.args.values.now) c.from_residual-in_err-change.result e c.args.self.now new c.from_residual-in_err-change.ensures
    (does_from {A = Unit {0}} {X = Going} nothing (fill_places c.args.limit states c.args.places.now c.args.values.now) (λ d. then_does (assign_value c.args.limit mid.variables.states p (stored_over given) d) more) (Err e) c.args.self.now mid new kept
    (λ replies.
    sym (c.loop-place.invariant.rest replies)
    ∙ filled_step c.args.limit states c.args.places.now c.args.values.now i p (tree_of c.in-Some.value.now) given (going_of mid replies) c.loop-place-test.true c.place-item.is there (c.in_ok-given.ensures ∙ c.of.ensures)
    ∙ ap (λ s. then_does (assign_value c.args.limit s p (stored_over given) (going_of mid replies)) more) (sym kept.states))
    (does_not {A = Unit {0}} {B = Unit {0}} {X = Going} {Y = Going} nothing nothing (assign_value c.args.limit mid.variables.states p (stored_over given)) more e mid new
    (change_does c.args.limit (Err e) mid c.change.new.self p (stored_over given) c.in_err-change.ensures)))

pub loop-place-preserved : goal.loop-place-preserved
loop-place-preserved c =
    let states = c.args.self.now.variables.states in
    let i = c.loop-place.place-index in
    let mid = c.loop-place.self in
    let kept = c.loop-place.invariant.keeps in
    let p = c.place-item.result in
    let given = given_as c.in_ok-given.given in
    let more = fill_places c.args.limit states (drop (i + 1) c.args.places.now) (drop (i + 1) c.args.values.now) in
    let there : slice_get c.args.values.now i ≡ Some (tree_of c.in-Some.value.now) =
    ap (slice_get c.args.values.now) (sym c.loop-place.invariant.number) ∙ sym c.get.ensures ∙ ap (λ o. option_map tree_of (option_copied o)) c.in-Some.is in
    let new : Execution = record { variables = c.change.new.self; steps = mid.steps; asks = mid.asks } in
    let (next, does) = change_does c.args.limit (Ok c.in_ok-change.field-0) mid c.change.new.self p (stored_over given) c.in_ok-change.ensures in
    record {
      keeps = record { states = next.states ∙ kept.states; sized = next.sized };
      number = ap (λ n. n + 1) c.loop-place.invariant.number;
      rest = λ replies.
          sym (then_goes (assign_value c.args.limit mid.variables.states p (stored_over given) (going_of mid replies)) (going_of new replies) more (does replies))
          ∙ ap (λ s. then_does (assign_value c.args.limit s p (stored_over given) (going_of mid replies)) more) kept.states
          ∙ sym (filled_step c.args.limit states c.args.places.now c.args.values.now i p (tree_of c.in-Some.value.now) given (going_of mid replies) c.loop-place-test.true c.place-item.is there (c.in_ok-given.ensures ∙ c.of.ensures))
          ∙ c.loop-place.invariant.rest replies;
    }
