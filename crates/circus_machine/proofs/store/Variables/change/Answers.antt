use Rattle.std.proofs.Common.{◌≡◌, List, length, map, Ok, Err, slice_set, refl, sym, ap, subst, ◌∙◌, arith}
use Rattle.std.proofs.lemmas.List.{length-map}
use Rattle.circus_value.specs.ValueOf.{tree_of}
use Rattle.circus_value.specs.ExternalSize.{external_size}
use Rattle.circus_value.specs.declared.value.Value.{Value}
use Rattle.circus_evaluate.specs.declared.part.Step as declared
use Rattle.circus_evaluate.specs.Parts.{part_at, with_part}
use Rattle.circus_evaluate.specs.Putting.{put_over, with_put_item}
use Rattle.circus_evaluate.specs.Given.{given_as}
use Rattle.circus_evaluate.specs.Steps.{step_as}
use Rattle.circus_machine.specs.Seen.Changing.{AreSized, changed_over}
use Rattle.circus_machine.proofs.Keeping.{variable_within, shrinks_within, resized_whole, put_there, stored_is, raised}
use Rattle.circus_machine.proofs.store.Variables.change.Goals as goal

-- the part that the steps lead to
part_is : (value old : Value) (steps seen : List declared.Step) → seen ≡ steps → part_at (map step_as seen) (tree_of value) ≡ Ok (tree_of old) → part_at (map step_as steps) (tree_of value) ≡ Ok (tree_of old)
part_is value old steps seen same is = subst (λ ss. part_at (map step_as ss) (tree_of value) ≡ Ok (tree_of old)) same is

pub sizes_after-requires-clause-part : goal.sizes_after-requires-clause-part
sizes_after-requires-clause-part c =
    shrinks_within c.args.limit 18446744073709551615 c.args.self.now c.from-index.result (changed_over c.args.change (given_as c.args.given)) (map step_as c.in_ok-steps.steps) (tree_of c.in_ok-variable.field-0.now) (tree_of c.in_ok-old.old.now) c.in_ok-put.put c.requires
    c.in_ok-variable.ensures (part_is c.in_ok-variable.field-0.now c.in_ok-old.old.now c.in_ok-steps.steps c.as_slice.result.now c.as_slice.ensures c.in_ok-old.ensures) c.in_ok-put.ensures.meant c.in_ok-put.ensures.sized (omega arith) c.shrinks_by.result c.shrinks_by.ensures

pub sizes_after-requires-clause-there : goal.sizes_after-requires-clause-there
sizes_after-requires-clause-there c =
    variable_within c.args.limit 18446744073709551615 c.args.self.now c.from-index.result (changed_over c.args.change (given_as c.args.given)) (map step_as c.in_ok-steps.steps) (tree_of c.in_ok-variable.field-0.now) (tree_of c.in_ok-old.old.now) c.in_ok-put.put c.requires
    c.in_ok-variable.ensures (part_is c.in_ok-variable.field-0.now c.in_ok-old.old.now c.in_ok-steps.steps c.as_slice.result.now c.as_slice.ensures c.in_ok-old.ensures) c.in_ok-put.ensures.meant c.in_ok-put.ensures.sized (omega arith)

pub returns-in_err-sizes : goal.returns-in_err-sizes
returns-in_err-sizes c =
    let change = changed_over c.args.change (given_as c.args.given) in
    let steps = map step_as c.in_ok-steps.steps in
    let t = tree_of c.in_ok-variable.field-0.now in
    let old = tree_of c.in_ok-old.old.now in
    let put = c.in_ok-put.put in
    let kept = resized_whole c.args.limit 18446744073709551615 c.args.self.now c.from-index.result change steps t old put c.requires
    c.in_ok-variable.ensures (part_is c.in_ok-variable.field-0.now c.in_ok-old.old.now c.in_ok-steps.steps c.as_slice.result.now c.as_slice.ensures c.in_ok-old.ensures) c.in_ok-put.ensures.meant c.in_ok-put.ensures.sized (omega arith) c.shrinks_by.result c.shrinks_by.ensures c.grows_by.result c.grows_by.ensures (Err c.in_err-sizes.field-0.0) c.in_err-sizes.ensures in
    raised c.from_residual-in_err-sizes.result _ c.args.self.now c.in_err-sizes.field-0.0 c.from_residual-in_err-sizes.ensures
    (stored_is c.args.limit c.args.self.now.states c.args.self.now.values c.args.place.now c.from-index.result change steps t old (put_over put old) c.from-index.ensures c.in_ok-steps.ensures c.in_ok-variable.ensures (part_is c.in_ok-variable.field-0.now c.in_ok-old.old.now c.in_ok-steps.steps c.as_slice.result.now c.as_slice.ensures c.in_ok-old.ensures) c.in_ok-put.ensures.meant ∙ kept)

pub set-requires : goal.set-requires
set-requires c =
    let there = variable_within c.args.limit 18446744073709551615 c.args.self.now c.from-index.result (changed_over c.args.change (given_as c.args.given)) (map step_as c.in_ok-steps.steps) (tree_of c.in_ok-variable.field-0.now) (tree_of c.in_ok-old.old.now) c.in_ok-put.put c.requires
    c.in_ok-variable.ensures (part_is c.in_ok-variable.field-0.now c.in_ok-old.old.now c.in_ok-steps.steps c.as_slice.result.now c.as_slice.ensures c.in_ok-old.ensures) c.in_ok-put.ensures.meant c.in_ok-put.ensures.sized (omega arith) in
    omega (arith, there, ap length c.requires.each, length-map c.args.self.now.values external_size)

pub returns : goal.returns
returns c =
    let v = c.args.self.now in
    let change = changed_over c.args.change (given_as c.args.given) in
    let steps = map step_as c.in_ok-steps.steps in
    let t = tree_of c.in_ok-variable.field-0.now in
    let old = tree_of c.in_ok-old.old.now in
    let put = c.in_ok-put.put in
    let kept = resized_whole c.args.limit 18446744073709551615 v c.from-index.result change steps t old put c.requires
    c.in_ok-variable.ensures (part_is c.in_ok-variable.field-0.now c.in_ok-old.old.now c.in_ok-steps.steps c.as_slice.result.now c.as_slice.ensures c.in_ok-old.ensures) c.in_ok-put.ensures.meant c.in_ok-put.ensures.sized (omega arith) c.shrinks_by.result c.shrinks_by.ensures c.grows_by.result c.grows_by.ensures (Ok c.in_ok-sizes.sizes) c.in_ok-sizes.ensures in
    let values_are = c.in_ok-put_item.ensures ∙ ap (λ ss. with_put_item (map step_as ss) put c.from-index.result v.values) c.as_slice-2.ensures ∙ put_there c.args.limit 18446744073709551615 v c.from-index.result change steps t old put c.requires
    c.in_ok-variable.ensures (part_is c.in_ok-variable.field-0.now c.in_ok-old.old.now c.in_ok-steps.steps c.as_slice.result.now c.as_slice.ensures c.in_ok-old.ensures) c.in_ok-put.ensures.meant c.in_ok-put.ensures.sized (omega arith) c.shrinks_by.result c.shrinks_by.ensures in (
      stored_is c.args.limit v.states v.values c.args.place.now c.from-index.result change steps t old (put_over put old) c.from-index.ensures c.in_ok-steps.ensures c.in_ok-variable.ensures (part_is c.in_ok-variable.field-0.now c.in_ok-old.old.now c.in_ok-steps.steps c.as_slice.result.now c.as_slice.ensures c.in_ok-old.ensures) c.in_ok-put.ensures.meant ∙ kept.0 ∙ ap (λ vs. Ok vs) (sym values_are),
      (
        refl,
        subst (λ vs. AreSized (record { values = vs; states = v.states; sizes = c.set.new.self; state_size = c.in_ok-sizes.sizes.state })) (sym values_are)
            (subst (λ ns. AreSized (record { values = slice_set v.values c.from-index.result (with_part steps (put_over put old) t); states = v.states; sizes = ns; state_size = c.in_ok-sizes.sizes.state })) (sym c.set.ensures) kept.1),
      ),
    )
