use Rattle.std.proofs.Common.{[], ◌∷◌, ◌++◌, map, sym, ◌∙◌, ap}
use Rattle.std.proofs.lemmas.List.{map-append}
use Rattle.circus_syntax.proofs.Tokens.{is_comma}
use Rattle.circus_expression.specs.ExpressionOf.{place_of}
use Rattle.circus_expression.specs.Standing.{place_stands_for}
use Rattle.circus_statement.proofs.Steps.{go_step, go_end, go_shorter, place_item, shrinks_place_item, place_item_is, places_none, places_some}
use Rattle.circus_statement.proofs.part_reading.places_within.Goals as goal

pub returns-then-sees_sign : goal.returns-then-sees_sign
returns-then-sees_sign c = places_none c.args.levels c.args.reader.now (map place_of c.new-places.result) c.sees_sign.result c.sees_sign.ensures c.if-sees_sign.true (ap (map place_of) c.new-places.ensures)

pub loop-reader-init : goal.loop-reader-init
loop-reader-init c =
    places_some c.args.levels c.args.reader.now c.place_text.new.reader (place_of c.in_ok-place_text.field-0) (map place_of c.push.new.self) c.sees_sign.result c.sees_sign.ensures c.if-sees_sign.false c.in_ok-place_text.ensures
    (ap (map place_of) (c.in_ok-push.ensures.ok ∙ ap (λ l. l ++ c.in_ok-place_text.field-0 ∷ []) c.new-places.ensures))

pub loop-reader-smaller : goal.loop-reader-smaller
loop-reader-smaller c =
    go_shorter place_stands_for is_comma (place_item c.args.levels) (shrinks_place_item c.args.levels) c.loop-reader.reader c.place_text-in-loop-reader.new.reader (place_of c.in_ok-place_text-2.field-0) (sym c.sees_sign-in-loop-reader.ensures ∙ c.loop-reader-test.true)
    (place_item_is c.args.levels c.loop-reader.reader c.sign.new.self c.place_text-in-loop-reader.new.reader (place_of c.in_ok-place_text-2.field-0) c.sign.ensures c.in_ok-place_text-2.ensures)

pub loop-reader-preserved : goal.loop-reader-preserved
loop-reader-preserved c =
    go_step place_stands_for is_comma (place_item c.args.levels) (shrinks_place_item c.args.levels) _ (map place_of c.loop-reader.places) (map place_of c.push-in-loop-reader.new.self) c.loop-reader.reader c.place_text-in-loop-reader.new.reader (place_of c.in_ok-place_text-2.field-0)
    c.loop-reader.invariant (sym c.sees_sign-in-loop-reader.ensures ∙ c.loop-reader-test.true)
    (place_item_is c.args.levels c.loop-reader.reader c.sign.new.self c.place_text-in-loop-reader.new.reader (place_of c.in_ok-place_text-2.field-0) c.sign.ensures c.in_ok-place_text-2.ensures)
    (ap (map place_of) c.in_ok-push-2.ensures.ok ∙ map-append place_of c.loop-reader.places (c.in_ok-place_text-2.field-0 ∷ []))

pub returns : goal.returns
returns c = go_end place_stands_for is_comma (place_item c.args.levels) _ (map place_of c.loop-reader.places) c.loop-reader.reader c.loop-reader.invariant (sym c.sees_sign-in-loop-reader.ensures ∙ c.loop-reader-test.false)
