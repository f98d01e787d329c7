use Rattle.std.proofs.Common.{◌≡◌, sym, ◌∙◌, ap}
use Rattle.std.specs.Prelude.{Some}
use Rattle.circus_syntax.specs.Reading.{expect_token}
use Rattle.circus_place.specs.Grammar.{sign_of}
use Rattle.circus_place.specs.Seen.Reading.{an_operand, compared_by, rest_of_relation}
use Rattle.circus_place.proofs.Signs.{sign_is}
use Rattle.circus_place.proofs.value_reading.rest_of_relation.Goals as goal

pub returns-in_ok-operand-in-Some : goal.returns-in_ok-operand-in-Some
unfolding rest_of_relation
returns-in_ok-operand-in-Some c =
    let r = c.args.reader.now in
    let k = c.in-Some.comparison in
    let seen = sym c.in-Some.ensures in
    let right : an_operand (expect_token (sign_of k) r).1 ≡ (c.in_ok-operand-in-Some.field-0, c.operand.new.reader) = ap an_operand (sign_is k r seen ∙ sym c.skip.ensures) ∙ c.in_ok-operand-in-Some.ensures in
    ap (λ o. compared_by o r) seen ∙ ap (λ x. (Some (k, x.0), x.1)) right
