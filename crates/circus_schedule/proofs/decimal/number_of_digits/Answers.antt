use Rattle.std.proofs.Common.{◌≡◌, ◌∙◌, ap, arith, subst}
use Rattle.std.specs.Str.Parse.{AllDigits, digits_value}
use Rattle.std.proofs.lemmas.Int.Digits.{digits_more, digits_value_more}
use Rattle.std.proofs.lemmas.List.{take_all}
use Rattle.circus_schedule.proofs.Numerals.{ends_no_number}
use Rattle.circus_schedule.proofs.decimal.number_of_digits.Goals as goal

pub returns-in_err-number : goal.returns-in_err-number
returns-in_err-number c =
    rw c.from_residual.ensures
    (ends_no_number c.args.text.now c.loop-byte.byte-index c.loop-byte.number c.loop-byte-test.true c.loop-byte.invariant.1 c.in_err-number.ensures)

pub loop-byte-preserved : goal.loop-byte-preserved
loop-byte-preserved c =
    let text = c.args.text.now in
    let place = c.loop-byte.byte-index in
    let more = c.in_ok-number.ensures in (
      digits_more 10 text place c.loop-byte-test.true c.loop-byte.invariant.0 more.0.0,
      omega (arith, more.1, c.loop-byte.invariant.1, digits_value_more 10 text place c.loop-byte-test.true),
      omega (arith, more.0.1, more.1),
    )

pub returns : goal.returns
returns c =
    let all = take_all c.loop-byte.byte-index c.args.text.now c.loop-byte-test.false in
    let value : c.loop-byte.number ≡ digits_value 10 c.args.text.now = c.loop-byte.invariant.1 ∙ ap (digits_value 10) all in
    ((subst (AllDigits 10) all c.loop-byte.invariant.0, omega (arith, value, c.loop-byte.invariant.2)), value)
