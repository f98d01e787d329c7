use Rattle.std.proofs.Common.{◌∙◌, IsTrue, subst, sym}
use Rattle.std.proofs.lemmas.Bool.{false≢true}
use Rattle.circus_schedule.proofs.Numerals.{BeginsAsDecimal, decimal_begins, read_is_spelled}
use Rattle.circus_schedule.proofs.decimal.read_decimal.Goals as goal

pub returns-then-not-begins_as_decimal-clause-none :
    goal.returns-then-not-begins_as_decimal-clause-none
returns-then-not-begins_as_decimal-clause-none c = λ number small spelled.
    let begins : IsTrue c.begins_as_decimal.result = c.begins_as_decimal.ensures.1 (subst BeginsAsDecimal (sym spelled) (decimal_begins number small)) in
    false≢true (sym c.if-not-begins_as_decimal.true ∙ begins)

pub returns-clause-some : goal.returns-clause-some
returns-clause-some c =
    let begins = c.begins_as_decimal.ensures.0 c.if-not-begins_as_decimal.false in
    (read_is_spelled c.args.text.now c.number_of_digits.result begins c.number_of_digits.ensures).0

pub returns-clause-none : goal.returns-clause-none
returns-clause-none c =
    let begins = c.begins_as_decimal.ensures.0 c.if-not-begins_as_decimal.false in
    (read_is_spelled c.args.text.now c.number_of_digits.result begins c.number_of_digits.ensures).1
