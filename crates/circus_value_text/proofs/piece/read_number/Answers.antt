use Rattle.std.proofs.Common.{drop, arith}
use Rattle.circus_value_text.proofs.PieceLemmas.{number_found, number_missing, found_behind}
use Rattle.circus_value_text.proofs.piece.read_number.Goals as goal

pub returns-in-Some-clause-value : goal.returns-in-Some-clause-value
returns-in-Some-clause-value c =
    let text = drop c.args.at c.args.text.now in
    let rest = c.rest_at-rest.result.now in
    let k = c.digits_of-digits.result in
    let found = number_found c.args.greatest c.in-Some.number k rest c.digits_of-digits.ensures.value c.in-Some.ensures.some.0 c.in-Some.ensures.some.1 (omega arith) in
    let same = c.rest_at-rest.ensures in
    found_behind c.args.text.now c.args.at k c.in-Some.number _ c.requires (rw same at c.digits_of-digits.ensures.within) (rw same at found)

pub returns-in-None-clause-value : goal.returns-in-None-clause-value
returns-in-None-clause-value c =
    let missing = number_missing c.args.greatest c.digits_of-digits.result c.rest_at-rest.result.now c.digits_of-digits.ensures.value c.in-None.ensures.none (omega arith) in
    rw c.rest_at-rest.ensures at missing
