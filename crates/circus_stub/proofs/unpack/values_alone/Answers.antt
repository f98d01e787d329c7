use Rattle.std.proofs.Common.{drop, ◌<◌, ◌≤◌, length, arith}
use Rattle.std.proofs.lemmas.Result.{err_from_is_err_and}
use Rattle.circus_external.specs.Reading.{fields_reading}
use Rattle.circus_stub.proofs.UnpackLemmas.{all_stand, fault_answers, alone_ended, alone_exceeds}
use Rattle.circus_stub.proofs.unpack.values_alone.Goals as goal

pub read_values-requires-clause-standing : goal.read_values-requires-clause-standing
read_values-requires-clause-standing g c =
    (c.requires.flat.0, all_stand c.args.operations.now c.requires.flat.0 c.requires.flat.1)

pub returns-in_err-values : goal.returns-in_err-values
returns-in_err-values g c = λ fields flat.
    let p = err_from_is_err_and c.from_residual.result c.from_residual.ensures.1 in
    let bytes = g.S.ByteSource.octets c.args.source.now in
    rw (p.1, p.2) (fault_answers bytes c.in_err-values.field-0.0 (fields_reading fields c.args.at (drop c.args.at bytes)) (c.in_err-values.ensures fields (all_stand c.args.operations.now fields flat)))

pub returns-then-next-len : goal.returns-then-next-len
returns-then-next-len g c = λ fields flat.
    let bytes = g.S.ByteSource.octets c.args.source.now in
    let read = c.in_ok-values.ensures fields (all_stand c.args.operations.now fields flat) in
    let within : c.in_ok-values.next < length bytes = omega (arith, c.if-next-len.true, c.len.ensures) in
    alone_exceeds bytes c.in_ok-values.values c.in_ok-values.next (fields_reading fields c.args.at (drop c.args.at bytes)) read.1 within

pub returns : goal.returns
returns g c = λ fields flat.
    let bytes = g.S.ByteSource.octets c.args.source.now in
    let read = c.in_ok-values.ensures fields (all_stand c.args.operations.now fields flat) in
    let past : length bytes ≤ c.in_ok-values.next = omega (arith, c.if-next-len.false, c.len.ensures) in
    alone_ended bytes c.in_ok-values.values c.in_ok-values.next (fields_reading fields c.args.at (drop c.args.at bytes)) read.1 past
