use Rattle.std.proofs.Common.{◌∙◌, ap, Some, None}
use Rattle.std.proofs.lemmas.Result.{err_from_is_err_and}
use Rattle.circus_stub.specs.Compiled.{raised_operations}
use Rattle.circus_stub.specs.Unpacked.{as_raised, values_unpacked}
use Rattle.circus_stub.proofs.UnpackLemmas.{raised_found, raised_missing, raised_fault, raised_is, is_unlimited}
use Rattle.circus_stub.proofs.stubs.Stubs.raised_from.Goals as goal

pub values_from-requires-clause-flat : goal.values_from-requires-clause-flat
values_from-requires-clause-flat g c =
    let found = raised_found c.requires.0 c.requires.1 c.args.self.now.limit c.in-Some.number c.in-Some-raised_operations.operations.now (c.in-Some-raised_operations.ensures ∙ (λ k. raised_operations (c.requires.2 k) (c.requires.3 k) c.in-Some.number)) in
    (found.0, found.2)

pub returns-in_err-values-in-Some-raised_operations :
    goal.returns-in_err-values-in-Some-raised_operations
returns-in_err-values-in-Some-raised_operations g c = λ i p is same.
    let limit = c.args.self.now.limit in
    let bytes = g.S.ByteSource.octets c.args.source.now in
    let n = c.in-Some.number in
    let found = raised_found i p limit n c.in-Some-raised_operations.operations.now (c.in-Some-raised_operations.ensures ∙ (λ k. raised_operations (is k) (same k) n)) in
    let e = err_from_is_err_and c.from_residual.result c.from_residual.ensures.1 in
    let whole = raised_is i p limit n bytes (Some found.0) c.in-Some.ensures.value found.1 in
    rw (e.1, e.2, whole) (raised_fault n c.in_err-values-in-Some-raised_operations.field-0.0 (values_unpacked found.0 limit 4 bytes) (c.in_err-values-in-Some-raised_operations.ensures found.0 found.2))

pub returns-in_ok-values-in-Some-raised_operations :
    goal.returns-in_ok-values-in-Some-raised_operations
returns-in_ok-values-in-Some-raised_operations g c = λ i p is same.
    let limit = c.args.self.now.limit in
    let bytes = g.S.ByteSource.octets c.args.source.now in
    let n = c.in-Some.number in
    let found = raised_found i p limit n c.in-Some-raised_operations.operations.now (c.in-Some-raised_operations.ensures ∙ (λ k. raised_operations (is k) (same k) n)) in
    raised_is i p limit n bytes (Some found.0) c.in-Some.ensures.value found.1 ∙ ap (as_raised n) (c.in_ok-values-in-Some-raised_operations.ensures found.0 found.2)

pub returns-in-None-length_above : goal.returns-in-None-length_above
returns-in-None-length_above g c = λ i p is same.
    let limit = c.args.self.now.limit in
    let bytes = g.S.ByteSource.octets c.args.source.now in
    let n = c.in-Some.number in
    let missing = raised_missing i p limit n (c.in-None.ensures ∙ (λ k. raised_operations (is k) (same k) n)) in
    raised_is i p limit n bytes None c.in-Some.ensures.value missing ∙ ap (as_raised n) (is_unlimited limit 4 bytes _ c.in-None-length_above.ensures)
