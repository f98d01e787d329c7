use Rattle.std.proofs.Common.{◌∙◌, sym, ap, subst, Err}
use Rattle.std.specs.Option.{option_map_or}
use Rattle.circus_idl.specs.declared.interface.Procedure.{Procedure}
use Rattle.circus_value.specs.ShapeTree.{field_trees}
use Rattle.circus_stub.specs.declared.fault.StubFault.TheVariants as fault
use Rattle.circus_stub.specs.Compiled.{stub_of}
use Rattle.circus_stub.specs.Unpacked.{Answers, values_unpacked}
use Rattle.circus_stub.proofs.UnpackLemmas.{stub_found, stub_missing}
use Rattle.circus_stub.proofs.stubs.Stubs.arguments_from.Goals as goal

pub values_from-requires-clause-flat : goal.values_from-requires-clause-flat
values_from-requires-clause-flat g c =
    let limit = c.args.self.now.limit in
    let found = stub_found c.requires.0 limit c.args.procedure c.in-Some.stub.now (c.in-Some.ensures ∙ ap (λ s. stub_of s c.args.procedure) c.requires.1) in
    (field_trees found.0.arguments, c.as_slice.ensures ∙ ap (λ p. p.arguments) found.2)

pub returns-in-Some : goal.returns-in-Some
returns-in-Some g c = λ i is.
    let limit = c.args.self.now.limit in
    let bytes = g.S.ByteSource.octets c.args.source.now in
    let found = stub_found i limit c.args.procedure c.in-Some.stub.now (c.in-Some.ensures ∙ ap (λ s. stub_of s c.args.procedure) is) in
    let answer = λ (p : Procedure). values_unpacked (field_trees p.arguments) limit 0 bytes in
    subst (λ o. Answers c.values_from.result (option_map_or answer o (Err (fault.NoProcedure c.args.procedure)))) (sym found.1) (c.values_from.ensures (field_trees found.0.arguments) (c.as_slice.ensures ∙ ap (λ p. p.arguments) found.2))

pub returns-in-None : goal.returns-in-None
returns-in-None g c = λ i is.
    let limit = c.args.self.now.limit in
    let bytes = g.S.ByteSource.octets c.args.source.now in
    let missing = stub_missing i limit c.args.procedure (c.in-None.ensures ∙ ap (λ s. stub_of s c.args.procedure) is) in
    let answer = λ (p : Procedure). values_unpacked (field_trees p.arguments) limit 0 bytes in
    ap (λ o. option_map_or answer o (Err (fault.NoProcedure c.args.procedure))) missing
