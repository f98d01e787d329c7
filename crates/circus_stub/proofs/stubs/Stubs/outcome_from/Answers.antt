use Rattle.std.proofs.Common.{◌∙◌, sym, ap, subst, Err}
use Rattle.std.specs.Option.{option_map_or}
use Rattle.circus_idl.specs.declared.interface.Procedure.{Procedure}
use Rattle.circus_external.specs.Octets.{first_word}
use Rattle.circus_stub.specs.declared.fault.StubFault.TheVariants as fault
use Rattle.circus_stub.specs.Compiled.{stub_of}
use Rattle.circus_stub.specs.Unpacked.{Answers, outcome_behind}
use Rattle.circus_stub.proofs.UnpackLemmas.{stub_found, stub_missing}
use Rattle.circus_stub.proofs.stubs.Stubs.outcome_from.Goals as goal

pub outcome_behind-requires : goal.outcome_behind-requires
outcome_behind-requires g c =
    let found = stub_found c.requires.0 c.args.self.now.limit c.args.procedure c.in-Some.stub.now (c.in-Some.ensures ∙ ap (λ s. stub_of s c.args.procedure) c.requires.1) in
    (c.requires.0, found.0, c.requires.1, found.2)

pub returns-in-Some : goal.returns-in-Some
returns-in-Some g c = λ i is.
    let limit = c.args.self.now.limit in
    let bytes = g.S.ByteSource.octets c.args.source.now in
    let found = stub_found i limit c.args.procedure c.in-Some.stub.now (c.in-Some.ensures ∙ ap (λ s. stub_of s c.args.procedure) is) in
    let answer = λ (p : Procedure). outcome_behind i p limit bytes (first_word bytes) in
    subst (λ o. Answers c.outcome_behind.result (option_map_or answer o (Err (fault.NoProcedure c.args.procedure)))) (sym found.1) (c.outcome_behind.ensures i found.0 is found.2)

pub returns-in-None : goal.returns-in-None
returns-in-None g c = λ i is.
    let limit = c.args.self.now.limit in
    let bytes = g.S.ByteSource.octets c.args.source.now in
    let missing = stub_missing i limit c.args.procedure (c.in-None.ensures ∙ ap (λ s. stub_of s c.args.procedure) is) in
    let answer = λ (p : Procedure). outcome_behind i p limit bytes (first_word bytes) in
    ap (λ o. option_map_or answer o (Err (fault.NoProcedure c.args.procedure))) missing
