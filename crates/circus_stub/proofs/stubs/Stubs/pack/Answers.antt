use Rattle.std.proofs.Common.{◌∙◌, ap}
use Rattle.circus_value.specs.ShapeTree.{field_trees}
use Rattle.circus_stub.specs.Compiled.{stub_of}
use Rattle.circus_stub.proofs.UnpackLemmas.{stub_declared, no_stub_missing}
use Rattle.circus_stub.proofs.stubs.Stubs.pack.Goals as goal

pub pack_values-requires : goal.pack_values-requires
pack_values-requires c =
    let same = stub_declared c.requires.0 c.args.self.now.limit c.args.procedure c.requires.2.procedure c.in-Some.stub.now (c.in-Some.ensures ∙ ap (λ s. stub_of s c.args.procedure) c.requires.1) c.requires.2.declared in
    (field_trees c.requires.2.procedure.arguments, c.as_slice.ensures ∙ ap (λ p. p.arguments) same, c.requires.2.admitted)

pub unreachable-requires : goal.unreachable-requires
unreachable-requires c =
    no_stub_missing c.requires.0 c.args.self.now.limit c.args.procedure c.requires.2.procedure (c.in-None.ensures ∙ ap (λ s. stub_of s c.args.procedure) c.requires.1) c.requires.2.declared
