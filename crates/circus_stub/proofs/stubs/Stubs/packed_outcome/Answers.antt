use Rattle.std.proofs.Common.{◌≡◌, true, ◌∙◌, ap, subst}
use Rattle.circus_value.specs.ShapeTree.{field_trees}
use Rattle.circus_external.specs.Spelling.{fields_admit}
use Rattle.circus_stub.specs.Compiled.{raised_operations}
use Rattle.circus_stub.specs.Packed.{MayEnd}
use Rattle.circus_stub.proofs.UnpackLemmas.{raised_found, raised_missing}
use Rattle.circus_stub.proofs.stubs.Stubs.packed_outcome.Goals as goal

pub pack_values-requires : goal.pack_values-requires
pack_values-requires c =
    let ends = subst (MayEnd c.requires.0 c.requires.1) c.in-Returned.is c.requires.4 in
    (field_trees c.requires.1.results, c.as_slice.ensures ∙ ap (λ p. p.results) c.requires.3, ends)

pub pack_values-requires-in-Some : goal.pack_values-requires-in-Some
pack_values-requires-in-Some c =
    let ends = subst (MayEnd c.requires.0 c.requires.1) c.in-Raised.is c.requires.4 in
    let found = raised_found c.requires.0 c.requires.1 c.args.self.now.limit c.in-Raised.error c.in-Some.operations.now (c.in-Some.ensures ∙ (λ k. raised_operations (c.requires.2 k) (c.requires.3 k) c.in-Raised.error)) in
    let same : ends.0 ≡ found.0 = cc (ends.1, found.1) in
    (found.0, found.2, subst (λ fs. fields_admit fs c.in-Raised.values ≡ true) same ends.2)

pub unreachable-requires : goal.unreachable-requires
unreachable-requires c =
    let ends = subst (MayEnd c.requires.0 c.requires.1) c.in-Raised.is c.requires.4 in
    let missing = raised_missing c.requires.0 c.requires.1 c.args.self.now.limit c.in-Raised.error (c.in-None.ensures ∙ (λ k. raised_operations (c.requires.2 k) (c.requires.3 k) c.in-Raised.error)) in
    absurd (cc (ends.1, missing))
