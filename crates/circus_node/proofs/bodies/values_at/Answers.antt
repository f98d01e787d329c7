use Rattle.std.proofs.Common.{◌≡◌, ◌≤◌, List, ℕ, length, drop, subst, arith, sym, ◌∙◌}
use Rattle.std.specs.Prelude.{Ok}
use Rattle.circus_external.specs.Seen.Given.{Gives}
use Rattle.circus_external.specs.Reading.{fields_reading}
use Rattle.circus_transfer.specs.Snapshot.{fields_of}
use Rattle.circus_node.proofs.BodyLemmas.{values_given, values_fit}
use Rattle.circus_node.proofs.bodies.values_at.Goals as goal

pub read_values-requires : goal.read_values-requires
read_values-requires c =
    let same : c.as_slice.result.now ≡ c.args.message.now = c.as_slice.ensures.value ∙ c.in_ok-bytes.ensures in
    subst (λ (l : List ℕ). c.args.at ≤ length l) (sym same) c.requires

pub returns-in-Ok-clause-read : goal.returns-in-Ok-clause-read
returns-in-Ok-clause-read c =
    let same : c.as_slice.result.now ≡ c.args.message.now = c.as_slice.ensures.value ∙ c.in_ok-bytes.ensures in
    let gives = subst (λ (l : List ℕ). Gives (λ vs. vs) l (Ok (c.in-Ok.values, c.in-Ok.end)) (fields_reading (fields_of c.args.shapes.now) c.args.at (drop c.args.at l))) same c.in-Ok.ensures in
    values_given c.args.shapes.now c.args.most c.args.at c.in-Ok.end c.args.message.now c.in-Ok.values _ (omega (arith, c.len.ensures.value, c.if-len-at.false))
    gives (rw (sym c.len-in-Ok.ensures.value) c.then_some.ensures)

pub returns-in-Ok-clause-fit : goal.returns-in-Ok-clause-fit
returns-in-Ok-clause-fit c =
    let same : c.as_slice.result.now ≡ c.args.message.now = c.as_slice.ensures.value ∙ c.in_ok-bytes.ensures in
    let gives = subst (λ (l : List ℕ). Gives (λ vs. vs) l (Ok (c.in-Ok.values, c.in-Ok.end)) (fields_reading (fields_of c.args.shapes.now) c.args.at (drop c.args.at l))) same c.in-Ok.ensures in
    values_fit c.args.shapes.now c.args.most c.args.at c.args.message.now _ c.len.ensures.octets
    (values_given c.args.shapes.now c.args.most c.args.at c.in-Ok.end c.args.message.now c.in-Ok.values _ (omega (arith, c.len.ensures.value, c.if-len-at.false))
    gives (rw (sym c.len-in-Ok.ensures.value) c.then_some.ensures))
